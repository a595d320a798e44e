use Rattle.std.proofs.Common.{◌≡◌, ◌++◌, take}
use Rattle.fv_volume.specs.Sections.{body_bytes}
use Rattle.fv_volume.proofs.build.section.put_sections.Given as goal

abbrev pub invariant-loop-section : goal.invariant-loop-section
invariant-loop-section l = l.out ≡ l.fn.out ++ body_bytes l.file_system (take l.section-index l.sections)
