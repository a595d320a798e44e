use Rattle.std.proofs.Common.{◌≡◌, ◌^◌, ◌-◌, length, take, min}
use Rattle.fv_volume.specs.Sections.{body_bytes}
use Rattle.fv_volume.proofs.build.size.sections_len.Given as goal

abbrev pub invariant-loop-section : goal.invariant-loop-section
invariant-loop-section l = l.end ≡ min (length (body_bytes l.file_system (take l.section-index l.sections))) (2 ^ 64 - 1)
