use Rattle.std.proofs.Common.{◌≡◌, ◌^◌, ◌-◌, length, take, map, min}
use Rattle.fv_volume.specs.Sections.{body_bytes}
use Rattle.volume_print.specs.Description.{section_in}
use Rattle.volume_print.proofs.place.sections_len.Given as goal

abbrev pub invariant-sections : goal.invariant-sections
invariant-sections l = l.end ≡ min (length (body_bytes l.file_system (map (section_in l.stream) (take l.section-index l.sections)))) (2 ^ 64 - 1)
