use Rattle.std.proofs.Common.{◌≡◌, ◌^◌, ◌-◌, take, min}
use Rattle.fv_volume.specs.Building.{need}
use Rattle.fv_volume.proofs.build.size.need.Given as goal

abbrev pub invariant-loop-file : goal.invariant-loop-file
invariant-loop-file l = l.end ≡ min (need l.file_system l.from (take l.file-index l.files)) (2 ^ 64 - 1)
