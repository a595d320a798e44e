use Rattle.std.proofs.Common.{All, take}
use Rattle.fv_volume.specs.Files.{HasWholeName}
use Rattle.fv_volume.proofs.build.size.have_whole_names.Given as goal

abbrev pub invariant-loop-file : goal.invariant-loop-file
invariant-loop-file l = All HasWholeName (take l.file-index l.files)
