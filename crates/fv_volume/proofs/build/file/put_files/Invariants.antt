use Rattle.std.proofs.Common.{◌≡◌, ◌++◌, length, take}
use Rattle.fv_volume.specs.Building.{files_bytes}
use Rattle.fv_volume.proofs.build.file.put_files.Given as goal

abbrev pub invariant-loop-file : goal.invariant-loop-file
invariant-loop-file l = l.out ≡ l.fn.out ++ files_bytes l.file_system (length l.fn.out) (take l.file-index l.files)
