use Rattle.std.proofs.Common.{arith}
use Rattle.fv_volume.proofs.VolumesRead.{read_as}
use Rattle.volume_again.proofs.law.built_again.Goals as goal

pub returns : goal.returns
returns c = λ form name files len small header placed most whole named none. read_as form name files len small header placed whole (omega (arith, most)) none named
