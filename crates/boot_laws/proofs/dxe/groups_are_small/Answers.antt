use Rattle.boot_laws.proofs.dxe.groups_are_small.Goals as goal
use Rattle.boot_laws.proofs.GroupUnfolds as Unfolds

pub returns : goal.returns
returns c = Unfolds.groups_are_small
