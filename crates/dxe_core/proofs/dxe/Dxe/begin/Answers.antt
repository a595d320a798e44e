use Rattle.std.proofs.Common.{refl, sym}
use Rattle.dxe_core.proofs.dxe.Dxe.begin.Goals as goal

pub returns-clause-opening : goal.returns-clause-opening
returns-clause-opening c s = record { frames = sym c.new.ensures; services = c.in_ok-begin.ensures.opening s c.args.taken; actions = refl; running = refl }
