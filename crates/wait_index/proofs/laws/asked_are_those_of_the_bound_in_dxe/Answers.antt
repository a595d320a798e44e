use Rattle.wait_index.proofs.Asked.{dxe_asks}
use Rattle.wait_index.proofs.laws.asked_are_those_of_the_bound_in_dxe.Goals as goal

pub returns : goal.returns
returns c = dxe_asks
