use Rattle.free_laws.proofs.CompanionStarts.{start_beside}
use Rattle.free_laws.proofs.dxe.free_companions_start_beside.Goals as goal

pub returns : goal.returns
returns c = start_beside c.dxe_opens.ensures.opens c.dxe_opens.ensures.nearer
