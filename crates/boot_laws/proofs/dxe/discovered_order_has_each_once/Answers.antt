use Rattle.boot_laws.proofs.dxe.discovered_order_has_each_once.Goals as goal
use Rattle.boot_laws.proofs.DxeOnce.{order_has_each_once}

pub returns : goal.returns
returns c = order_has_each_once
