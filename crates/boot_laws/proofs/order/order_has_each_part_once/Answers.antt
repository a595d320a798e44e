use Rattle.boot_laws.proofs.PeiOrders.{order_has_each_part_once}
use Rattle.boot_laws.proofs.order.order_has_each_part_once.Goals as goal

pub returns : goal.returns
returns c = order_has_each_part_once
