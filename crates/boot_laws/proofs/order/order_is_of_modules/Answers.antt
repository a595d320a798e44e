use Rattle.boot_laws.proofs.PeiOrders.{order_of_modules}
use Rattle.boot_laws.proofs.order.order_is_of_modules.Goals as goal

pub returns : goal.returns
returns c = order_of_modules
