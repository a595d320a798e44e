use Rattle.boot_laws.proofs.QueueOrder as Law
use Rattle.boot_laws.proofs.dxe.queues_start_in_order.Goals as goal

pub returns : goal.returns
returns c = Law.queues_start_in_order
