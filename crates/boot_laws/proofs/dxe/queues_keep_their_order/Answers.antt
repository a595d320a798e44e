use Rattle.boot_laws.proofs.QueueOrder as Law
use Rattle.boot_laws.proofs.dxe.queues_keep_their_order.Goals as goal

pub returns : goal.returns
returns c = Law.queues_keep_their_order
