use Rattle.dxe_core.proofs.order.DriverOrder.add.Goals as goal

pub add_counted-requires-clause-order : goal.add_counted-requires-clause-order
add_counted-requires-clause-order c = c.requires.order
