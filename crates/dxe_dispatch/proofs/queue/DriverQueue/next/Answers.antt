use Rattle.std.proofs.Common.{arith}
use Rattle.dxe_dispatch.proofs.Filling.{comes_next, takes_driver, takes_for, takes_owes}
use Rattle.dxe_dispatch.proofs.queue.DriverQueue.next.Goals as goal

pub returns-clause-row : goal.returns-clause-row
returns-clause-row g c m seen = comes_next c.args.catalog.now m c.fill.new.self c.take.new.self c.take.result (c.in_ok-fill.ensures.filled m seen) c.take.ensures

pub returns-clause-driver : goal.returns-clause-driver
returns-clause-driver g c = takes_driver c.args.catalog.now c.fill.new.self c.take.new.self c.take.result c.in_ok-fill.ensures.made c.take.ensures

pub returns-clause-made : goal.returns-clause-made
returns-clause-made g c = takes_for c.args.catalog.now c.fill.new.self c.take.new.self c.take.result c.in_ok-fill.ensures.made c.take.ensures

pub returns-clause-owes : goal.returns-clause-owes
returns-clause-owes g c = let same = takes_owes c.fill.new.self c.take.new.self c.take.result c.take.ensures in let few = c.in_ok-fill.ensures.owes in omega (arith, same, few)
