use Rattle.dxe_dispatch.proofs.Chosen.{asked, not_asked}
use Rattle.dxe_dispatch.proofs.aim.named.Goals as goal

pub returns-then-is_choice : goal.returns-then-is_choice
returns-then-is_choice g c catalog = asked ((g.C.Choice.rules c.args.choice.now).drivers c.args.sink.now c.args.before) catalog c.args.dxe.now c.args.queue.now c.is_choice.result c.driver.result c.is_choice.ensures c.if-is_choice.true c.driver.ensures

pub returns-else-is_choice : goal.returns-else-is_choice
returns-else-is_choice g c catalog = not_asked ((g.C.Choice.rules c.args.choice.now).drivers c.args.sink.now c.args.before) catalog c.args.dxe.now c.args.queue.now c.is_choice.result c.is_choice.ensures c.if-is_choice.false
