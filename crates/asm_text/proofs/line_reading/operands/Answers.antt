use Rattle.asm_text.proofs.LineSources.{operands_found, operands_fail}
use Rattle.asm_text.proofs.line_reading.operands.Goals as goal

pub returns-in-Ok : goal.returns-in-Ok
returns-in-Ok c = rw (operands_found c.args.code c.args.text.now (c.in-Ok.action, (c.in-Ok.rest.code, c.in-Ok.rest.text.now)) c.in-Ok.ensures) c.ended.ensures

pub returns-in-Err : goal.returns-in-Err
returns-in-Err c = operands_fail c.args.code c.args.text.now c.in-Err.unread c.in-Err.ensures
