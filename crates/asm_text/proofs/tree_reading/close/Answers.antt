use Rattle.std.proofs.Common.{subst, IfOk}
use Rattle.asm_text.specs.Walk.{Goes, closed}
use Rattle.asm_text.proofs.tree_reading.close.Goals as goal

pub returns-in-Some-clause-goes : goal.returns-in-Some-clause-goes
returns-in-Some-clause-goes c = λ waiting.
    subst (λ next. IfOk c.ended_by.result (Goes (closed waiting c.args.code.now c.args.operator next) waiting c.ended_by.new.code)) c.in-Some.ensures.found (c.ended_by.ensures.goes waiting)
