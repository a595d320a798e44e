use Rattle.std.proofs.lemmas.Result.{err_from_is_err_and}
use Rattle.act_code.specs.ScriptReading.{many, checked_at}
use Rattle.act_code.proofs.Many.{goes_on, ends, is_done}
use Rattle.act_code.proofs.block.actions_of.Goals as goal

pub returns-in_err-action : goal.returns-in_err-action
returns-in_err-action c =
    let p = err_from_is_err_and c.from_residual-in_err-action.result c.from_residual-in_err-action.ensures.1 in
    rw (p.1, p.2) (ends (checked_at c.args.header) c.in_err-action.field-0.0 c.loop-done.actions c.args.count c.loop-done.done c.loop-done.rest.now (many (checked_at c.args.header) c.args.count c.args.bytes.now) c.loop-done-test.true c.in_err-action.ensures c.loop-done.invariant)

pub loop-done-preserved : goal.loop-done-preserved
loop-done-preserved c =
    goes_on (checked_at c.args.header) c.loop-done.actions c.push.new.self c.args.count c.loop-done.done c.loop-done.rest.now c.in_ok-action.action c.in_ok-action.after.now (many (checked_at c.args.header) c.args.count c.args.bytes.now)
    c.loop-done-test.true c.in_ok-action.ensures c.in_ok-push.ensures.ok c.loop-done.invariant

pub returns : goal.returns
returns c = is_done (checked_at c.args.header) c.loop-done.actions c.args.count c.loop-done.done c.loop-done.rest.now (many (checked_at c.args.header) c.args.count c.args.bytes.now) c.loop-done-test.false c.loop-done.invariant
