use Rattle.std.proofs.lemmas.Result.{err_from_is_err_and}
use Rattle.act_code.specs.ScriptReading.{many, block_at}
use Rattle.act_code.proofs.Many.{goes_on, ends, is_done}
use Rattle.act_code.proofs.block.blocks_of.Goals as goal

pub returns-in_err-actions : goal.returns-in_err-actions
returns-in_err-actions c =
    let p = err_from_is_err_and c.from_residual.result c.from_residual.ensures.1 in
    rw (p.1, p.2) (ends (λ _. block_at c.args.header) c.in_err-actions.field-0.0 c.loop.blocks c.args.header.blocks c.loop.counter c.loop.rest.now (many (λ _. block_at c.args.header) c.args.header.blocks c.args.bytes.now) c.loop-test.true c.in_err-actions.ensures c.loop.invariant)

pub loop-preserved : goal.loop-preserved
loop-preserved c =
    goes_on (λ _. block_at c.args.header) c.loop.blocks c.push.new.self c.args.header.blocks c.loop.counter c.loop.rest.now c.in_ok-actions.actions c.in_ok-actions.after.now (many (λ _. block_at c.args.header) c.args.header.blocks c.args.bytes.now)
    c.loop-test.true c.in_ok-actions.ensures c.in_ok-push.ensures.ok c.loop.invariant

pub returns : goal.returns
returns c = is_done (λ _. block_at c.args.header) c.loop.blocks c.args.header.blocks c.loop.counter c.loop.rest.now (many (λ _. block_at c.args.header) c.args.header.blocks c.args.bytes.now) c.loop-test.false c.loop.invariant
