use Rattle.std.proofs.Common.{◌∙◌}
use Rattle.boot_io.proofs.PutsLaws.{puts_err}
use Rattle.gcd_map.proofs.Prints.{more_at, part_at}
use Rattle.tools_core.specs.FollowText.{guid_word}
use Rattle.tools_core.proofs.follow_print.put_guids.Goals as goal

pub returns-in_err-put_guid-clause-text : goal.returns-in_err-put_guid-clause-text
returns-in_err-put_guid-clause-text g c =
    let T = g.S.Sink.text in
    puts_err c.from_residual.result (T c.args.sink.now) (T c.put_guid.new.sink) _ c.from_residual.ensures.0
    (part_at guid_word c.args.guids.now c.put.guid-index _ (T c.args.sink.now) (T c.put.sink) (T c.put_guid.new.sink) c.put-test.true c.put.invariant.text c.in_err-put_guid.ensures.text)

pub put-preserved : goal.put-preserved
put-preserved g c =
    let T = g.S.Sink.text in
    record {
      text = more_at guid_word c.args.guids.now c.put.guid-index _ (T c.args.sink.now) (T c.put.sink) (T c.put_guid.new.sink) c.put-test.true c.put.invariant.text c.in_ok-put_guid.ensures.text;
      count = c.in_ok-put_guid.ensures.cause ∙ c.put.invariant.count;
    }
