use Rattle.std.proofs.Common.{◌++◌}
use Rattle.boot_io.proofs.PutsLaws.{part_of_more, puts_err, puts_then}
use Rattle.tools_core.specs.{FollowText.against_line, Refusals.no_line}
use Rattle.tools_core.proofs.follow_print.put_last.Goals as goal

pub returns-in_err-put_no-in-No-clause-text : goal.returns-in_err-put_no-in-No-clause-text
returns-in_err-put_no-in-No-clause-text g c =
    let T = g.S.Sink.text in
    let line = c.in-No.line in
    let against = c.in-No.against in
    rw c.in-No.is (puts_err c.from_residual.result (T c.args.sink.now) (T c.put_no.new.sink) (no_line line ++ against_line against) c.from_residual.ensures.0
    (part_of_more (T c.args.sink.now) (T c.put_no.new.sink) (no_line line) (against_line against) c.in_err-put_no-in-No.ensures.text))

pub returns-in_ok-put_no-in-No-clause-text : goal.returns-in_ok-put_no-in-No-clause-text
returns-in_ok-put_no-in-No-clause-text g c =
    let T = g.S.Sink.text in
    let line = c.in-No.line in
    let against = c.in-No.against in
    rw c.in-No.is (puts_then c.put_against.result (T c.args.sink.now) (T c.put_no.new.sink) (T c.put_against.new.sink) (no_line line) (against_line against) c.in_ok-put_no-in-No.ensures.text c.put_against.ensures.text)
