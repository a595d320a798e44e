use Rattle.std.proofs.Common.{◌++◌}
use Rattle.boot_io.proofs.PutsLaws.{part_of_more, puts_err, puts_then}
use Rattle.tools_core.specs.FollowText.{passed_text}
use Rattle.tools_core.proofs.follow_print.put_passed.Goals as goal

pub returns-clause-text : goal.returns-clause-text
returns-clause-text g c =
    let T = g.S.Sink.text in
    puts_then c.put_pass_end.result (T c.args.sink.now) (T c.put.new.self) (T c.put_pass_end.new.sink) c.args.lines.now (passed_text c.args.passed.now) c.in_ok-put.ensures.text c.put_pass_end.ensures.text

pub returns-in_err-put-clause-text : goal.returns-in_err-put-clause-text
returns-in_err-put-clause-text g c =
    let T = g.S.Sink.text in
    let lines = c.args.lines.now in
    let last = passed_text c.args.passed.now in
    puts_err c.from_residual.result (T c.args.sink.now) (T c.put.new.self) (lines ++ last) c.from_residual.ensures.0
    (part_of_more (T c.args.sink.now) (T c.put.new.self) lines last c.in_err-put.ensures.text)
