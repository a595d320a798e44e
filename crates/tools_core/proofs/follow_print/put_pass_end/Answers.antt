use Rattle.std.proofs.Common.{◌++◌}
use Rattle.boot_io.proofs.PutsLaws.{part_of_more, puts_err, puts_then}
use Rattle.boot_io.specs.Line.{line_of}
use Rattle.recorded_boot.specs.declared.follow.against.Against.TheVariants.{NotEligible}
use Rattle.tools_core.specs.{FollowText.against_line, FollowText.start_words, Refusals.no_text}
use Rattle.tools_core.proofs.follow_print.put_pass_end.Goals as goal

pub returns-in_err-put_turn-in-No-clause-text : goal.returns-in_err-put_turn-in-No-clause-text
returns-in_err-put_turn-in-No-clause-text g c =
    let T = g.S.Sink.text in
    let turn = c.in-No.turn in
    let first = line_of no_text (start_words turn.start) in
    let rest = against_line (NotEligible turn.lacks) in
    rw c.in-No.is (puts_err c.from_residual.result (T c.args.sink.now) (T c.put_turn.new.sink) (first ++ rest) c.from_residual.ensures.0
    (part_of_more (T c.args.sink.now) (T c.put_turn.new.sink) first rest c.in_err-put_turn-in-No.ensures.text))

pub returns-in_ok-put_turn-in-No-clause-text : goal.returns-in_ok-put_turn-in-No-clause-text
returns-in_ok-put_turn-in-No-clause-text g c =
    let T = g.S.Sink.text in
    let turn = c.in-No.turn in
    let first = line_of no_text (start_words turn.start) in
    let rest = against_line (NotEligible turn.lacks) in
    rw c.in-No.is (puts_then c.put_lacking.result (T c.args.sink.now) (T c.put_turn.new.sink) (T c.put_lacking.new.sink) first rest c.in_ok-put_turn-in-No.ensures.text (rw c.as_slice.ensures at c.put_lacking.ensures.text))
