use Rattle.std.proofs.Common.{[], ◌∷◌, ◌++◌, flat_map}
use Rattle.boot_io.proofs.PutsLaws.{appends_then, part_of_more, part_then, puts_err, puts_then}
use Rattle.tools_core.specs.FollowText.{guid_word, not_eligible_text}
use Rattle.tools_core.proofs.follow_print.put_lacking.Goals as goal

pub returns-in_err-put_guids-clause-text : goal.returns-in_err-put_guids-clause-text
returns-in_err-put_guids-clause-text g c =
    let T = g.S.Sink.text in
    let words = flat_map guid_word c.args.guids.now in
    let first = rw c.not_eligible_text.ensures at c.in_ok-put.ensures.text in
    puts_err c.from_residual-in_err-put_guids.result (T c.args.sink.now) (T c.put_guids.new.sink) ((not_eligible_text ++ words) ++ 10 ∷ []) c.from_residual-in_err-put_guids.ensures.0
    (part_of_more (T c.args.sink.now) (T c.put_guids.new.sink) (not_eligible_text ++ words) (10 ∷ [])
    (part_then (T c.args.sink.now) (T c.put.new.self) (T c.put_guids.new.sink) not_eligible_text words first c.in_err-put_guids.ensures.text))

pub returns-clause-text : goal.returns-clause-text
returns-clause-text g c =
    let T = g.S.Sink.text in
    let words = flat_map guid_word c.args.guids.now in
    let first = rw c.not_eligible_text.ensures at c.in_ok-put.ensures.text in
    puts_then c.put-2.result (T c.args.sink.now) (T c.put_guids.new.sink) (T c.put-2.new.self) (not_eligible_text ++ words) (10 ∷ [])
    (appends_then (T c.args.sink.now) (T c.put.new.self) (T c.put_guids.new.sink) not_eligible_text words first c.in_ok-put_guids.ensures.text) c.put-2.ensures.text
