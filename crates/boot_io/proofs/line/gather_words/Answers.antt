use Rattle.std.proofs.Common.{◌≡◌, ◌++◌, List, ℕ, ◌+◌, sym, ap, ◌∙◌, Ok, append_assoc, get_or, take, drop, subst}
use Rattle.boot_io.specs.{Line.spaced, Sink.AppendsPart}
use Rattle.boot_io.proofs.PutsLaws.{gathers_then, part_then, gathers_fails, gathers_err}
use Rattle.boot_io.proofs.LineLemmas.{words_text, words_more, words_split}
use Rattle.boot_io.proofs.line.gather_words.Goals as goal

pub returns-in_err-gather_word-clause-text : goal.returns-in_err-gather_word-clause-text
returns-in_err-gather_word-clause-text g c =
    let T = g.S.Sink.text in
    let words = c.args.words.now in
    let i = c.loop-word.word-index in
    let line = c.args.line.now.items in
    let before = c.loop-word.invariant.text in
    let word = spaced (get_or words i _).now in
    let P : List ℕ → Type 0 = λ text. AppendsPart (T c.args.sink.now) (T c.gather_word.new.sink) text in
    let met : before.0 ++ (c.loop-word.line.items ++ word) ≡ line ++ words_text (take (i + 1) words) =
    sym (append_assoc before.0 c.loop-word.line.items word) ∙ ap (λ t. t ++ word) before.2 ∙ append_assoc line (words_text (take i words)) word
    ∙ ap (λ t. line ++ t) (sym (words_more words i _ c.loop-word-test.true)) in
    let whole : (words_text (take (i + 1) words)) ++ words_text (drop (i + 1) words) ≡ words_text words = words_split words (i + 1) in
    gathers_err c.from_residual.result (T c.args.sink.now) (T c.gather_word.new.sink) line c.gather_word.new.line.items (words_text words) c.from_residual.ensures.0
    (subst P (ap (λ t. line ++ t) whole) (gathers_fails (T c.args.sink.now) (T c.gather_word.new.sink) line (words_text (take (i + 1) words)) (words_text (drop (i + 1) words))
    (subst P met (part_then (T c.args.sink.now) (T c.loop-word.sink) (T c.gather_word.new.sink) before.0 (c.loop-word.line.items ++ word) before.1 c.in_err-gather_word.ensures.text))))

pub loop-word-preserved : goal.loop-word-preserved
loop-word-preserved g c =
    let T = g.S.Sink.text in
    let words = c.args.words.now in
    let i = c.loop-word.word-index in
    let line = c.args.line.now.items in
    let word = spaced (get_or words i _).now in
    let more = gathers_then (Ok tt) (T c.args.sink.now) (T c.loop-word.sink) (T c.gather_word.new.sink) line c.loop-word.line.items c.gather_word.new.line.items
    (words_text (take i words)) word c.loop-word.invariant.text c.in_ok-gather_word.ensures.text in
    record {
      text = (more.0, more.1, more.2 ∙ ap (λ t. line ++ t) (sym (words_more words i _ c.loop-word-test.true)));
      count = c.in_ok-gather_word.ensures.cause ∙ c.loop-word.invariant.count;
    }
