use Rattle.std.proofs.Common.{◌≡◌, ◌++◌, List, ℕ, [], ◌∷◌, sym, ap, ◌∙◌, Ok, Err, append_assoc, subst, flat_map}
use Rattle.boot_io.specs.{Line.spaced, Line.line_of, Sink.AppendsPart}
use Rattle.boot_trace.specs.Pieces.{piece_texts}
use Rattle.boot_io.proofs.PutsLaws.{gathers_then, gathers_fails, gathers_puts, puts_err}
use Rattle.boot_trace.proofs.gather.put_words.Goals as goal

pub returns-in_err-gather-clause-text : goal.returns-in_err-gather-clause-text
returns-in_err-gather-clause-text g c =
    let T = g.S.Sink.text in
    let keyword = c.args.keyword.now in
    let words = flat_map spaced (piece_texts c.args.words.now) in
    let P : List ℕ → Type 0 = λ text. AppendsPart (T c.args.sink.now) (T c.gather.new.sink) text in
    let all : c.new-line.result.items ++ (keyword ++ (words ++ 10 ∷ [])) ≡ (keyword ++ words) ++ 10 ∷ [] =
    ap (λ t. t ++ (keyword ++ (words ++ 10 ∷ []))) c.new-line.ensures ∙ sym (append_assoc keyword words (10 ∷ [])) in
    puts_err c.from_residual.result (T c.args.sink.now) (T c.gather.new.sink) (line_of keyword (piece_texts c.args.words.now)) c.from_residual.ensures.0
    (subst P all (gathers_fails (T c.args.sink.now) (T c.gather.new.sink) c.new-line.result.items keyword (words ++ 10 ∷ []) c.in_err-gather.ensures.text))

pub returns-in_err-gather_words-clause-text : goal.returns-in_err-gather_words-clause-text
returns-in_err-gather_words-clause-text g c =
    let T = g.S.Sink.text in
    let keyword = c.args.keyword.now in
    let words = flat_map spaced (piece_texts c.args.words.now) in
    let line = c.new-line.result.items in
    let P : List ℕ → Type 0 = λ text. AppendsPart (T c.args.sink.now) (T c.gather_words.new.sink) text in
    let met = gathers_then (Err c.in_err-gather_words.field-0.0) (T c.args.sink.now) (T c.gather.new.sink) (T c.gather_words.new.sink) line c.gather.new.line.items c.gather_words.new.line.items
    keyword words c.in_ok-gather.ensures.text c.in_err-gather_words.ensures.text in
    let all : line ++ ((keyword ++ words) ++ 10 ∷ []) ≡ (keyword ++ words) ++ 10 ∷ [] = ap (λ t. t ++ ((keyword ++ words) ++ 10 ∷ [])) c.new-line.ensures in
    puts_err c.from_residual-in_err-gather_words.result (T c.args.sink.now) (T c.gather_words.new.sink) (line_of keyword (piece_texts c.args.words.now)) c.from_residual-in_err-gather_words.ensures.0
    (subst P all (gathers_fails (T c.args.sink.now) (T c.gather_words.new.sink) line (keyword ++ words) (10 ∷ []) met))

pub returns-in_err-gather-2-clause-text : goal.returns-in_err-gather-2-clause-text
returns-in_err-gather-2-clause-text g c =
    let T = g.S.Sink.text in
    let keyword = c.args.keyword.now in
    let words = flat_map spaced (piece_texts c.args.words.now) in
    let line = c.new-line.result.items in
    let two = gathers_then (Ok tt) (T c.args.sink.now) (T c.gather.new.sink) (T c.gather_words.new.sink) line c.gather.new.line.items c.gather_words.new.line.items
    keyword words c.in_ok-gather.ensures.text c.in_ok-gather_words.ensures.text in
    let P : List ℕ → Type 0 = λ text. AppendsPart (T c.args.sink.now) (T c.gather-2.new.sink) text in
    let met = gathers_then (Err c.in_err-gather-2.field-0.0) (T c.args.sink.now) (T c.gather_words.new.sink) (T c.gather-2.new.sink) line c.gather_words.new.line.items c.gather-2.new.line.items
    (keyword ++ words) (10 ∷ []) two c.in_err-gather-2.ensures.text in
    puts_err c.from_residual-in_err-gather-2.result (T c.args.sink.now) (T c.gather-2.new.sink) (line_of keyword (piece_texts c.args.words.now)) c.from_residual-in_err-gather-2.ensures.0
    (subst P (ap (λ t. t ++ ((keyword ++ words) ++ 10 ∷ [])) c.new-line.ensures) met)

pub returns-clause-text : goal.returns-clause-text
returns-clause-text g c =
    let T = g.S.Sink.text in
    let keyword = c.args.keyword.now in
    let words = flat_map spaced (piece_texts c.args.words.now) in
    let line = c.new-line.result.items in
    let two = gathers_then (Ok tt) (T c.args.sink.now) (T c.gather.new.sink) (T c.gather_words.new.sink) line c.gather.new.line.items c.gather_words.new.line.items
    keyword words c.in_ok-gather.ensures.text c.in_ok-gather_words.ensures.text in
    let three = gathers_then (Ok tt) (T c.args.sink.now) (T c.gather_words.new.sink) (T c.gather-2.new.sink) line c.gather_words.new.line.items c.gather-2.new.line.items
    (keyword ++ words) (10 ∷ []) two c.in_ok-gather-2.ensures.text in
    gathers_puts c.put.result (T c.args.sink.now) (T c.gather-2.new.sink) (T c.put.new.self) line c.gather-2.new.line.items ((keyword ++ words) ++ 10 ∷ [])
    c.new-line.ensures three (rw c.as_slice.ensures.value at c.put.ensures.text)
