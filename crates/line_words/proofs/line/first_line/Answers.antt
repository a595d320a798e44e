use Rattle.std.proofs.Common.{◌≡◌, ◌+◌, ◌-◌, arith, rules, length, take, drop, ap, ◌∙◌, take_all, drop-drop}
use Rattle.std.proofs.lemmas.List.{nil_from_length, take_rest}
use Rattle.line_words.proofs.LineLemmas.{lines_last, lines_more}
use Rattle.line_words.proofs.line.first_line.Goals as goal

pub returns-in-empty-clause-lines : goal.returns-in-empty-clause-lines
returns-in-empty-clause-lines c =
    let text = c.args.text.now in
    let whole = c.split_at.ensures.front ∙ take_all c.place_of.result text (omega (arith, c.split_at.ensures.back_len)) in
    let none = nil_from_length c.split_at.result.1.now (omega arith) in
    rw (whole, none) (lines_last text c.requires (omega (arith, c.place_of.ensures.first, c.split_at.ensures.back_len)))

pub returns-in-len1-up-clause-lines : goal.returns-in-len1-up-clause-lines
returns-in-len1-up-clause-lines c =
    let text = c.args.text.now in
    let n = c.place_of.result in
    let back = c.split_at.result.1.now in
    let rest : take (length back - 1) (drop 1 back) ≡ drop (n + 1) text =
    take_rest back 1 ∙ ap (drop 1) c.split_at.ensures.back ∙ drop-drop 1 n text in
    rw (rest, c.without_return.ensures, c.split_at.ensures.front, c.place_of.ensures.first) (lines_more text (search rules))
