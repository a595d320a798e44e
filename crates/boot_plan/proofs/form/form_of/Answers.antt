use Rattle.std.proofs.Common.{◌≡◌, sym, ◌∙◌, ap, rules, ◌∷◌, []}
use Rattle.std.proofs.lemmas.List.{nil_from_length}
use Rattle.line_words.specs.Words.{words}
use Rattle.boot_plan.proofs.FormLemmas.{form_is, short_is}
use Rattle.boot_plan.proofs.form.form_of.Goals as goal

pub returns-else-is_empty-3 : goal.returns-else-is_empty-3
returns-else-is_empty-3 c =
    let line = c.args.line.now in let one = c.first_word in let two = c.first_word-2 in let three = c.first_word-3 in
    let third = three.result.0.now in
    let none : three.result.1.now ≡ [] = nil_from_length three.result.1.now (search rules) in
    let e = form_is line one.result.0.now one.result.1.now two.result.0.now two.result.1.now third
    (search rules) (search rules) one.ensures.words two.ensures.words (λ h. (two.ensures.none h).0) (search rules)
    (λ h. three.ensures.words h ∙ ap (λ rest. third ∷ words rest) none) (λ h. (three.ensures.none h).0) (search rules) in
    c.long_form.ensures ∙ sym e

pub returns-then-is_empty-3 : goal.returns-then-is_empty-3
returns-then-is_empty-3 c =
    let line = c.args.line.now in let one = c.first_word in let two = c.first_word-2 in let three = c.first_word-3 in
    let e = short_is line one.result.0.now one.result.1.now two.result.0.now two.result.1.now three.result.0.now
    (search rules) (search rules) one.ensures.words two.ensures.words (λ h. (two.ensures.none h).0) (search rules) three.ensures.some (nil_from_length three.result.0.now (search rules)) in
    c.short_form.ensures ∙ sym e
