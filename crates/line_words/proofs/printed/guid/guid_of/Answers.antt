use Rattle.std.proofs.Common.{◌∙◌, sym, ap, option_map}
use Rattle.line_words.proofs.{GuidWords.guid_not_none, GuidWords.guid_same, Comparisons.not_same}
use Rattle.line_words.proofs.printed.guid.guid_of.Goals as goal

pub returns-in_default : goal.returns-in_default
returns-in_default c = λ guid is. guid_not_none c.args.word.now guid is.0 is.1 (ap (option_map (λ g. g.0)) (sym c.in_default.is) ∙ c.from_text.ensures)

pub returns-else-eq : goal.returns-else-eq
returns-else-eq c = λ guid is.
    let read = ap (option_map (λ g. g.0)) (sym c.in-Some.is) ∙ c.from_text.ensures in
    let text = guid_same c.args.word.now guid c.in-Some.guid is.0 is.1 read in
    not_same _ _ _ c.eq.ensures c.if-eq.false (c.as_slice.ensures ∙ c.to_text.ensures ∙ text)
