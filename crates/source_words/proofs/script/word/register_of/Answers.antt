use Rattle.std.proofs.Common.{◌≡◌, ℕ, ◌<◌, true, List, ◌∷◌, Some, refl, sym, ◌∙◌, arith, nat_lt}
use Rattle.std.proofs.lemmas.Bool.Decides.{nat_tests}
use Rattle.line_words.specs.Number.{number_of}
use Rattle.source_words.specs.Word.{register_of}
use Rattle.source_words.proofs.script.word.register_of.Goals as goal

below : (r : ℕ) → r < 16 → nat_lt r 16 ≡ true
below r low = grind (arith, nat_tests)

register_is : (word digits : List ℕ) (first r : ℕ) → word ≡ first ∷ digits → first ≡ 114 → number_of digits ≡ Some r → r < 16
    → register_of word ≡ Some r
unfolding register_of
register_is word digits first r parts is number low = rw (parts, is, number, below r low) refl

pub returns-in-Some : goal.returns-in-Some
returns-in-Some c =
    let front = c.in-Some-eq114-default in
    sym (register_is c.args.word.now front.digits.now front.field-0-0.now c.in-Some.r front.ensures.cases.0 front.field-0-0-test
    (sym c.number_of.ensures ∙ c.in-Some.is) (omega arith))
