-- Lines of an order, one after another.
use Rattle.std.proofs.Common.{◌≡◌, ℕ, ◌+◌, true, false, not, cond, List, [], ◌∷◌, ◌++◌, map, append_assoc, Some, refl, sym, ap, ◌∙◌}
use Rattle.std.proofs.lemmas.List.{map-append}
use Rattle.line_words.specs.Line.{is_passed_over}
use Rattle.recorded_boot.specs.{declared.order.lines.StartOrder.StartOrder, LineText.asked_of}
use Rattle.recorded_boot.specs.OrderText.{AreLinesOf, all_asked, numbered_from, spelled}

-- the first of the lines, and then the others
pub numbered_first : (number : ℕ) (line : List ℕ) (rest : List (List ℕ)) → numbered_from number (line ∷ rest) ≡ numbered_from number (line ∷ []) ++ numbered_from (number + 1) rest
numbered_first number line rest =
    elim (is_passed_over line) as (λ b. cond (not b) ((number, line) ∷ numbered_from (number + 1) rest) (numbered_from (number + 1) rest)
    ≡ cond (not b) ((number, line) ∷ []) [] ++ numbered_from (number + 1) rest) [
      | true ↦ refl
      | false ↦ refl
    ]

-- what the lines so far are, with one more
pub before_more : (number : ℕ) (line : List ℕ) (rest : List (List ℕ)) (all before : List (ℕ × List ℕ)) → all ≡ before ++ numbered_from number (line ∷ rest)
    → all ≡ (before ++ numbered_from number (line ∷ [])) ++ numbered_from (number + 1) rest
before_more number line rest all before is =
    is ∙ ap (λ ls. before ++ ls) (numbered_first number line rest) ∙ sym (append_assoc before (numbered_from number (line ∷ [])) (numbered_from (number + 1) rest))

-- and what they ask for
pub lines_more : (before here : List (ℕ × List ℕ)) (old new : StartOrder) → AreLinesOf old before → map (λ asked. Some asked) (all_asked new) ≡ map (λ asked. Some asked) (all_asked old) ++ spelled here
    → AreLinesOf new (before ++ here)
lines_more before here old new are more = map-append (λ line. asked_of line.0 line.1) before here ∙ ap (λ ls. ls ++ spelled here) are ∙ sym more

-- a line that is not passed over is one of them
pub one_line : (number : ℕ) (line : List ℕ) (rest : List (List ℕ)) → is_passed_over line ≡ false → numbered_from number (line ∷ rest) ≡ (number, line) ∷ numbered_from (number + 1) rest
one_line number line rest is = ap (λ b. cond (not b) ((number, line) ∷ numbered_from (number + 1) rest) (numbered_from (number + 1) rest)) is
