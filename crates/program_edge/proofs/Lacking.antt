-- A text lacks a first word where its first line does and what follows does.
use Rattle.std.proofs.Common.{◌≡◌, ℕ, zero, suc, List, ◌∷◌, Some, slice_get, unwrap_or, subst, ap}
use Rattle.line_words.specs.Line.{lines}
use Rattle.program_edge.specs.PlanMistake.{IsNoFront, Lacks}

lacks_in : (first : List ℕ) (others : List (List ℕ)) (word : List ℕ) → IsNoFront first word
    → ((place : ℕ) (line : List ℕ) → slice_get others place ≡ Some line → IsNoFront line word)
    → (place : ℕ) (line : List ℕ) → slice_get (first ∷ others) place ≡ Some line → IsNoFront line word
lacks_in first others word not rest zero line e = subst (λ front. IsNoFront front word) (ap (λ o. unwrap_or o first) e) not
lacks_in first others word not rest (suc place) line e = rest place line e

pub lacks_on : (text rest first word : List ℕ) → lines text ≡ first ∷ lines rest → IsNoFront first word → Lacks rest word → Lacks text word
lacks_on text rest first word here not lacks = λ place line e.
    lacks_in first (lines rest) word not lacks place line (subst (λ all. slice_get all place ≡ Some line) here e)
