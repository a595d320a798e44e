-- A line of a text is passed.
use Rattle.std.proofs.Common.{◌≡◌, ◌<◌, ℕ, zero, suc, ◌-◌, Bool, true, List, [], ◌∷◌, Contains, None, length, slice_get, subst, sym, ap, refl, arith, ◌∙◌, eqb, eqb-true}
use Rattle.std.proofs.lemmas.List.Elements.{Contains-append_right}
use Rattle.line_words.specs.Line.{lines}

-- a line behind it is one of the text
pub line_behind : (text rest after first : List ℕ) → lines rest ≡ first ∷ lines after
    → ((line : List ℕ) → Contains (lines rest) line → Contains (lines text) line)
    → (line : List ℕ) → Contains (lines after) line → Contains (lines text) line
line_behind text rest after first here inside = λ line h.
    inside line (subst (λ all. Contains all line) (sym here) (Contains-append_right (first ∷ []) (lines after) line h))

-- the places of those behind it are one less
pub one_on : (all others : List (List ℕ)) (first : List ℕ) (place : ℕ) → all ≡ first ∷ others → 0 < place → slice_get all place ≡ slice_get others (place - 1)
one_on all others first zero here some = absurd (omega (arith, some))
one_on all others first (suc place) here some =
    let same : place ≡ suc place - 1 = omega arith in ap (λ lines. slice_get lines (suc place)) here ∙ ap (slice_get others) same

-- an empty text has no line
pub no_line : (text : List ℕ) (place : ℕ) (is_empty : Bool) → is_empty ≡ eqb (length text) 0 → is_empty ≡ true → slice_get (lines text) place ≡ None
no_line [] place is_empty is here = refl
no_line (byte ∷ rest) place is_empty is here =
    let never : eqb (length (byte ∷ rest)) 0 ≡ true = sym is ∙ here in absurd (omega (arith, eqb-true (length (byte ∷ rest)) 0 never))
