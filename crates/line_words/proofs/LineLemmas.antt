-- The first line of a text, and the first word of a line.
use Rattle.std.proofs.Common.{◌≡◌, ◌≢◌, ℕ, suc, ◌+◌, ◌<◌, ◌≤◌, Bool, true, false, cond, eqb, List, [], ◌∷◌, length, take, drop, refl, sym, ap, ◌∙◌, arith, get_or}
use Rattle.std.specs.List.{slice_split, onto_first, position_or_len}
use Rattle.std.specs.Str.Lines.{lines_of_parts, strip_carriage_return, lines}
use Rattle.std.proofs.lemmas.List.Splits.{slice_split_first, slice_split_none}
use Rattle.std.proofs.{lemmas.List.Sums.fails_before_first, lemmas.List.Sums.position_or_len_is, lemmas.Bool.Decides.nat_tests}

abbrev pub is_byte : ℕ → ℕ → Bool
is_byte sought byte = eqb byte sought

-- there is a first part
pub some_part : (p : ℕ → Bool) (xs : List ℕ) → (part : List ℕ) × (parts : List (List ℕ)) × (slice_split p xs ≡ part ∷ parts)
some_part p [] = ([], [], refl)
some_part p (x ∷ xs) =
    let rest = some_part p xs in
    elim (p x) as (λ b. (part : List ℕ) × (parts : List (List ℕ)) × (cond b ([] ∷ slice_split p xs) (onto_first x (slice_split p xs)) ≡ part ∷ parts)) [
      | true ↦ ([], slice_split p xs, refl)
      | false ↦ (x ∷ rest.0, rest.1, ap (onto_first x) rest.2)
    ]

-- a line that ends with a line feed
pub lines_more : (text : List ℕ) → position_or_len (is_byte 10) text < length text
    → lines text ≡ strip_carriage_return (take (position_or_len (is_byte 10) text) text) ∷ lines (drop (position_or_len (is_byte 10) text + 1) text)
lines_more text within =
    let first = slice_split_first (is_byte 10) text 0 within in
    let rest = some_part (is_byte 10) (drop (position_or_len (is_byte 10) text + 1) text) in
    ap lines_of_parts first ∙ rw rest.2 refl

-- no such byte, no cut
pub no_cut : (p : ℕ → Bool) (xs : List ℕ) → length xs ≤ position_or_len p xs → slice_split p xs ≡ xs ∷ []
no_cut p xs past = slice_split_none p xs (λ k d h. fails_before_first p xs k d (omega arith))

last_part : (x : ℕ) (text : List ℕ) → lines_of_parts ((x ∷ text) ∷ []) ≡ (x ∷ text) ∷ []
last_part x text = let t : eqb (suc (length text)) 0 ≡ false = grind (arith, nat_tests) in rw t refl

-- a line that lacks its line feed
pub lines_last : (text : List ℕ) → 0 < length text → length text ≤ position_or_len (is_byte 10) text → lines text ≡ text ∷ []
lines_last [] some past = absurd (omega arith)
lines_last (x ∷ text) some past = ap lines_of_parts (no_cut (is_byte 10) (x ∷ text) past) ∙ last_part x text

-- the place of the first such byte
pub place_is : (bytes : List ℕ) (sought i : ℕ) → i ≤ length bytes → ((k : ℕ) → k < i → get_or bytes k 0 ≡ sought → ⊥) → (i < length bytes → get_or bytes i 0 ≡ sought)
    → i ≡ position_or_len (λ b. eqb b sought) bytes
place_is bytes sought i within none here =
    sym (position_or_len_is (is_byte sought) bytes i 0 within (λ k h. let n : get_or bytes k 0 ≢ sought = none k h in grind (arith, nat_tests)) (λ h. let n : get_or bytes i 0 ≡ sought = here h in grind (arith, nat_tests)))
