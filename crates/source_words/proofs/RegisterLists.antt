-- Registers to the end of a line, read one by one.
use Rattle.std.proofs.Common.{◌≡◌, ℕ, suc, ◌-◌, ◌<◌, ◌≤◌, List, [], ◌∷◌, ◌++◌, length, Some, None, Result, Ok, Err, refl, sym, ap, append_assoc, arith, append-nil, length-append}
use Rattle.source_words.specs.{declared.script.fault.LineFault.LineFault, Reading.◌>>=◌, Word.register_of, Operands.registers_within}
use Rattle.source_words.specs.declared.script.fault.LineFault.TheVariants as fault

-- registers in front of others
abbrev pub in_front : List ℕ → Result (List ℕ) LineFault → Result (List ℕ) LineFault
in_front list (Ok others) = Ok (list ++ others)
in_front list (Err e) = Err e

regrouped : (list : List ℕ) (r : ℕ) (others : Result (List ℕ) LineFault) → in_front list (others >>= (λ xs. Ok (r ∷ xs))) ≡ in_front (list ++ r ∷ []) others
regrouped list r (Ok xs) = ap Ok (sym (append_assoc list (r ∷ []) xs))
regrouped list r (Err e) = refl

pub first_step : (list word : List ℕ) (others : List (List ℕ)) (r : ℕ) → length list < 8 → register_of word ≡ Some r
    → in_front list (registers_within (8 - length list) (word ∷ others)) ≡ in_front (list ++ r ∷ []) (registers_within (8 - length (list ++ r ∷ [])) others)
unfolding registers_within
first_step list word others r few read =
    let left : 8 - length list ≡ suc (8 - length (list ++ r ∷ [])) = omega (arith, length-append list (r ∷ [])) in
    rw (left, read) (regrouped list r (registers_within (8 - length (list ++ r ∷ [])) others))

pub no_step : (list word : List ℕ) (others : List (List ℕ)) → length list < 8 → register_of word ≡ None
    → in_front list (registers_within (8 - length list) (word ∷ others)) ≡ Err fault.Register
unfolding registers_within
no_step list word others few read =
    let left : 8 - length list ≡ suc (8 - length list - 1) = omega arith in
    rw (left, read) refl

pub too_many : (list word : List ℕ) (others : List (List ℕ)) → 8 ≤ length list → in_front list (registers_within (8 - length list) (word ∷ others)) ≡ Err fault.Extra
unfolding registers_within
too_many list word others many =
    let left : 8 - length list ≡ 0 = omega arith in
    rw left refl

pub all_read : (n : ℕ) (list : List ℕ) → in_front list (registers_within n []) ≡ Ok list
unfolding registers_within
all_read n list = ap Ok (append-nil list)
