-- Registers to the end of a line, read one by one.
use Rattle.std.proofs.Common.{◌≡◌, ℕ, suc, ◌-◌, ◌<◌, ◌≤◌, List, [], ◌∷◌, ◌++◌, length, Option, Some, None, option_map, refl, sym, ap, ◌∙◌, append_assoc, arith, option_and_then, append-nil, length-append}
use Rattle.act_code.specs.{declared.operand.Unread.Unread, Reading.Fails}
use Rattle.act_code.specs.declared.operand.Unread.TheVariants as unread
use Rattle.asm_text.specs.OperandReading.{register_at, registers_within}

-- registers in front of others
abbrev pub in_front : List ℕ → Option (List ℕ) → Option (List ℕ)
in_front list others = option_map (λ xs. list ++ xs) others

regrouped : (list : List ℕ) (r : ℕ) (others : Option (List ℕ)) → in_front list (option_map (λ xs. r ∷ xs) others) ≡ in_front (list ++ r ∷ []) others
regrouped list r None = refl
regrouped list r (Some xs) = ap Some (sym (append_assoc list (r ∷ []) xs))

with_first : (r : ℕ) (others : Option (List ℕ)) → option_and_then (λ xs. Some (r ∷ xs)) others ≡ option_map (λ xs. r ∷ xs) others
with_first r None = refl
with_first r (Some xs) = refl

one_of : (n : ℕ) (text : List ℕ) (x : ℕ × List ℕ) → (text ≡ [] → ⊥) → register_at text ≡ Some x → registers_within (suc n) text ≡ option_map (λ xs. x.0 ∷ xs) (registers_within n x.1)
unfolding registers_within
one_of n [] x some read = absurd (some refl)
one_of n (b ∷ text) x some read = rw read (with_first x.0 (registers_within n x.1))

none_of : (n : ℕ) (text : List ℕ) → (text ≡ [] → ⊥) → register_at text ≡ None → registers_within (suc n) text ≡ None
unfolding registers_within
none_of n [] some read = absurd (some refl)
none_of n (b ∷ text) some read = rw read refl

pub first_step : (list text : List ℕ) (x : ℕ × List ℕ) → length list < 8 → (text ≡ [] → ⊥) → register_at text ≡ Some x
    → in_front list (registers_within (8 - length list) text) ≡ in_front (list ++ x.0 ∷ []) (registers_within (8 - length (list ++ x.0 ∷ [])) x.1)
first_step list text x few some read =
    let left : 8 - length list ≡ suc (8 - length (list ++ x.0 ∷ [])) = omega (arith, length-append list (x.0 ∷ [])) in
    rw left (ap (in_front list) (one_of (8 - length (list ++ x.0 ∷ [])) text x some read) ∙ regrouped list x.0 (registers_within (8 - length (list ++ x.0 ∷ [])) x.1))

pub no_step : (list text : List ℕ) → length list < 8 → (text ≡ [] → ⊥) → register_at text ≡ None → in_front list (registers_within (8 - length list) text) ≡ None
no_step list text few some read =
    let left : 8 - length list ≡ suc (8 - length list - 1) = omega arith in
    rw left (ap (in_front list) (none_of (8 - length list - 1) text some read))

pub too_many : (list text : List ℕ) → 8 ≤ length list → (text ≡ [] → ⊥) → in_front list (registers_within (8 - length list) text) ≡ None
unfolding registers_within
too_many list [] many some = absurd (some refl)
too_many list (b ∷ text) many some =
    let left : 8 - length list ≡ 0 = omega arith in
    rw left refl

pub all_read : (n : ℕ) (list text : List ℕ) → text ≡ [] → in_front list (registers_within n text) ≡ Some list
unfolding registers_within
all_read n list text is = rw is (ap Some (append-nil list))

-- a register that is not read
pub fails_too : (list text : List ℕ) (e : Unread) → length list < 8 → (text ≡ [] → ⊥) → Fails e (register_at text) → Fails e (in_front list (registers_within (8 - length list) text))
fails_too list text unread.Malformed few some read = no_step list text few some read
fails_too list text unread.Memory few some read = tt
