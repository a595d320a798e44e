-- Things one behind the other, as a loop reads them.
use Rattle.std.proofs.Common.{◌≡◌, ℕ, suc, ◌-◌, ◌+◌, ◌≤◌, ◌<◌, List, [], ◌∷◌, ◌++◌, Result, Ok, Err, refl, sym, ap, ◌∙◌, append_assoc, arith, append-nil}
use Rattle.act_code.specs.{declared.fault.ActFault.ActFault, declared.block.Stop.Stop}
use Rattle.act_code.specs.declared.block.Stop.TheVariants as stop
use Rattle.act_code.specs.ScriptReading.{◌>>=◌, Stops, many}

-- what was read before, and what is still read
abbrev pub with_front : {A : Type 0} → List A → Result (List A × List ℕ) ActFault → Result (List A × List ℕ) ActFault
with_front front read = read >>= λ x. Ok (front ++ x.0, x.1)

regroup : {A : Type 0} (front : List A) (x : A) (read : Result (List A × List ℕ) ActFault) → with_front front (read >>= λ y. Ok (x ∷ y.0, y.1)) ≡ with_front (front ++ x ∷ []) read
regroup front x (Ok y) = ap (λ xs. Ok (xs, y.1)) (simp append_assoc)
regroup front x (Err f) = refl

pub goes_on : {A : Type 0} (one : ℕ → List ℕ → Result (A × List ℕ) ActFault) (front longer : List A) (count i : ℕ) (bytes : List ℕ) (x : A) (after : List ℕ) (total : Result (List A × List ℕ) ActFault)
    → i < count → one (count - i) bytes ≡ Ok (x, after) → longer ≡ front ++ x ∷ []
    → with_front front (many one (count - i) bytes) ≡ total → with_front longer (many one (count - (i + 1)) after) ≡ total
unfolding many
goes_on one front longer count i bytes x after total lt h same so_far =
    let k : count - i ≡ suc (count - (i + 1)) = omega arith in
    let h' : one (suc (count - (i + 1))) bytes ≡ Ok (x, after) = rw (← k) h in
    let step : with_front front (many one (count - i) bytes) ≡ with_front (front ++ x ∷ []) (many one (count - (i + 1)) after) = rw (k, h') (regroup front x (many one (count - (i + 1)) after)) in
    rw same (sym step ∙ so_far)

pub ends : {A : Type 0} (one : ℕ → List ℕ → Result (A × List ℕ) ActFault) (e : Stop) (front : List A) (count i : ℕ) (bytes : List ℕ) (total : Result (List A × List ℕ) ActFault)
    → i < count → Stops e (one (count - i) bytes) → with_front front (many one (count - i) bytes) ≡ total → Stops e total
unfolding many
ends one stop.Memory front count i bytes total lt h so_far = tt
ends one (stop.Fault f) front count i bytes total lt h so_far =
    let k : count - i ≡ suc (count - (i + 1)) = omega arith in
    let h' : one (suc (count - (i + 1))) bytes ≡ Err f = rw (← k) h in
    let step : with_front front (many one (count - i) bytes) ≡ Err f = rw (k, h') refl in
    sym so_far ∙ step

pub is_done : {A : Type 0} (one : ℕ → List ℕ → Result (A × List ℕ) ActFault) (front : List A) (count i : ℕ) (bytes : List ℕ) (total : Result (List A × List ℕ) ActFault) → count ≤ i → with_front front (many one (count - i) bytes) ≡ total → total ≡ Ok (front, bytes)
unfolding many
is_done one front count i bytes total le so_far =
    let k : count - i ≡ 0 = omega arith in
    let step : with_front front (many one (count - i) bytes) ≡ Ok (front, bytes) = rw k (ap (λ xs. Ok (xs, bytes)) (append-nil front)) in
    sym so_far ∙ step
