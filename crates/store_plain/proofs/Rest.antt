-- A HOB is no longer than the rest of the list.
use Rattle.std.proofs.Common.{◌≡◌, ℕ, zero, suc, ◌+◌, ◌≤◌, ◌<◌, List, [], ◌∷◌, drop, sum_by, arith, get_or, length, subst, sym}
use Rattle.std.proofs.lemmas.List.Sums.{sum_by-cons}
use Rattle.store_model.specs.{declared.state.HobEntry.HobEntry, StoreState.hob_len}

pub part_of_rest : (hobs : List HobEntry) (i : ℕ) (hob : HobEntry) → i < length hobs → hob ≡ get_or hobs i hob → hob_len hob ≤ sum_by hob_len (drop i hobs)
part_of_rest [] i hob le h = absurd (omega arith)
part_of_rest (first ∷ hobs) zero hob le h =
    let c : sum_by hob_len (first ∷ hobs) ≡ hob_len first + sum_by hob_len hobs = sum_by-cons hob_len first hobs in
    let here : hob_len first ≤ sum_by hob_len (first ∷ hobs) = omega arith in
    subst (λ (x : HobEntry). hob_len x ≤ sum_by hob_len (first ∷ hobs)) (sym h) here
part_of_rest (first ∷ hobs) (suc i) hob le h = part_of_rest hobs i hob (omega arith) h
