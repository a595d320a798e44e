-- A GUID has a new slot, which nobody watches yet.
use Rattle.std.proofs.Common.{◌≡◌, ℕ, zero, suc, ◌+◌, Bool, true, false, cond, List, [], ◌∷◌, ◌++◌, length, Some, arith, ap, refl, sym, subst, ◌∙◌, inl, inr, length-append, ◌⊎◌}
use Rattle.pi_base.specs.{declared.guid.Guid.Guid, GuidMap.value_of, GuidMap.IsPut, Guids.same_guid}
use Rattle.wait_index.specs.{declared.watch.Watch.Watch, Index.watchers_at, Watching.IsNumbering}
use Rattle.wait_index.proofs.Truth.{one_guid, same_self}

either_way : (b : Bool) → (b ≡ true) ⊎ (b ≡ false)
either_way true = inl refl
either_way false = inr refl

empty_more : (lists : List (List ℕ)) (slot : ℕ) → ((at : ℕ) → watchers_at lists at ≡ []) → watchers_at (lists ++ [] ∷ []) slot ≡ []
empty_more [] zero h = refl
empty_more [] (suc slot) h = refl
empty_more (x ∷ lists) zero h = h 0
empty_more (x ∷ lists) (suc slot) h = empty_more lists slot (λ at. h (suc at))

-- a slot of the new map is the new one of this GUID, or one of the old map
slot_is : (old new : List (Guid × ℕ)) (guid : Guid) (slot : ℕ) → IsPut old guid slot new → (other : Guid) (at : ℕ) → value_of new other ≡ Some at
    → ((guid ≡ other) × (slot ≡ at)) ⊎ (value_of old other ≡ Some at)
slot_is old new guid slot put other at here = by (same_guid guid other) (either_way (same_guid guid other)) (sym (put other) ∙ here)
  where
    by : (b : Bool) → (same_guid guid other ≡ true) ⊎ (same_guid guid other ≡ false) → cond (same_guid guid other) (Some slot) (value_of old other) ≡ Some at → ((guid ≡ other) × (slot ≡ at)) ⊎ (value_of old other ≡ Some at)
    by b (inl same) e =
        let now : Some slot ≡ Some at = sym (ap (λ c. cond c (Some slot) (value_of old other)) same) ∙ e in
        let one : slot ≡ at = cc in
        inl (one_guid guid other same, one)
    by b (inr apart) e = inr (sym (ap (λ c. cond c (Some slot) (value_of old other)) apart) ∙ e)

pub numbered_more : (old new : Watch) (guid : Guid) (slot : ℕ) → IsNumbering old → slot ≡ length old.watchers → IsPut old.slots guid slot new.slots → new.watchers ≡ old.watchers ++ [] ∷ [] → IsNumbering new
numbered_more old new guid slot is new_slot put pushed =
    let long : length new.watchers ≡ length old.watchers + 1 = ap length pushed ∙ length-append old.watchers ([] ∷ []) in
    record {
      below = λ g at here. elim (slot_is old.slots new.slots guid slot put g at here) [
        | inl same ↦ omega (arith, long, new_slot, same.1)
        | inr was ↦ omega (arith, long, is.below g at was)
      ];
      apart = λ g h at here also. elim (slot_is old.slots new.slots guid slot put g at here) [
        | inl same ↦ elim (slot_is old.slots new.slots guid slot put h at also) [
          | inl too ↦ subst (λ k. same_guid g k ≡ true) (sym same.0 ∙ too.0) (same_self g)
          | inr was ↦ absurd (omega (arith, is.below h at was, new_slot, same.1))
        ]
        | inr was ↦ elim (slot_is old.slots new.slots guid slot put h at also) [
          | inl too ↦ absurd (omega (arith, is.below g at was, new_slot, too.1))
          | inr been ↦ is.apart g h at was been
        ]
      ];
      empty = λ at. ap (λ (lists : List (List ℕ)). watchers_at lists at) pushed ∙ empty_more old.watchers at is.empty;
    }
