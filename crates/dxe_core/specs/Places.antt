-- The places of interfaces in a list that is in order of handle.
-- Own.
use Rattle.std.specs.Prelude.{◌≡◌, ℕ, zero, suc, ◌<◌, ◌==◌, Bool, true, false, List, [], ◌∷◌, Option, Some, None, Result, Ok, Err}
use Rattle.std.specs.List.{list_any}
use Rattle.pi_base.specs.declared.guid.Guid.{Guid}
use Rattle.store_model.specs.{declared.interface.Interface.Interface, HandleState.is_on, HandleState.is_on_with}
use Rattle.dxe_core.specs.declared.database.fault.HandleFault.{HandleFault}
use Rattle.dxe_core.specs.declared.database.fault.HandleFault.TheVariants as F

-- the interfaces of a handle are from one place to before another, those of lower handles before them, and those of higher ones after
abbrev pub IsStretch : ℕ → List Interface → ℕ → ℕ → Type 0
IsStretch handle [] begin end = (begin ≡ 0) × (end ≡ 0)
IsStretch handle (i ∷ is) (suc begin) (suc end) = (i.handle < handle) × IsStretch handle is begin end
IsStretch handle (i ∷ is) (suc begin) zero = ⊥
IsStretch handle (i ∷ is) zero (suc end) = (i.handle ≡ handle) × IsStretch handle is zero end
IsStretch handle (i ∷ is) zero zero = (handle < i.handle) × IsStretch handle is zero zero

-- the place of the first item that passes a test
abbrev pub IsFirst : {A : Type 0} → (A → Bool) → List A → ℕ → Type 0
IsFirst test [] place = ⊥
IsFirst test (item ∷ rest) zero = test item ≡ true
IsFirst test (item ∷ rest) (suc place) = (test item ≡ false) × IsFirst test rest place

-- the place of the interface that a handle has of a protocol
abbrev pub IsPlaceOn : List Interface → ℕ → Guid → Option ℕ → Type 0
IsPlaceOn interfaces handle guid None = list_any (is_on handle guid) interfaces ≡ false
IsPlaceOn interfaces handle guid (Some place) = IsFirst (is_on handle guid) interfaces place

abbrev pub is_live_in : List Interface → ℕ → Bool
is_live_in interfaces handle = list_any (λ i. i.handle == handle) interfaces

-- the place of an interface with a value on a live handle
abbrev pub IsPlaceWith : List Interface → ℕ → Guid → ℕ → Result ℕ HandleFault → Type 0
IsPlaceWith interfaces handle guid value (Ok place) = (is_live_in interfaces handle ≡ true) × IsFirst (is_on_with handle guid value) interfaces place
IsPlaceWith interfaces handle guid value (Err F.InvalidParameter) = is_live_in interfaces handle ≡ false
IsPlaceWith interfaces handle guid value (Err F.NotFound) = (is_live_in interfaces handle ≡ true) × (list_any (is_on_with handle guid value) interfaces ≡ false)
IsPlaceWith interfaces handle guid value (Err F.Memory) = ⊥
