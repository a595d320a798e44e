-- What the calls of a store need of its state, and what those say that answer by more than a value.
-- Own.
use Rattle.std.specs.Prelude.{◌≡◌, ◌⊎◌, ℕ, ◌≤◌, ◌==◌, Bool, true, false, List, length, Option, Some, None, is_some, ⊤}
use Rattle.hob_codec.specs.HobValue.{HobValue, HandoffHob, AllocationHob, ResourceHob, NamedHob, VolumeHob, CpuHob, PoolHob, Volume2Hob, OtherHob}
use Rattle.hob_codec.specs.HobBytes.{length_of}
use Rattle.std.specs.List.{list_any}
use Rattle.pi_base.specs.Lists.{Each}
use Rattle.store_model.specs.{declared.store_handle.Desc.Desc, declared.store_handle.EntryList.EntryList}
use Rattle.store_model.specs.{declared.store_handle.Firing.Firing, declared.store_handle.Pool.Pool, declared.store_handle.Sweep.Sweep}
use Rattle.store_model.specs.StoreState.{StoreState, end_place, most_hob}
use Rattle.store_model.specs.StateFacts.{IsDesc, IsPool, IsSweepOf}
use Rattle.store_model.specs.Service.Reading.{hob_at, memory_due, told_of}
use Rattle.store_model.specs.Migration.{migration}

-- a call that needs nothing
abbrev pub Anything : StoreState → Type 0
Anything s = ⊤

-- a list of descriptors has 1 to 8
abbrev pub AreFew : {A : Type 0} → List A → Type 0
AreFew list = (1 ≤ length list) × (length list ≤ 8)

-- what is handed in are descriptors
abbrev pub AreDescs : List Desc → StoreState → Type 0
AreDescs list s = Each (IsDesc s) list

-- both of two are
abbrev pub AreBothDescs : Desc → Desc → StoreState → Type 0
AreBothDescs old new s = IsDesc s old × IsDesc s new

-- what is handed in is a pool
abbrev pub HasPool : Pool → StoreState → Type 0
HasPool pool s = IsPool s pool

-- a sweep that is handed in goes over what is there
abbrev pub IsAmong : Sweep → StoreState → Type 0
IsAmong sweep s = IsSweepOf s sweep

-- the HOBs that scripts make: of a resource, a GUID, a volume or a CPU, no longer than a HOB may be
abbrev pub IsScriptHob : HobValue → Type 0
IsScriptHob (HandoffHob handoff) = ⊥
IsScriptHob (AllocationHob name base len memory_type) = ⊥
IsScriptHob (ResourceHob owner kind attributes start len) = ⊤
IsScriptHob (NamedHob name body) = length_of (NamedHob name body) ≤ most_hob
IsScriptHob (VolumeHob base len) = ⊤
IsScriptHob (CpuHob memory io) = ⊤
IsScriptHob (PoolHob body) = ⊥
IsScriptHob (Volume2Hob base len volume file) = ⊤
IsScriptHob (OtherHob kind body) = ⊥

-- the offset is that of a HOB or of the end HOB
abbrev pub IsHobPlace : ℕ → StoreState → Type 0
IsHobPlace offset s = (is_some (hob_at s offset) ≡ true) ⊎ (offset ≡ end_place s)

-- the node, if one is given, is that of an entry of the list
abbrev pub IsNodeIn : EntryList → Option ℕ → StoreState → Type 0
IsNodeIn list None s = ⊤
IsNodeIn list (Some node) s = list_any (λ told. told.node == node) (told_of s list) ≡ true

-- memory was planned and not yet moved to
abbrev pub IsDue : StoreState → Type 0
IsDue s = memory_due s ≡ true

-- a pair is found, and the place of the sweep after it; or none is left
abbrev pub IsMatch : Option (Firing × Sweep) → Option Firing → Sweep → Type 0
IsMatch found (Some firing) sweep = found ≡ Some (firing, sweep)
IsMatch found None sweep = found ≡ None

-- the move, with the old base and the new
abbrev pub Migrates : StoreState → (ℕ × ℕ) → StoreState → Type 0
Migrates old answer new = (migration old ≡ Some new) × (answer ≡ (old.base, new.base))

-- the bytes were read, or there are none and the buffer is unchanged
abbrev pub Peeks : Option (List ℕ) → Bool → List ℕ → List ℕ → Type 0
Peeks bytes true old new = bytes ≡ Some new
Peeks bytes false old new = (bytes ≡ None) × (new ≡ old)
