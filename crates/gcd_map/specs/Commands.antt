-- The commands on the memory space: the answer, with the refusals in their order, and the space after it. PI 1.8, volume 2, "Global Coherency Domain Services"; the order is own.
use Rattle.std.specs.Prelude.{◌≡◌, ◌≢◌, ◌⊎◌, ℕ, ◌+◌, ◌^◌, ◌%◌, ◌<◌, ◌≤◌, true, false, Result, Ok, Err}
use Rattle.gcd_map.specs.{declared.state.GcdKind.GcdKind, declared.state.GcdKind.TheVariants.NonExistent}
use Rattle.gcd_map.specs.{declared.state.SpaceState.SpaceState, declared.word.GcdWord.GcdWord, declared.map.TheConstants.MOST_ALIGN}
use Rattle.gcd_map.specs.declared.word.GcdWord.TheVariants.{InvalidParameter, Unsupported, AccessDenied, NotFound, Memory}
use Rattle.gcd_map.specs.AddressSpace.{MemorySpace, state_at, with_change, free_of, add_change, allocate_change, free_change, remove_change}
use Rattle.gcd_map.specs.Stretch.{AllIn, SomeIn}

abbrev pub IsAbsent : SpaceState → Type 0
IsAbsent state = state.kind ≡ NonExistent

abbrev pub IsPresent : SpaceState → Type 0
IsPresent state = state.kind ≢ NonExistent

abbrev pub IsAllocated : SpaceState → Type 0
IsAllocated state = state.allocated ≡ true

abbrev pub IsFree : SpaceState → Type 0
IsFree state = state.allocated ≡ false

abbrev pub IsFreeOf : GcdKind → SpaceState → Type 0
IsFreeOf kind state = state ≡ free_of kind

abbrev pub IsNotFreeOf : GcdKind → SpaceState → Type 0
IsNotFreeOf kind state = state ≢ free_of kind

-- the parameters of `add` and `allocate` are valid
abbrev pub AreValid : GcdKind → ℕ → Type 0
AreValid kind len = (0 < len) × (kind ≢ NonExistent)

abbrev pub AreInvalid : GcdKind → ℕ → Type 0
AreInvalid kind len = (len ≡ 0) ⊎ (kind ≡ NonExistent)

-- memory is added
abbrev pub AddRow : GcdKind → ℕ → ℕ → MemorySpace → Result (Unit {0}) GcdWord → MemorySpace → Type 0
AddRow kind base len old (Ok _) new =
    AreValid kind len × (base + len ≤ old.limit) × AllIn (state_at old) base (base + len) IsAbsent × (new ≡ with_change old (add_change kind base len))
AddRow kind base len old (Err InvalidParameter) new = AreInvalid kind len × (new ≡ old)
AddRow kind base len old (Err Unsupported) new = AreValid kind len × (old.limit < base + len) × (new ≡ old)
AddRow kind base len old (Err AccessDenied) new =
    AreValid kind len × (base + len ≤ old.limit) × SomeIn (state_at old) base (base + len) IsPresent × (new ≡ old)
AddRow kind base len old (Err NotFound) new = ⊥
AddRow kind base len old (Err Memory) new = new ≡ old

-- memory is allocated at a given base
abbrev pub AllocateRow : GcdKind → ℕ → ℕ → MemorySpace → Result (Unit {0}) GcdWord → MemorySpace → Type 0
AllocateRow kind base len old (Ok _) new =
    AreValid kind len × (base + len ≤ old.limit) × AllIn (state_at old) base (base + len) (IsFreeOf kind) × (new ≡ with_change old (allocate_change kind base len))
AllocateRow kind base len old (Err InvalidParameter) new = AreInvalid kind len × (new ≡ old)
AllocateRow kind base len old (Err Unsupported) new = ⊥
AllocateRow kind base len old (Err AccessDenied) new = ⊥
AllocateRow kind base len old (Err NotFound) new =
    AreValid kind len × ((old.limit < base + len) ⊎ SomeIn (state_at old) base (base + len) (IsNotFreeOf kind)) × (new ≡ old)
AllocateRow kind base len old (Err Memory) new = new ≡ old

-- a base with so many free addresses of a kind from it on, a multiple of the unit
abbrev pub HasRoom : MemorySpace → GcdKind → ℕ → ℕ → ℕ → Type 0
HasRoom space kind unit len base = (base % unit ≡ 0) × (base + len ≤ space.limit) × AllIn (state_at space) base (base + len) (IsFreeOf kind)

-- memory is allocated at the greatest base that there is
abbrev pub TopRow : GcdKind → ℕ → ℕ → MemorySpace → Result ℕ GcdWord → MemorySpace → Type 0
TopRow kind align len old (Ok base) new =
    AreValid kind len × (align ≤ MOST_ALIGN) × HasRoom old kind (2 ^ align) len base
    × ((other : ℕ) → HasRoom old kind (2 ^ align) len other → other ≤ base) × (new ≡ with_change old (allocate_change kind base len))
TopRow kind align len old (Err InvalidParameter) new = (AreInvalid kind len ⊎ (MOST_ALIGN < align)) × (new ≡ old)
TopRow kind align len old (Err Unsupported) new = ⊥
TopRow kind align len old (Err AccessDenied) new = ⊥
TopRow kind align len old (Err NotFound) new =
    AreValid kind len × (align ≤ MOST_ALIGN) × ((base : ℕ) → HasRoom old kind (2 ^ align) len base → ⊥) × (new ≡ old)
TopRow kind align len old (Err Memory) new = new ≡ old

-- allocated memory is returned
abbrev pub FreeRow : ℕ → ℕ → MemorySpace → Result (Unit {0}) GcdWord → MemorySpace → Type 0
FreeRow base len old (Ok _) new =
    (0 < len) × (base + len ≤ old.limit) × AllIn (state_at old) base (base + len) IsAllocated × (new ≡ with_change old (free_change base len))
FreeRow base len old (Err InvalidParameter) new = (len ≡ 0) × (new ≡ old)
FreeRow base len old (Err Unsupported) new = (0 < len) × (old.limit < base + len) × (new ≡ old)
FreeRow base len old (Err AccessDenied) new = ⊥
FreeRow base len old (Err NotFound) new = (0 < len) × (base + len ≤ old.limit) × SomeIn (state_at old) base (base + len) IsFree × (new ≡ old)
FreeRow base len old (Err Memory) new = new ≡ old

-- free memory goes
abbrev pub RemoveRow : ℕ → ℕ → MemorySpace → Result (Unit {0}) GcdWord → MemorySpace → Type 0
RemoveRow base len old (Ok _) new =
    (0 < len) × (base + len ≤ old.limit) × AllIn (state_at old) base (base + len) IsPresent × AllIn (state_at old) base (base + len) IsFree
    × (new ≡ with_change old (remove_change base len))
RemoveRow base len old (Err InvalidParameter) new = (len ≡ 0) × (new ≡ old)
RemoveRow base len old (Err Unsupported) new = (0 < len) × (old.limit < base + len) × (new ≡ old)
RemoveRow base len old (Err NotFound) new = (0 < len) × (base + len ≤ old.limit) × SomeIn (state_at old) base (base + len) IsAbsent × (new ≡ old)
RemoveRow base len old (Err AccessDenied) new =
    (0 < len) × (base + len ≤ old.limit) × AllIn (state_at old) base (base + len) IsPresent × SomeIn (state_at old) base (base + len) IsAllocated × (new ≡ old)
RemoveRow base len old (Err Memory) new = new ≡ old
