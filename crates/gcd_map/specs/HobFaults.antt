-- Why a HOB list has no memory space: the first cause in the order of the list's faults, the CPU HOB, the resources and the allocations. The order is own.
use Rattle.std.specs.Prelude.{◌≡◌, ◌⊎◌, ℕ, ◌+◌, ◌^◌, ◌<◌, ◌≤◌, List, [], ◌∷◌, Option, Some, None}
use Rattle.hob_codec.specs.{declared.fault.HobFault.HobFault, declared.list.HobPlace.HobPlace}
use Rattle.hob_codec.specs.declared.fault.HobFault.TheVariants as hob
use Rattle.hob_codec.specs.HobList.{Leads, fault_at, AreHobs}
use Rattle.gcd_map.specs.{declared.state.GcdKind.TheVariants.System, declared.hob.HobStretch.HobStretch, declared.hob.CpuSize.CpuSize}
use Rattle.gcd_map.specs.{declared.fault.GcdCause.GcdCause, declared.fault.GcdFault.GcdFault, Stretch.SomeIn}
use Rattle.gcd_map.specs.declared.fault.GcdCause.TheVariants.{Short, Length, Form, NoEnd, Memory, NoCpu, Bits, Range, Overlap, Outside}
use Rattle.gcd_map.specs.AddressSpace.{MemorySpace, state_at, empty_space}
use Rattle.gcd_map.specs.Commands.{IsPresent, IsNotFreeOf}
use Rattle.gcd_map.specs.HobMap.{resources, allocations, first_cpu, AreBits, AreBitsOf, MayCome, came, MayBeTaken, taken, Follow}

-- the causes of the list's own faults
abbrev pub walk_cause : HobFault → GcdCause
walk_cause hob.Short = Short
walk_cause hob.Length = Length
walk_cause hob.Form = Form
walk_cause hob.NoEnd = NoEnd
walk_cause hob.Memory = Memory

-- the fault at the first place that has one
abbrev pub IsWalkFault : List ℕ → GcdFault → Type 0
IsWalkFault bytes fault =
    (places : List HobPlace) × (cause : HobFault) × Leads bytes 0 places fault.at × (fault_at bytes fault.at ≡ Some cause) × (fault.cause ≡ walk_cause cause)

abbrev pub ComesNot : MemorySpace → HobStretch → GcdCause → Type 0
ComesNot space s Range = (s.len ≡ 0) ⊎ (space.limit < s.base + s.len)
ComesNot space s Overlap = (0 < s.len) × (s.base + s.len ≤ space.limit) × SomeIn (state_at space) s.base (s.base + s.len) IsPresent
ComesNot space s cause = ⊥

abbrev pub IsNotTaken : MemorySpace → HobStretch → GcdCause → Type 0
IsNotTaken space s Outside = (s.len ≡ 0) ⊎ ((space.limit < s.base + s.len) ⊎ SomeIn (state_at space) s.base (s.base + s.len) (IsNotFreeOf System))
IsNotTaken space s cause = ⊥

-- the first stretch that cannot follow, and why
abbrev pub Stops : (MemorySpace → HobStretch → Type 0) → (MemorySpace → HobStretch → MemorySpace) → (MemorySpace → HobStretch → GcdCause → Type 0) → MemorySpace → List HobStretch → GcdFault → Type 0
Stops May next Not space [] fault = ⊥
Stops May next Not space (s ∷ rest) fault =
    ((fault.at ≡ s.at) × Not space s fault.cause) ⊎ (May space s × Stops May next Not (next space s) rest fault)

-- there is no CPU HOB, or the first has bits that there may not be
abbrev pub IsBitsFault : Option CpuSize → GcdFault → Type 0
IsBitsFault None fault = (fault.cause ≡ NoCpu) × (fault.at ≡ 0)
IsBitsFault (Some cpu) fault = ¬ AreBits cpu.bits × (fault.cause ≡ Bits) × (fault.at ≡ cpu.at)

-- a resource or an allocation cannot follow
abbrev pub IsMemoryFault : List ℕ → List HobPlace → MemorySpace → GcdFault → Type 0
IsMemoryFault bytes places space fault =
    Stops MayCome came ComesNot space (resources bytes places) fault
    ⊎ ((middle : MemorySpace) × Follow MayCome came space (resources bytes places) middle × Stops MayBeTaken taken IsNotTaken middle (allocations bytes places) fault)

-- what is wrong with a list that has no fault of its own
abbrev pub IsFaultOfHobs : List ℕ → List HobPlace → GcdFault → Type 0
IsFaultOfHobs bytes places fault =
    IsBitsFault (first_cpu bytes places) fault
    ⊎ ((bits : ℕ) × AreBitsOf (first_cpu bytes places) bits × IsMemoryFault bytes places (empty_space (2 ^ bits)) fault)

-- the list has this fault first
abbrev pub IsFirstFault : List ℕ → GcdFault → Type 0
IsFirstFault bytes fault = IsWalkFault bytes fault ⊎ ((places : List HobPlace) × AreHobs bytes places × IsFaultOfHobs bytes places fault)
