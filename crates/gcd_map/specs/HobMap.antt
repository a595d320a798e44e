-- The memory space that a HOB list describes: its resources, one after another, and then its allocations. PI 1.8, volume 3, "HOB Code Definitions". Resources
-- of other types are ignored (own).
use Rattle.std.specs.Prelude.{◌≡◌, ◌≢◌, ℕ, ◌+◌, ◌^◌, ◌<◌, ◌≤◌, ◌==◌, ◌||◌, if◌then◌else◌, List, [], ◌∷◌, Option, Some, None, option_map, Result, Ok, Err}
use Rattle.std.specs.Option.{option_or}
use Rattle.hob_codec.specs.{declared.fault.HobFault.HobFault, declared.list.HobPlace.HobPlace, HobReading.reading, HobList.AreHobs}
use Rattle.hob_codec.specs.HobValue.{HobValue, ResourceHob, AllocationHob, CpuHob}
use Rattle.gcd_map.specs.{declared.state.GcdKind.GcdKind, declared.hob.HobStretch.HobStretch, declared.hob.CpuSize.CpuSize}
use Rattle.gcd_map.specs.declared.state.GcdKind.TheVariants.{NonExistent, Reserved, System, Mmio}
use Rattle.gcd_map.specs.declared.hob.TheConstants.{SYSTEM_MEMORY, MEMORY_MAPPED_IO, FIRMWARE_DEVICE, MEMORY_MAPPED_IO_PORT, MEMORY_RESERVED}
use Rattle.gcd_map.specs.{declared.map.TheConstants.LEAST_BITS, declared.map.TheConstants.MOST_BITS, Stretch.AllIn}
use Rattle.gcd_map.specs.AddressSpace.{MemorySpace, state_at, with_change, add_change, allocate_change, empty_space}
use Rattle.gcd_map.specs.Commands.{IsAbsent, IsFreeOf}

-- the kind of a resource type
abbrev pub used_kind : ℕ → Option GcdKind
used_kind kind =
    if kind == SYSTEM_MEMORY then Some System
    else if (kind == MEMORY_MAPPED_IO) || (kind == FIRMWARE_DEVICE) then Some Mmio
    else if (kind == MEMORY_MAPPED_IO_PORT) || (kind == MEMORY_RESERVED) then Some Reserved
    else None

-- the resource that a HOB is
abbrev pub resource_in : ℕ → HobValue → Option HobStretch
resource_in at (ResourceHob owner kind attributes start len) = option_map (λ used. record { at = at; kind = used; base = start; len = len }) (used_kind kind)
resource_in at hob = None

-- the allocation that a HOB is, of system memory
abbrev pub allocation_in : ℕ → HobValue → Option HobStretch
allocation_in at (AllocationHob name base len memory_type) = Some (record { at = at; kind = System; base = base; len = len })
allocation_in at hob = None

-- SizeOfMemorySpace of a CPU HOB
abbrev pub cpu_in : ℕ → HobValue → Option CpuSize
cpu_in at (CpuHob memory io) = Some (record { at = at; bits = memory })
cpu_in at hob = None

abbrev pub of_reading : {A : Type 0} → (HobValue → Option A) → Result (HobValue × ℕ) HobFault → Option A
of_reading f (Ok read) = f read.0
of_reading f (Err fault) = None

abbrev pub resource_at : List ℕ → ℕ → Option HobStretch
resource_at bytes at = of_reading (resource_in at) (reading bytes at)

abbrev pub allocation_at : List ℕ → ℕ → Option HobStretch
allocation_at bytes at = of_reading (allocation_in at) (reading bytes at)

abbrev pub cpu_at : List ℕ → ℕ → Option CpuSize
cpu_at bytes at = of_reading (cpu_in at) (reading bytes at)

abbrev pub with_first : Option HobStretch → List HobStretch → List HobStretch
with_first None stretches = stretches
with_first (Some stretch) stretches = stretch ∷ stretches

-- the resources in order
abbrev pub resources : List ℕ → List HobPlace → List HobStretch
resources bytes [] = []
resources bytes (place ∷ places) = with_first (resource_at bytes place.at) (resources bytes places)

-- the allocations in order
abbrev pub allocations : List ℕ → List HobPlace → List HobStretch
allocations bytes [] = []
allocations bytes (place ∷ places) = with_first (allocation_at bytes place.at) (allocations bytes places)

-- the first CPU HOB
abbrev pub first_cpu : List ℕ → List HobPlace → Option CpuSize
first_cpu bytes [] = None
first_cpu bytes (place ∷ places) = option_or (cpu_at bytes place.at) (first_cpu bytes places)

abbrev pub AreBits : ℕ → Type 0
AreBits bits = (LEAST_BITS ≤ bits) × (bits ≤ MOST_BITS)

-- a resource may come: it has an address, ends in the space, and meets nothing
abbrev pub MayCome : MemorySpace → HobStretch → Type 0
MayCome space s = (0 < s.len) × (s.base + s.len ≤ space.limit) × AllIn (state_at space) s.base (s.base + s.len) IsAbsent

-- one of a kind may come
abbrev pub Comes : MemorySpace → HobStretch → Type 0
Comes space s = MayCome space s × (s.kind ≢ NonExistent)

abbrev pub came : MemorySpace → HobStretch → MemorySpace
came space s = with_change space (add_change s.kind s.base s.len)

-- memory may be allocated: it has an address, and each address is free system memory
abbrev pub MayBeTaken : MemorySpace → HobStretch → Type 0
MayBeTaken space s = (0 < s.len) × (s.base + s.len ≤ space.limit) × AllIn (state_at space) s.base (s.base + s.len) (IsFreeOf System)

abbrev pub taken : MemorySpace → HobStretch → MemorySpace
taken space s = with_change space (allocate_change System s.base s.len)

-- the space after stretches, one after another
abbrev pub Follow : (MemorySpace → HobStretch → Type 0) → (MemorySpace → HobStretch → MemorySpace) → MemorySpace → List HobStretch → MemorySpace → Type 0
Follow May next space [] end = end ≡ space
Follow May next space (s ∷ rest) end = May space s × Follow May next (next space s) rest end

-- these are the bits of the first CPU HOB, and there may be so many
abbrev pub AreBitsOf : Option CpuSize → ℕ → Type 0
AreBitsOf None bits = ⊥
AreBitsOf (Some cpu) bits = (bits ≡ cpu.bits) × AreBits cpu.bits

-- the space after the resources, and then the allocations
pub record IsFilled (bytes : List ℕ) (places : List HobPlace) (old new : MemorySpace) : Type 0 where
  pub middle : MemorySpace
  pub added : Follow MayCome came old (resources bytes places) middle
  pub allocated : Follow MayBeTaken taken middle (allocations bytes places) new

-- the space of a HOB list
pub record IsSpaceOf (bytes : List ℕ) (space : MemorySpace) : Type 0 where
  pub places : List HobPlace
  pub hobs : AreHobs bytes places
  pub bits : ℕ
  pub sized : AreBitsOf (first_cpu bytes places) bits
  pub filled : IsFilled bytes places (empty_space (2 ^ bits)) space
