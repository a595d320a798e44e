-- The causes of refusals, and places in a list.
use Rattle.std.specs.Prelude.{◌≡◌, ◌≢◌, ℕ, ◌^◌, ◌<◌, List, Option, None, Some}
use Rattle.hob_codec.specs.{declared.fault.HobFault.HobFault, HobList.fault_at, declared.list.HobPlace.HobPlace}
use Rattle.gcd_map.specs.{HobFaults.walk_cause, declared.hob.HobStretch.HobStretch, declared.word.GcdWord.GcdWord}
use Rattle.gcd_map.specs.declared.word.GcdWord.TheVariants as word
use Rattle.gcd_map.specs.{declared.fault.GcdCause.GcdCause, declared.fault.GcdFault.GcdFault, SpaceMap.MapState, SpaceMap.Shows}
use Rattle.gcd_map.specs.declared.fault.GcdCause.TheVariants.{Memory, Range, Overlap, Outside}
use Rattle.gcd_map.specs.AddressSpace.{MemorySpace}

-- the place fits a fault
abbrev pub IsNear : HobPlace → Type 0
IsNear place = place.at < 2 ^ 32

-- why a resource was not added
abbrev pub resource_cause : GcdWord → GcdCause
resource_cause word.InvalidParameter = Range
resource_cause word.Unsupported = Range
resource_cause word.AccessDenied = Overlap
resource_cause word.NotFound = Range
resource_cause word.Memory = Memory

-- why memory was not allocated
abbrev pub allocation_cause : GcdWord → GcdCause
allocation_cause word.InvalidParameter = Outside
allocation_cause word.Unsupported = Outside
allocation_cause word.AccessDenied = Outside
allocation_cause word.NotFound = Outside
allocation_cause word.Memory = Memory

-- a stretch cannot follow, and the fault is at its HOB
abbrev pub IsFaultOf : (MemorySpace → HobStretch → GcdCause → Type 0) → MemorySpace → HobStretch → GcdFault → Type 0
IsFaultOf Not space s fault = fault.cause ≢ Memory → (fault.at ≡ s.at) × Not space s fault.cause

-- the fault of the list at a place
abbrev pub IsPlaceFault : List ℕ → ℕ → GcdFault → Type 0
IsPlaceFault bytes at fault = (cause : HobFault) × (fault.at ≡ at) × (fault_at bytes at ≡ Some cause) × (fault.cause ≡ walk_cause cause)

-- a stretch, if there is one, has followed
abbrev pub Step : (MemorySpace → HobStretch → Type 0) → (MemorySpace → HobStretch → MemorySpace) → MemorySpace → Option HobStretch → MapState → Type 0
Step May next space None new = Shows new space
Step May next space (Some s) new = May space s × Shows new (next space s)

-- it could not
abbrev pub IsStepFault : (MemorySpace → HobStretch → GcdCause → Type 0) → MemorySpace → Option HobStretch → GcdFault → Type 0
IsStepFault Not space None fault = ⊥
IsStepFault Not space (Some s) fault = IsFaultOf Not space s fault
