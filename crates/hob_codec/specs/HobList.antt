-- The list of hand-off blocks from a hand-off HOB to the first end HOB, by their places. PI 1.8, volume 3, HOB list.
use Rattle.std.specs.Prelude.{◌≡◌, ◌≢◌, ℕ, ◌+◌, ◌&&◌, not, nat_le, ◌==◌, if◌then◌else◌, List, [], ◌∷◌, length, Option, Some, None, Result, Ok, Err}
use Rattle.hob_codec.specs.declared.fault.HobFault.{HobFault}
use Rattle.hob_codec.specs.declared.fault.HobFault.TheVariants.{NoEnd, Form}
use Rattle.hob_codec.specs.{declared.list.HobPlace.HobPlace, declared.kind.TheConstants.HANDOFF, declared.kind.TheConstants.END}
use Rattle.hob_codec.specs.HobValue.{HobValue}
use Rattle.hob_codec.specs.HobReading.{reading, kind_at, length_at}

-- the place of the HOB there
abbrev pub place_at : List ℕ → ℕ → HobPlace
place_at bytes at = record { at = at; kind = kind_at bytes at; length = length_at bytes at }

-- the fault of reading, or of a first HOB that is no hand-off
abbrev pub first_fault : ℕ → ℕ → Result (HobValue × ℕ) HobFault → Option HobFault
first_fault at kind (Err fault) = Some fault
first_fault at kind (Ok hob) = if (at == 0) && not (kind == HANDOFF) then Some Form else None

-- what is wrong with the list at a place
abbrev pub fault_at : List ℕ → ℕ → Option HobFault
fault_at bytes at = if nat_le (length bytes) at then Some NoEnd else first_fault at (kind_at bytes at) (reading bytes at)

-- these HOBs follow one another from one place to another, without a fault, and none of them ends the list
abbrev pub Leads : List ℕ → ℕ → List HobPlace → ℕ → Type 0
Leads bytes from [] to = from ≡ to
Leads bytes from (place ∷ places) to =
    (place ≡ place_at bytes from) × (fault_at bytes from ≡ None) × (kind_at bytes from ≢ END) × Leads bytes (from + length_at bytes from) places to

-- the HOBs before the first end HOB
abbrev pub AreHobs : List ℕ → List HobPlace → Type 0
AreHobs bytes places = (end : ℕ) × Leads bytes 0 places end × (fault_at bytes end ≡ None) × (kind_at bytes end ≡ END)

-- the fault at the first place that has one
abbrev pub IsListFault : List ℕ → HobFault → Type 0
IsListFault bytes fault = (places : List HobPlace) × (at : ℕ) × Leads bytes 0 places at × (fault_at bytes at ≡ Some fault)
