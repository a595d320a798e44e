-- The choice by an order: after so many starts the module of the order's line in that place is named, and no other is allowed; after its last line no module is
-- named and each is allowed, so the first eligible one starts, unless the order stops there. Own; PI 1.8, volumes 1 and 2, leave the order of the modules that
-- may start to the dispatchers.
use Rattle.std.specs.Prelude.{◌≡◌, ℕ, Bool, true, false, ◌&&◌, ◌==◌, List, Option, Some, None, is_none, length, map, slice_get}
use Rattle.pi_base.specs.{declared.guid.Guid.Guid, declared.phase.Phase.Phase}
use Rattle.pi_base.specs.{declared.phase.Phase.TheVariants.Pei, declared.phase.Phase.TheVariants.Dxe, Guids.same_guid}
use Rattle.mod_catalog.specs.{declared.catalogue.Catalog.Catalog, declared.catalogue.Module.Module}
use Rattle.boot_laws.specs.Naming.{Rules}
use Rattle.recorded_boot.specs.{Named.AreNames, Named.IsNamed, declared.order.line.AskedStart.AskedStart, declared.order.line.Start.Start}
use Rattle.recorded_boot.specs.declared.order.lines.StartOrder.{StartOrder}

-- the starts of lines of an order
abbrev pub starts_of : List AskedStart → List Start
starts_of asked = map (λ (one : AskedStart). one.start) asked

-- whether two phases are the same
abbrev pub same_phase : Phase → Phase → Bool
same_phase Pei Pei = true
same_phase Dxe Dxe = true
same_phase Pei Dxe = false
same_phase Dxe Pei = false

-- whether a start is that of a module in a phase
abbrev pub is_of : Phase → Start → Option Module → Bool
is_of phase start None = false
is_of phase start (Some m) = same_phase start.phase phase && (m.volume == start.volume && same_guid m.name start.name)

abbrev pub is_start_of : Catalog → Phase → ℕ → Start → Bool
is_start_of catalog phase number start = is_of phase start (slice_get catalog.modules number)

-- the module of a start's volume and file name, if there is one
abbrev pub IsNumberOf : Catalog → Start → Option ℕ → Type 0
IsNumberOf catalog start None = (number : ℕ) → IsNamed catalog start.volume start.name number → ⊥
IsNumberOf catalog start (Some number) = IsNamed catalog start.volume start.name number

-- the module of the start is named, if the start is one of the phase
abbrev pub NamesStart : Bool → Catalog → Start → Option ℕ → Type 0
NamesStart true catalog start named = IsNumberOf catalog start named
NamesStart false catalog start named = named ≡ None

-- by what the order asks for there: after its last line no module is named
abbrev pub NamesNext : Catalog → Phase → Option AskedStart → Option ℕ → Type 0
NamesNext catalog phase None named = named ≡ None
NamesNext catalog phase (Some asked) named = NamesStart (same_phase asked.start.phase phase) catalog asked.start named

-- whom the order names in a phase after so many starts
abbrev pub NamesAsked : Catalog → Phase → StartOrder → ℕ → Option ℕ → Type 0
NamesAsked catalog phase order starts named = NamesNext catalog phase (slice_get order.starts starts) named

-- the same, by the names of the modules as they are kept
abbrev pub NamesBy : Catalog → List (List (Guid × ℕ)) → Phase → StartOrder → ℕ → Option ℕ → Type 0
NamesBy catalog names phase order starts named = AreNames catalog (length catalog.modules) names → NamesAsked catalog phase order starts named

-- whether a module is allowed, by the start that the order asks for there
abbrev pub lets_asked : Catalog → Phase → Option ℕ → Option AskedStart → ℕ → Bool
lets_asked catalog phase stop None number = is_none stop
lets_asked catalog phase stop (Some asked) number = is_start_of catalog phase number asked.start

abbrev pub lets_by : Catalog → StartOrder → Phase → ℕ → ℕ → Bool
lets_by catalog order phase starts number = lets_asked catalog phase order.stop (slice_get order.starts starts) number

-- the rules of the choice by an order
abbrev pub order_rules : {S : Type 0} → Catalog → List (List (Guid × ℕ)) → StartOrder → Rules S
order_rules catalog names order = record {
  peims = λ sink before named. NamesBy catalog names Pei order before.starts named;
  lets_in_pei = λ before number. lets_by catalog order Pei before.starts number;
  drivers = λ sink before named. NamesBy catalog names Dxe order before.starts named;
  lets_in_dxe = λ before number. lets_by catalog order Dxe before.starts number;
  wants_turn = false;
}
