-- Which modules may install a GUID in a phase: those whose script of the phase names it.
-- Own.
use Rattle.std.specs.Prelude.{◌≡◌, ℕ, ◌+◌, Bool, false, ◌==◌, if◌then◌else◌, List, [], ◌∷◌, ◌++◌, Option, Some, None, slice_get, option_and_then}
use Rattle.std.specs.List.{list_any}
use Rattle.pi_base.specs.{declared.guid.Guid.Guid, declared.phase.Phase.Phase, Guids.same_guid, GuidMap.value_of}
use Rattle.mod_catalog.specs.{declared.catalogue.Module.Module, declared.catalogue.Part.Part, Parts.part_of}
use Rattle.explain_text.specs.{Gives.given_in, declared.givers.Givers.Givers, declared.givers.Link.Link}

-- whether the script of a part names a GUID of what it may install
abbrev pub part_gives : Guid → Option Part → Bool
part_gives guid None = false
part_gives guid (Some part) = list_any (same_guid guid) (given_in part.script)

-- the modules that may install a GUID in a phase; the first of these modules has this number
abbrev pub givers_from : Phase → Guid → ℕ → List Module → List ℕ
givers_from phase guid number [] = []
givers_from phase guid number (m ∷ ms) = (if part_gives guid (part_of phase m) then number ∷ [] else []) ++ givers_from phase guid (number + 1) ms

-- the link at a place
abbrev pub link_at : List Link → Option ℕ → Option Link
link_at links place = option_and_then (slice_get links) place

-- whether a module is the first from a place on
abbrev pub has_number : Option Link → ℕ → Bool
has_number None number = false
has_number (Some link) number = link.number == number

abbrev pub is_first : List Link → Option ℕ → ℕ → Bool
is_first links first number = has_number (link_at links first) number

-- the links from a place on are these modules
abbrev pub Chain : List Link → Option ℕ → List ℕ → Type 0
Chain links place [] = place ≡ None
Chain links place (number ∷ numbers) = (link : Link) × (link_at links place ≡ Some link) × (link.number ≡ number) × Chain links link.next numbers

-- the modules that are kept for a GUID
abbrev pub AreKept : Givers → Guid → List ℕ → Type 0
AreKept givers guid numbers = Chain givers.links (value_of givers.first guid) numbers

-- a module in front of others, unless it is their first
abbrev pub in_front : ℕ → List ℕ → List ℕ
in_front number [] = number ∷ []
in_front number (first ∷ rest) = if first == number then first ∷ rest else number ∷ first ∷ rest

-- one GUID more of a module
abbrev pub AddsName : ℕ → Guid → Givers → Givers → Type 0
AddsName number guid old new =
    (other : Guid) (numbers : List ℕ) → AreKept old other numbers
    → AreKept new other (if same_guid other guid then in_front number numbers else numbers)

-- GUIDs of a module
abbrev pub AddsNames : ℕ → List Guid → Givers → Givers → Type 0
AddsNames number guids old new =
    (other : Guid) (numbers : List ℕ) → AreKept old other numbers
    → AreKept new other (if list_any (same_guid other) guids then in_front number numbers else numbers)

-- those of modules, of which the first has this number
abbrev pub AreGivers : Phase → ℕ → List Module → Givers → Type 0
AreGivers phase number modules givers = (guid : Guid) → AreKept givers guid (givers_from phase guid number modules)
