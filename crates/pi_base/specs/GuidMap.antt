-- A map from GUIDs: what a look-up of each GUID returns.
use Rattle.std.specs.Prelude.{◌≡◌, ℕ, ◌<◌, ◌^◌, List, map, if◌then◌else◌, Option, Some}
use Rattle.std.specs.Map.{lookup}
use Rattle.pi_base.specs.{Field.little_bytes, Guids.same_guid, declared.guid.Guid.Guid}

-- the value of a GUID
abbrev pub value_of : {V : Type 0} → List (Guid × V) → Guid → Option V
value_of map guid = lookup (same_guid guid) map

-- this GUID has this value, and every other GUID keeps its own
abbrev pub IsPut : {V : Type 0} → List (Guid × V) → Guid → V → List (Guid × V) → Type 0
IsPut old guid value new = (other : Guid) → value_of new other ≡ (if same_guid guid other then Some value else value_of old other)

-- the GUID whose sixteen bytes spell a number
abbrev pub spelled : ℕ → Guid
spelled number = record { 0 = little_bytes 16 number }

-- the GUID that an entry's number spells, with the entry's value
abbrev pub entry_of : {V : Type 0} → ℕ × V → Guid × V
entry_of entry = (spelled entry.0, entry.1)

abbrev pub entries_of : {V : Type 0} → List (ℕ × V) → List (Guid × V)
entries_of entries = map entry_of entries

-- sixteen bytes spell the number of an entry
abbrev pub IsNumbered : {V : Type 0} → ℕ × V → Type 0
IsNumbered entry = entry.0 < 256 ^ 16
