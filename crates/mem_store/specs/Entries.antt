-- Entries in order, and those of a GUID among them.
-- Own.
use Rattle.std.specs.Prelude.{ℕ, Bool, false, List, filter, option_map, unwrap_or, slice_get}
use Rattle.pi_base.specs.{declared.guid.Guid.Guid, Guids.same_guid}
use Rattle.mem_store.specs.declared.guid_index.index.Indexed.{Indexed}

-- whether an entry has a GUID, and whether the one in a place has it
abbrev pub has_guid : Guid → Indexed → Bool
has_guid guid entry = same_guid entry.guid guid

abbrev pub has_at : List Indexed → Guid → ℕ → Bool
has_at list guid place = unwrap_or (option_map (has_guid guid) (slice_get list place)) false

-- the entries of a GUID, in order
abbrev pub entries_of : List Indexed → Guid → List Indexed
entries_of list guid = filter (has_guid guid) list
