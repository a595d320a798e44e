-- What an index says of a list of a state: of each entry the GUID of its descriptor, and where that stands.
-- Own.
use Rattle.std.specs.Prelude.{ℕ, List, map}
use Rattle.mem_store.specs.declared.guid_index.index.Indexed.{Indexed}
use Rattle.store_model.specs.{declared.state.Entry.Entry, declared.store_handle.Desc.Desc, StoreState.StoreState}
use Rattle.store_model.specs.Service.Descriptor.{descriptors, guid_at, number_at}

-- the row of the descriptor at a place
abbrev pub row_at : StoreState → ℕ → Indexed
row_at s place = record { guid = guid_at s place; at = place }

-- those of a list, in order
abbrev pub rows_of : StoreState → List Entry → List Indexed
rows_of s entries = map (row_at s) (descriptors entries)

-- a PPI's place with that of a row
abbrev pub pair_with : ℕ → Indexed → ℕ × ℕ
pair_with ppi row = (ppi, row.at)

-- a row's descriptor, with its number
abbrev pub told_row : StoreState → Indexed → Desc × ℕ
told_row s row = (record { offset = row.at }, number_at s row.at)
