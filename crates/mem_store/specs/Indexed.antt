-- What the index says of a state: the rows of its lists, or nothing any more; and what a call makes of it.
-- Own.
use Rattle.std.specs.Prelude.{◌≡◌, ◌∷◌, ◌++◌, [], true, List, length, option_map, Some}
use Rattle.pi_base.specs.declared.known_guid.TheConstants.{MEMORY_PPI}
use Rattle.mem_store.specs.{declared.guid_index.index.Indexed.Indexed, Entries.entries_of, Nodes.Follows, Rows.rows_of, Rows.told_row}
use Rattle.store_model.specs.{StoreState.StoreState, Service.Reading.nth_ppi}
use Rattle.mem_store.specs.declared.index.Index.{Index}

-- the rows of the three lists
pub record Rows : Type 0 where
  pub ppis : List Indexed
  pub callbacks : List Indexed
  pub dispatches : List Indexed

-- those of a state, and those that an index has
abbrev pub all_rows : StoreState → Rows
all_rows s = record { ppis = rows_of s s.ppis; callbacks = rows_of s s.callbacks; dispatches = rows_of s s.dispatches }

abbrev pub held : Index → Rows
held index = record { ppis = index.ppis; callbacks = index.callbacks; dispatches = index.dispatches }

-- where it is right, it has the rows of the state; and it knows nodes of its PPIs
pub record Says (index : Index) (s : StoreState) : Type 0 where
  pub rows : index.right ≡ true → held index ≡ all_rows s
  pub named : Follows index.named s

-- where it is right behind a call, it was before, and has these rows
abbrev pub Becomes : Index → Index → Rows → Type 0
Becomes old new rows = new.right ≡ true → (old.right ≡ true) × (held new ≡ rows)

-- where it is, it has the PPI of permanent memory behind the others, the last one of its GUID that a state has
pub record HasCore (old new : Index) (s : StoreState) : Type 0 where
  pub was : old.right ≡ true
  pub row : Indexed
  pub guid_is : row.guid ≡ MEMORY_PPI
  pub last : option_map (told_row s) (Some row) ≡ nth_ppi s MEMORY_PPI (length (entries_of old.ppis MEMORY_PPI))
  pub rows : held new ≡ record (held old) { ppis = old.ppis ++ row ∷ [] }

abbrev pub BecomesCore : Index → Index → StoreState → Type 0
BecomesCore old new s = new.right ≡ true → HasCore old new s
