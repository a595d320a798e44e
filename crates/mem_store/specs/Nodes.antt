-- The nodes of a state's PPIs, each found by the descriptor that it names, and the first of them that an index knows.
-- PI 1.8, volume 1, `ReInstallPpi()`.
use Rattle.std.specs.Prelude.{◌≡◌, ℕ, zero, suc, ◌-◌, List, [], ◌∷◌, ◌++◌, length, map, Option, option_map, replicate, slice_get, true}
use Rattle.pi_base.specs.{declared.guid.Guid.Guid, Field.little_bytes}
use Rattle.store_model.specs.{declared.state.Entry.Entry, StoreState.StoreState, StateFacts.IsStoreState}
use Rattle.mem_store.specs.{declared.guid_index.index.Indexed.Indexed, declared.named.Named.Named, Rows.rows_of}

-- a descriptor's offset, as that by which its PPIs are found: eight bytes, and eight zeros
abbrev pub key_of : ℕ → Guid
key_of offset = record { 0 = little_bytes 8 offset ++ replicate 8 0 }

-- the node of an entry, by its descriptor
abbrev pub named_row : Entry → Indexed
named_row entry = record { guid = key_of entry.descriptor; at = entry.node }

-- those of all PPIs, in order
abbrev pub named_rows : StoreState → List Indexed
named_rows s = map named_row s.ppis

-- the first of a list
abbrev pub Begins : List Indexed → List Indexed → Type 0
Begins front all = (rest : List Indexed) × (all ≡ front ++ rest)

-- what an index says of a state, where it is right: the first of the PPIs' nodes
abbrev pub Follows : Named → StoreState → Type 0
Follows named s = named.right ≡ true → Begins named.nodes (named_rows s)

-- the last node that is known
abbrev pub last_node : List Indexed → Option ℕ
last_node nodes = option_map (λ (row : Indexed). row.at) (slice_get nodes (length nodes - 1))

-- one more can be learned by the rows of the PPIs
abbrev pub CanLearn : List Indexed → List Indexed → StoreState → Type 0
CanLearn nodes ppis s = (ppis ≡ rows_of s s.ppis) × Begins nodes (named_rows s)

-- all are known
abbrev pub AreKnown : List Indexed → StoreState → Type 0
AreKnown nodes s = IsStoreState s × (nodes ≡ named_rows s)

-- the node in a place is that of another descriptor
abbrev pub with_other : List Indexed → ℕ → ℕ → List Indexed
with_other [] place at = []
with_other (row ∷ rows) zero at = record { guid = key_of at; at = row.at } ∷ rows
with_other (row ∷ rows) (suc place) at = row ∷ with_other rows place at

abbrev pub NamesOther : Named → Named → ℕ → ℕ → Type 0
NamesOther old new place at = new.right ≡ true → (old.right ≡ true) × (new.nodes ≡ with_other old.nodes place at)
