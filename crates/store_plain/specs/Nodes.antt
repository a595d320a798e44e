-- What the adding of entries and queued pairs needs: room in the heap for their nodes, and memory in the lists.
-- Own.
use Rattle.std.specs.Prelude.{ℕ, ◌+◌, ◌*◌, ◌≤◌, vec_len, vec_capacity}
use Rattle.store_model.specs.StoreState.{free}
use Rattle.store_plain.specs.{declared.store.PlainStore.PlainStore, PlainState.state_of}

-- so many nodes can be added
abbrev pub HasNodes : PlainStore → ℕ → Type 0
HasNodes p n = (40 * n ≤ free (state_of p)) × (vec_len p.hobs + n ≤ vec_capacity p.hobs)

-- so many entries can be added to each list
abbrev pub HasEntries : PlainStore → ℕ → Type 0
HasEntries p n =
    (vec_len p.ppis + n ≤ vec_capacity p.ppis) × (vec_len p.callbacks + n ≤ vec_capacity p.callbacks)
    × (vec_len p.dispatches + n ≤ vec_capacity p.dispatches)
