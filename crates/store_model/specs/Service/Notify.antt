-- Registering notifications. Each takes a node; so does each pair of a PPI and a new dispatch notification of its GUID, which is queued.
-- PI 1.8, volume 1, `NotifyPpi()`.
use Rattle.std.specs.Prelude.{ℕ, ◌+◌, not, List, [], ◌∷◌, ◌++◌, length, Ok, filter, fold}
use Rattle.std.specs.List.{list_any}
use Rattle.store_model.specs.{declared.store_handle.DescKind.DescKind, declared.store_handle.Desc.Desc, declared.store_handle.Sweep.Sweep}
use Rattle.store_model.specs.declared.store_handle.DescKind.TheVariants.{Ppi, Callback, Dispatch}
use Rattle.store_model.specs.StoreState.{StoreState, Entry, next_body}
use Rattle.store_model.specs.Service.{Service, in_room, unless_bad}
use Rattle.store_model.specs.Service.Descriptor.{kind_at, is_ppi, is_callback, descriptors, offsets}
use Rattle.store_model.specs.Service.Install.{with_node, with_pending, pairs_of, node_need}

-- the entry of a notification that takes the next node
abbrev pub note_entry : StoreState → Desc → ℕ → Entry
note_entry s d by = record { node = next_body s; descriptor = d.offset; by = by }

-- one notification more, in the list of its kind
abbrev pub with_note_of : DescKind → ℕ → StoreState → Desc → StoreState
with_note_of Ppi by s d = s
with_note_of Callback by s d = record (with_node s) { callbacks = s.callbacks ++ note_entry s d by ∷ [] }
with_note_of Dispatch by s d = record (with_node s) { dispatches = s.dispatches ++ note_entry s d by ∷ [] }

-- the same by the descriptor's kind
abbrev pub with_note : ℕ → StoreState → Desc → StoreState
with_note by s d = with_note_of (kind_at s d.offset) by s d

-- the callbacks of a list
abbrev pub new_callbacks : StoreState → List Desc → List ℕ
new_callbacks s list = filter (λ place. is_callback (kind_at s place)) (offsets list)

-- the dispatch notifications of a list
abbrev pub new_dispatches : StoreState → List Desc → List ℕ
new_dispatches s list = filter (λ place. not (is_callback (kind_at s place))) (offsets list)

-- all PPIs with the new dispatch notifications
abbrev pub notify_pairs : StoreState → List Desc → List (ℕ × ℕ)
notify_pairs s list = pairs_of s (descriptors s.ppis) (new_dispatches s list)

-- all PPIs with the new callbacks
abbrev pub notify_sweep : StoreState → List Desc → Sweep
notify_sweep s list = record {
  ppi_to = length s.ppis;
  note_from = length s.callbacks;
  note_to = length s.callbacks + length (new_callbacks s list);
  ppi_at = 0;
  note_at = length s.callbacks;
}

-- the state with these notifications, and with their pairs after those that are queued
abbrev pub notified : StoreState → List Desc → ℕ → StoreState
notified s list by = fold (with_pending by) (fold (with_note by) s list) (notify_pairs s list)

-- `NotifyPpi()`: Bad if one of these is a PPI's descriptor, then Full if the nodes of the notifications and of the pairs have no room
abbrev pub notify : StoreState → List Desc → ℕ → Service Sweep
notify s list by =
    unless_bad (list_any (λ d. is_ppi (kind_at s d.offset)) list)
    (in_room s (node_need (length list) + node_need (length (notify_pairs s list))) (Ok (notify_sweep s list, notified s list by)))
