-- What an entry more changes of the heap: the bytes of its node, and the last node of its list, if there is one, names it.
-- Own.
use Rattle.std.specs.Prelude.{◌≡◌, ℕ, ◌+◌, ◌≤◌, List, [], ◌∷◌, Option, Some, None}
use Rattle.pi_base.specs.Field.{little_bytes}
use Rattle.phys_mem.specs.Region.{replaced}
use Rattle.store_model.specs.declared.store_handle.Desc.{Desc}
use Rattle.store_model.specs.declared.store_handle.DescKind.TheVariants.{Callback, Dispatch}
use Rattle.store_model.specs.StoreState.{StoreState, end_place, next_body}
use Rattle.store_model.specs.{StateFacts.IsStoreState, HeapImage.links_bytes, HeapImage.heap_image}
use Rattle.store_model.specs.Service.Install.{with_node, with_ppi, with_pending}
use Rattle.store_model.specs.{Service.Notify.with_note_of, Service.Notify.note_entry, declared.store_handle.EntryList.EntryList}
use Rattle.store_model.specs.declared.store_handle.EntryList.TheVariants.{Ppis, Callbacks, Dispatches, Pendings}
use Rattle.store_laws.specs.Items.{Item, item_of, queued_item, items, places_of, links_before}

-- a node with its header and an end HOB have room
abbrev pub HasNodeRoom : StoreState → Type 0
HasNodeRoom s = end_place s + 48 ≤ s.len

-- the last of these places
abbrev pub last_place : List ℕ → Option ℕ
last_place [] = None
last_place (place ∷ []) = Some place
last_place (place ∷ next ∷ places) = last_place (next ∷ places)

-- the node at the last place, if there is one, names the node at a place
abbrev pub named_by : Option ℕ → ℕ → List ℕ → List ℕ
named_by None address heap = heap
named_by (Some last) address heap = replaced heap last (little_bytes 8 address)

-- the heap with the node of an item, which is after the others of a list
abbrev pub with_last : StoreState → EntryList → Item → List ℕ → List ℕ
with_last s list item heap =
    named_by (last_place (places_of (items s list))) (s.base + item.node) (replaced heap item.node (links_bytes (Some (links_before item 0))))

-- an entry more, after the others of its list, over the heap with a node more
abbrev pub PpisAreLinked : Type 0
PpisAreLinked = (s : StoreState) (by : ℕ) (d : Desc) → IsStoreState s → HasNodeRoom s
    → heap_image (with_ppi by s d) ≡ with_last s Ppis (item_of s.base (note_entry s d by)) (heap_image (with_node s))

abbrev pub CallbacksAreLinked : Type 0
CallbacksAreLinked = (s : StoreState) (by : ℕ) (d : Desc) → IsStoreState s → HasNodeRoom s
    → heap_image (with_note_of Callback by s d) ≡ with_last s Callbacks (item_of s.base (note_entry s d by)) (heap_image (with_node s))

abbrev pub DispatchesAreLinked : Type 0
DispatchesAreLinked = (s : StoreState) (by : ℕ) (d : Desc) → IsStoreState s → HasNodeRoom s
    → heap_image (with_note_of Dispatch by s d) ≡ with_last s Dispatches (item_of s.base (note_entry s d by)) (heap_image (with_node s))

abbrev pub PairsAreLinked : Type 0
PairsAreLinked = (s : StoreState) (by : ℕ) (pair : ℕ × ℕ) → IsStoreState s → HasNodeRoom s
    → heap_image (with_pending by s pair)
    ≡ with_last s Pendings (queued_item s.base (record { node = next_body s; descriptor = pair.1; ppi = pair.0; by = by })) (heap_image (with_node s))
