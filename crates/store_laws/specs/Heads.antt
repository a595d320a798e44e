-- The addresses of the first and the last node of a list, and what each change makes of them.
-- Own.
use Rattle.std.specs.Prelude.{◌≡◌, ◌≢◌, ℕ, ◌+◌, ◌-◌, ◌≤◌, ◌==◌, if◌then◌else◌, List, [], ◌∷◌, ◌++◌}
use Rattle.pi_base.specs.Field.{little_bytes}
use Rattle.phys_mem.specs.Region.{replaced}
use Rattle.store_model.specs.{declared.state.Pending.Pending, declared.store_handle.Desc.Desc}
use Rattle.store_model.specs.declared.store_handle.DescKind.TheVariants.{Callback, Dispatch}
use Rattle.store_model.specs.StoreState.{StoreState, end_place, next_body}
use Rattle.store_model.specs.{StateFacts.IsStoreState, HeapImage.heap_image, Service.Notify.with_note_of, Service.Notify.note_entry}
use Rattle.store_model.specs.Service.Install.{with_ppi, with_pending, renamed}
use Rattle.store_model.specs.declared.store_handle.EntryList.{EntryList}
use Rattle.store_model.specs.declared.store_handle.EntryList.TheVariants.{Ppis, Callbacks, Dispatches, Pendings}
use Rattle.store_laws.specs.{Changes.without_first, Linking.last_place, Linking.named_by, Word.word_in}
use Rattle.store_laws.specs.Items.{Item, item_of, queued_item, items, places_of, first_address}

-- the address of the last of these nodes, or 0
abbrev pub last_address : ℕ → List Item → ℕ
last_address base [] = 0
last_address base (item ∷ []) = base + item.node
last_address base (item ∷ next ∷ list) = last_address base (next ∷ list)

-- the node at an address, if that is not 0, names another
abbrev pub named_at : ℕ → ℕ → ℕ → List ℕ → List ℕ
named_at base tail address heap = if tail == 0 then heap else replaced heap (tail - base) (little_bytes 8 address)

abbrev pub LastIsNamed : Type 0
LastIsNamed = (s : StoreState) (list : EntryList) (address : ℕ) (heap : List ℕ) → IsStoreState s
    → named_by (last_place (places_of (items s list))) address heap ≡ named_at s.base (last_address s.base (items s list)) address heap

-- it is before the end HOB
abbrev pub LastIsInside : Type 0
LastIsInside = (s : StoreState) (list : EntryList) → IsStoreState s → last_address s.base (items s list) ≢ 0
    → (s.base + 64 ≤ last_address s.base (items s list)) × (last_address s.base (items s list) + 32 ≤ s.base + end_place s)

-- an item more
abbrev pub FirstIsPushed : Type 0
FirstIsPushed = (s : StoreState) (list : EntryList) (new : Item) → IsStoreState s
    → first_address s.base (items s list ++ new ∷ [])
    ≡ (if first_address s.base (items s list) == 0 then s.base + new.node else first_address s.base (items s list))

abbrev pub LastIsPushed : Type 0
LastIsPushed = (base : ℕ) (list : List Item) (new : Item) → last_address base (list ++ new ∷ []) ≡ base + new.node

-- the lists that get one; all others stay
pub record ItemsArePushed : Type 0 where
  pub ppi : (s : StoreState) (by : ℕ) (d : Desc) → items (with_ppi by s d) Ppis ≡ items s Ppis ++ item_of s.base (note_entry s d by) ∷ []
  pub callback : (s : StoreState) (by : ℕ) (d : Desc)
      → items (with_note_of Callback by s d) Callbacks ≡ items s Callbacks ++ item_of s.base (note_entry s d by) ∷ []
  pub dispatch : (s : StoreState) (by : ℕ) (d : Desc)
      → items (with_note_of Dispatch by s d) Dispatches ≡ items s Dispatches ++ item_of s.base (note_entry s d by) ∷ []
  pub pair : (s : StoreState) (by : ℕ) (pair : ℕ × ℕ)
      → items (with_pending by s pair) Pendings
      ≡ items s Pendings ++ queued_item s.base (record { node = next_body s; descriptor = pair.1; ppi = pair.0; by = by }) ∷ []

-- the queue without its first pair
abbrev pub FirstIsPopped : Type 0
FirstIsPopped = (s : StoreState) (first : Pending) (rest : List Pending) → IsStoreState s → s.pendings ≡ first ∷ rest
    → first_address s.base (items (without_first s first rest) Pendings) ≡ word_in (heap_image s) first.node

abbrev pub LastIsPopped : Type 0
LastIsPopped = (s : StoreState) (first : Pending) (rest : List Pending) → IsStoreState s → s.pendings ≡ first ∷ rest
    → last_address s.base (items (without_first s first rest) Pendings)
    ≡ (if word_in (heap_image s) first.node == 0 then 0 else last_address s.base (items s Pendings))

-- a PPI that names another descriptor has its node
abbrev pub PlacesAreKept : Type 0
PlacesAreKept = (s : StoreState) (old new : ℕ)
    → places_of (items (record s { ppis = renamed s.ppis old new }) Ppis) ≡ places_of (items s Ppis)

abbrev pub EndsAreKept : Type 0
EndsAreKept = (base : ℕ) (a b : List Item) → places_of a ≡ places_of b
    → (first_address base a ≡ first_address base b) × (last_address base a ≡ last_address base b)
