-- Bytes that are the image of a state, and the address of the first node of one of its lists.
-- Own.
use Rattle.std.specs.Prelude.{◌≡◌, ℕ, ◌+◌, ◌<◌, ◌≤◌, ◌^◌, List, ◌∷◌, length, drop}
use Rattle.store_model.specs.{StoreState.StoreState, StateFacts.IsStoreState, HeapImage.heap_image}
use Rattle.store_model.specs.declared.store_handle.EntryList.{EntryList}
use Rattle.store_laws.specs.Items.{Item, items, first_address}
use Rattle.store_laws.specs.Word.{word_in}

pub record IsHeaded (s : StoreState) (list : EntryList) (heap : List ℕ) (base head : ℕ) : Type 0 where
  pub state : IsStoreState s
  pub image : heap ≡ heap_image s
  pub start : base ≡ s.base
  pub first : head ≡ first_address s.base (items s list)

-- a node's first word is the address of the next node of its list, or 0
abbrev pub NextIsRead : Type 0
NextIsRead = (s : StoreState) (list : EntryList) (i : ℕ) (item : Item) (rest : List Item) → IsStoreState s
    → drop i (items s list) ≡ item ∷ rest
    → word_in (heap_image s) item.node ≡ first_address s.base rest

-- its second is the address of a descriptor, and its third that of a queued PPI's, or 0
abbrev pub DescriptorIsRead : Type 0
DescriptorIsRead = (s : StoreState) (list : EntryList) (i : ℕ) (item : Item) (rest : List Item) → IsStoreState s
    → drop i (items s list) ≡ item ∷ rest
    → word_in (heap_image s) (item.node + 8) ≡ item.descriptor

abbrev pub SecondIsRead : Type 0
SecondIsRead = (s : StoreState) (list : EntryList) (i : ℕ) (item : Item) (rest : List Item) → IsStoreState s
    → drop i (items s list) ≡ item ∷ rest
    → word_in (heap_image s) (item.node + 16) ≡ item.second

-- its fourth is the number of a module, if that fits
abbrev pub NumberIsRead : Type 0
NumberIsRead = (s : StoreState) (list : EntryList) (i : ℕ) (item : Item) (rest : List Item) → IsStoreState s
    → drop i (items s list) ≡ item ∷ rest → item.number < 2 ^ 64
    → word_in (heap_image s) (item.node + 24) ≡ item.number

-- the places of nodes and descriptors are in the heap, and no node's is the first
abbrev pub NodesAreInside : Type 0
NodesAreInside = (s : StoreState) (list : EntryList) (i : ℕ) (item : Item) (rest : List Item) → IsStoreState s
    → drop i (items s list) ≡ item ∷ rest
    → (64 ≤ item.node) × (item.node + 32 ≤ s.len) × (s.base + 64 ≤ item.descriptor) × (item.descriptor + 24 ≤ s.base + s.len)

-- a list is no longer than the heap
abbrev pub ListsAreShort : Type 0
ListsAreShort = (s : StoreState) (list : EntryList) → IsStoreState s → length (items s list) ≤ s.len
