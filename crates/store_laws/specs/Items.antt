-- The entries of the four lists as one kind of item, which has the fields that its node spells, and a search among them.
-- Own.
use Rattle.std.specs.Prelude.{ℕ, ◌+◌, ◌==◌, if◌then◌else◌, List, [], ◌∷◌, map, Option, Some, None}
use Rattle.std.specs.Option.{option_or}
use Rattle.store_model.specs.{declared.state.Entry.Entry, declared.state.Pending.Pending, StoreState.StoreState, HeapImage.Links}
use Rattle.store_model.specs.declared.store_handle.EntryList.{EntryList}
use Rattle.store_model.specs.declared.store_handle.EntryList.TheVariants.{Ppis, Callbacks, Dispatches, Pendings}

-- a node's place, and its fields but the first: addresses, or 0, and the number of a module
pub record Item : Type 0 where
  pub node : ℕ
  pub descriptor : ℕ
  pub second : ℕ
  pub number : ℕ

abbrev pub item_of : ℕ → Entry → Item
item_of base entry = record { node = entry.node; descriptor = base + entry.descriptor; second = 0; number = entry.by }

abbrev pub queued_item : ℕ → Pending → Item
queued_item base pending = record { node = pending.node; descriptor = base + pending.descriptor; second = base + pending.ppi; number = pending.by }

-- the items of a list
abbrev pub items : StoreState → EntryList → List Item
items s Ppis = map (item_of s.base) s.ppis
items s Callbacks = map (item_of s.base) s.callbacks
items s Dispatches = map (item_of s.base) s.dispatches
items s Pendings = map (queued_item s.base) s.pendings

-- the places of their nodes
abbrev pub places_of : List Item → List ℕ
places_of list = map (λ item. item.node) list

-- the address of the first of these nodes, or 0
abbrev pub first_address : ℕ → List Item → ℕ
first_address base [] = 0
first_address base (item ∷ list) = base + item.node

-- the fields of a node before a next one
abbrev pub links_before : Item → ℕ → Links
links_before item next = record { next = next; descriptor = item.descriptor; second = item.second; number = item.number }

-- the fields of the node at a place, among the items of one list, and of several
abbrev pub links_among : ℕ → ℕ → List Item → Option Links
links_among base place [] = None
links_among base place (item ∷ list) = if item.node == place then Some (links_before item (first_address base list)) else links_among base place list

abbrev pub links_of_lists : ℕ → ℕ → List (List Item) → Option Links
links_of_lists base place [] = None
links_of_lists base place (list ∷ lists) = option_or (links_among base place list) (links_of_lists base place lists)

-- the four lists in order, and those before one of them
abbrev pub all_lists : StoreState → List (List Item)
all_lists s = items s Ppis ∷ items s Callbacks ∷ items s Dispatches ∷ items s Pendings ∷ []

abbrev pub earlier_lists : StoreState → EntryList → List (List Item)
earlier_lists s Ppis = []
earlier_lists s Callbacks = items s Ppis ∷ []
earlier_lists s Dispatches = items s Ppis ∷ items s Callbacks ∷ []
earlier_lists s Pendings = items s Ppis ∷ items s Callbacks ∷ items s Dispatches ∷ []

abbrev pub later_lists : StoreState → EntryList → List (List Item)
later_lists s Ppis = items s Callbacks ∷ items s Dispatches ∷ items s Pendings ∷ []
later_lists s Callbacks = items s Dispatches ∷ items s Pendings ∷ []
later_lists s Dispatches = items s Pendings ∷ []
later_lists s Pendings = []
