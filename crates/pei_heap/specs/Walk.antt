-- The entries of a list of PPIs or notifications, met one after another by their nodes.
-- Own.
use Rattle.std.specs.Prelude.{◌≡◌, ℕ, ◌+◌, List, [], ◌∷◌, drop, Option, Some, None, ⊤}
use Rattle.store_model.specs.{declared.state.Entry.Entry, declared.store_handle.DescKind.DescKind}
use Rattle.store_model.specs.declared.store_handle.DescKind.TheVariants.{Ppi, Callback, Dispatch}
use Rattle.store_model.specs.{declared.store_handle.EntryList.EntryList, StoreState.StoreState}
use Rattle.store_model.specs.declared.store_handle.EntryList.TheVariants.{Ppis, Callbacks, Dispatches, Pendings}
use Rattle.store_model.specs.Service.Reading.{told_behind, told_of}
use Rattle.store_laws.specs.{Named.IsNamed, Items.items, Items.first_address}
use Rattle.pei_heap.specs.declared.links.walk.Met.{Met}

-- the entries of a list; queued pairs are not entries
abbrev pub entries_in : StoreState → EntryList → List Entry
entries_in s Ppis = s.ppis
entries_in s Callbacks = s.callbacks
entries_in s Dispatches = s.dispatches
entries_in s Pendings = []

abbrev pub HasEntries : EntryList → Type 0
HasEntries Ppis = ⊤
HasEntries Callbacks = ⊤
HasEntries Dispatches = ⊤
HasEntries Pendings = ⊥

-- the kind of what they name
abbrev pub kind_in : EntryList → DescKind
kind_in Ppis = Ppi
kind_in Callbacks = Callback
kind_in Dispatches = Dispatch
kind_in Pendings = Dispatch

-- the address of the node in a place of a list, or 0 past the last
abbrev pub address_from : StoreState → EntryList → ℕ → ℕ
address_from s list place = first_address s.base (drop place (items s list))

-- an address is that one, in a list of entries
pub record StandsAt (s : StoreState) (list : EntryList) (place : ℕ) (at : ℕ) : Type 0 where
  pub entries : HasEntries list
  pub here : at ≡ address_from s list place

-- the entry at that place, and the address of the next one's node
pub record IsMetAt (s : StoreState) (list : EntryList) (place : ℕ) (met : Met) : Type 0 where
  pub rest : drop place (entries_in s list) ≡ met.entry ∷ drop (place + 1) (entries_in s list)
  pub next : StandsAt s list (place + 1) met.next
  pub named : IsNamed s (kind_in list) met.entry.descriptor

-- or the list ends there
abbrev pub IsMet : StoreState → EntryList → ℕ → Option Met → Type 0
IsMet s list place (Some met) = IsMetAt s list place met
IsMet s list place None = drop place (entries_in s list) ≡ []

-- the address of the first node of the notifications of a kind
abbrev pub IsNoteHead : StoreState → DescKind → ℕ → Type 0
IsNoteHead s Ppi head = ⊥
IsNoteHead s Callback head = head ≡ address_from s Callbacks 0
IsNoteHead s Dispatch head = head ≡ address_from s Dispatches 0

-- the address of the first of the nodes that are left after one
abbrev pub IsBehind : StoreState → EntryList → Option ℕ → ℕ → Type 0
IsBehind s list node at =
    (place : ℕ) × (told_behind node (told_of s list) ≡ drop place (told_of s list)) × (at ≡ address_from s list place)
