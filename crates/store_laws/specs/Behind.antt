-- The entries of a list, read one after the other by their nodes.
-- Own.
use Rattle.std.specs.Prelude.{◌≡◌, ◌≢◌, ℕ, ◌<◌, ◌^◌, List, [], ◌∷◌, length, Option, Some, None}
use Rattle.store_model.specs.{declared.limits.TheConstants.NOTE_NUMBERS, declared.store_handle.EntryList.EntryList}
use Rattle.store_model.specs.{declared.store_handle.EntryList.TheVariants.Ppis, declared.store_handle.EntryTold.EntryTold}
use Rattle.store_model.specs.{StoreState.StoreState, StateFacts.IsStoreState, StoreCall.IsNodeIn}
use Rattle.store_model.specs.Service.Reading.{entry_behind, told_behind, told_of}

-- those of a list that are after a node, or all
abbrev pub left_behind : StoreState → EntryList → Option ℕ → List EntryTold
left_behind s list node = told_behind node (told_of s list)

-- the entry that is read is the first of those that are left, and the others are after its node
pub record IsToldFirst (s : StoreState) (list : EntryList) (node : Option ℕ) (told : EntryTold) : Type 0 where
  pub is_in : IsNodeIn list (Some told.node) s
  pub left : left_behind s list node ≡ told ∷ left_behind s list (Some told.node)

-- the entries of a store's lists are read in order and each once, a list is short, and a notification's number is that of a module's block
pub record EntriesAreTold : Type 0 where
  pub first : (s : StoreState) (list : EntryList) (node : Option ℕ) (told : EntryTold) → IsStoreState s
      → entry_behind s list node ≡ Some told → IsToldFirst s list node told
  pub last : (s : StoreState) (list : EntryList) (node : Option ℕ) → entry_behind s list node ≡ None → left_behind s list node ≡ []
  pub few : (s : StoreState) (list : EntryList) → IsStoreState s → length (told_of s list) < 2 ^ 28
  pub number : (s : StoreState) (list : EntryList) (node : Option ℕ) (told : EntryTold) → IsStoreState s → list ≢ Ppis
      → entry_behind s list node ≡ Some told → told.number < NOTE_NUMBERS
