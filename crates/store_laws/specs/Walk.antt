-- The addresses of linked nodes in bytes: each node's first eight bytes are the address of the next, and 0 ends the list. Own.
use Rattle.std.specs.Prelude.{◌≡◌, ℕ, zero, suc, ◌+◌, ◌-◌, ◌≤◌, ◌==◌, if◌then◌else◌, List, [], ◌∷◌, map, length}
use Rattle.store_model.specs.{StoreState.StoreState, StateFacts.IsStoreState, HeapImage.heap_image}
use Rattle.store_model.specs.declared.store_handle.EntryList.{EntryList}
use Rattle.store_laws.specs.Items.{Item, items, first_address}
use Rattle.store_laws.specs.Word.{word_in}

-- at most so many
abbrev pub chain_from : ℕ → List ℕ → ℕ → ℕ → List ℕ
chain_from zero heap base at = []
chain_from (suc n) heap base at = if at == 0 then [] else at ∷ chain_from n heap base (word_in heap (at - base))

-- the addresses of the nodes of a list
abbrev pub addresses : ℕ → List Item → List ℕ
addresses base list = map (λ item. base + item.node) list

-- from the first node of a list on, in its image, these are the nodes of the list
abbrev pub ChainsAreLists : Type 0
ChainsAreLists = (s : StoreState) (list : EntryList) (fuel : ℕ) → IsStoreState s → length (items s list) ≤ fuel
    → chain_from fuel (heap_image s) s.base (first_address s.base (items s list)) ≡ addresses s.base (items s list)
