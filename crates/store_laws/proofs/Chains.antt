-- The nodes that are linked are those of the list.
use Rattle.std.proofs.Common.{◌≡◌, ℕ, zero, suc, ◌+◌, ◌-◌, ◌≤◌, false, List, [], ◌∷◌, length, drop, arith, ap, refl, ◌∙◌, ◌==◌}
use Rattle.pi_base.specs.Field.{ReadsWhatItSpells}
use Rattle.store_model.specs.{StoreState.StoreState, StateFacts.IsStoreState, HeapImage.heap_image}
use Rattle.store_model.specs.declared.store_handle.EntryList.{EntryList}
use Rattle.store_laws.specs.Items.{Item, items, first_address}
use Rattle.store_laws.specs.Word.{word_in}
use Rattle.store_laws.specs.Walk.{chain_from, addresses, ChainsAreLists}
use Rattle.store_laws.proofs.HeapItems.{other_is}
use Rattle.store_laws.proofs.Nodes.{node_place, drop_next, next_is_read}

walk_on : (s : StoreState) (list : EntryList) (i fuel : ℕ) (entries : List Item) → ReadsWhatItSpells → IsStoreState s → drop i (items s list) ≡ entries → length entries ≤ fuel
    → chain_from fuel (heap_image s) s.base (first_address s.base entries) ≡ addresses s.base entries
walk_on s list i zero [] law h e le = refl
walk_on s list i (suc fuel) [] law h e le = refl
walk_on s list i zero (item ∷ rest) law h e le = absurd (omega (arith, le))
walk_on s list i (suc fuel) (item ∷ rest) law h e le =
    let place = node_place s list i item rest h e in
    let t : (s.base + item.node == 0) ≡ false = other_is (s.base + item.node) 0 (λ z. absurd (omega (arith, z, place.0))) in
    let here : s.base + item.node - s.base ≡ item.node = omega arith in
    let next : word_in (heap_image s) (s.base + item.node - s.base) ≡ first_address s.base rest = ap (word_in (heap_image s)) here ∙ next_is_read law s list i item rest h e in
    rw t (ap (λ xs. (s.base + item.node) ∷ xs) (ap (chain_from fuel (heap_image s) s.base) next ∙ walk_on s list (i + 1) fuel rest law h (drop_next (items s list) i item rest e) (omega (arith, le))))

pub chains_are_lists : ReadsWhatItSpells → ChainsAreLists
chains_are_lists law s list fuel h le = walk_on s list 0 fuel (items s list) law h refl le
