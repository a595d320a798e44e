-- The queue without its first pair.
use Rattle.std.proofs.Common.{◌≡◌, ◌≢◌, ℕ, false, List, [], ◌∷◌, ap, refl, sym, subst, ◌∙◌, ◌==◌, map}
use Rattle.store_model.specs.{declared.state.Body.TheVariants.Node, declared.state.Pending.Pending, StoreState.StoreState}
use Rattle.pi_base.specs.Lists.{Each}
use Rattle.store_model.specs.{StateFacts.IsStoreState, StateFacts.IsNodeAt, HeapImage.links_at, Service.Queue.zeroed}
use Rattle.store_model.specs.declared.store_handle.EntryList.TheVariants.{Ppis, Callbacks, Dispatches, Pendings}
use Rattle.store_laws.specs.Items.{Item, queued_item, items, links_among}
use Rattle.store_laws.specs.Changes.{without_first, PairsArePopped}
use Rattle.store_laws.proofs.HeapItems.{other_is, links_are, lists_same}
use Rattle.store_laws.proofs.{Apart.items_have_nodes, Rebodied.body_written}

pop_on : (s : StoreState) (first : Pending) (rest : List Pending) (place : ℕ) → s.pendings ≡ first ∷ rest → place ≢ first.node → links_at (without_first s first rest) place ≡ links_at s place
pop_on s first rest place e n =
    let base = s.base in
    let front : List (List Item) = items s Ppis ∷ items s Callbacks ∷ items s Dispatches ∷ [] in
    let whole : items s Pendings ≡ queued_item base first ∷ map (queued_item base) rest = ap (map (queued_item base)) e in
    let same : links_among base place (map (queued_item base) rest) ≡ links_among base place (items s Pendings) =
    sym (ap (links_among base place) whole ∙ (let t : (first.node == place) ≡ false = other_is first.node place (λ x. n (sym x)) in rw t refl)) in
    links_are (without_first s first rest) place ∙ lists_same base place front [] (map (queued_item base) rest) (items s Pendings) same ∙ sym (links_are s place)

pub first_node_is : (s : StoreState) (first : Pending) (rest : List Pending) → IsStoreState s → s.pendings ≡ first ∷ rest → IsNodeAt s first.node
first_node_is s first rest h e = (subst (Each (λ (item : Item). IsNodeAt s item.node)) (ap (map (queued_item s.base)) e) (items_have_nodes s Pendings h)).0

pub pairs_are_popped : PairsArePopped
pairs_are_popped s first rest h e =
    let node : IsNodeAt s first.node = first_node_is s first rest h e in
    body_written s s.ppis rest zeroed first.node Node h node refl refl (λ place n. pop_on s first rest place e n) (λ x f place. refl)
