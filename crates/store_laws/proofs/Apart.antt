-- The nodes of the four lists of a state differ, and are nodes.
use Rattle.std.proofs.Common.{◌≡◌, ◌≢◌, ℕ, ◌≤◌, List, ◌∷◌, ◌++◌, drop, arith, ap, sym, subst, ◌∙◌, Some, append_assoc, map}
use Rattle.store_model.specs.{declared.state.Entry.Entry, declared.state.Pending.Pending, declared.state.Body.TheVariants.Node}
use Rattle.store_model.specs.{declared.store_handle.DescKind.DescKind, StoreState.StoreState, StoreState.end_place, HeapImage.links_at}
use Rattle.store_model.specs.declared.store_handle.DescKind.TheVariants.{Ppi, Callback, Dispatch}
use Rattle.pi_base.specs.Lists.{Each, Ordered}
use Rattle.store_model.specs.StateFacts.{IsStoreState, IsEntry, IsPending, IsNodeAt, nodes}
use Rattle.store_model.specs.declared.store_handle.EntryList.{EntryList}
use Rattle.store_model.specs.declared.store_handle.EntryList.TheVariants.{Ppis, Callbacks, Dispatches, Pendings}
use Rattle.store_laws.specs.Items.{Item, item_of, queued_item, items, places_of, first_address, links_before, links_of_lists, earlier_lists, later_lists}
use Rattle.store_laws.proofs.Lists.{each_more, each_left, each_right, each_to_map, each_behind, ordered_of, ordered_of_map, ordered_left, ordered_right, ordered_across, map_append, map_map}
use Rattle.store_laws.proofs.Facts.{places_are_inside}
use Rattle.store_laws.proofs.HeapItems.{Lacks, links_are, split_lists, lists_here, found_among}

abbrev ApartFrom : Item → Item → Type 0
ApartFrom a b = a.node ≢ b.node

abbrev every_item : StoreState → List Item
every_item s = items s Ppis ++ (items s Callbacks ++ (items s Dispatches ++ items s Pendings))

entry_places : (s : StoreState) (entries : List Entry) → places_of (map (item_of s.base) entries) ≡ map (λ (entry : Entry). entry.node) entries
entry_places s entries = map_map (λ (item : Item). item.node) (item_of s.base) entries

queued_places : (s : StoreState) (pendings : List Pending) → places_of (map (queued_item s.base) pendings) ≡ map (λ (pending : Pending). pending.node) pendings
queued_places s pendings = map_map (λ (item : Item). item.node) (queued_item s.base) pendings

-- the nodes of a state, in order
places_are : (s : StoreState) → places_of (every_item s) ≡ nodes s
places_are s =
    let node : Item → ℕ = λ item. item.node in
    let own : Entry → ℕ = λ entry. entry.node in
    let a : places_of (items s Ppis) ≡ map own s.ppis = entry_places s s.ppis in
    let b : places_of (items s Callbacks) ≡ map own s.callbacks = entry_places s s.callbacks in
    let c : places_of (items s Dispatches) ≡ map own s.dispatches = entry_places s s.dispatches in
    let d : places_of (items s Pendings) ≡ map (λ (pending : Pending). pending.node) s.pendings = queued_places s s.pendings in
    let queued = map (λ (pending : Pending). pending.node) s.pendings in
    let left : places_of (every_item s) ≡ map own s.ppis ++ (map own s.callbacks ++ (map own s.dispatches ++ queued)) =
    map_append node (items s Ppis) (items s Callbacks ++ (items s Dispatches ++ items s Pendings))
    ∙ ap (λ x. places_of (items s Ppis) ++ x) (map_append node (items s Callbacks) (items s Dispatches ++ items s Pendings) ∙ ap (λ x. places_of (items s Callbacks) ++ x) (map_append node (items s Dispatches) (items s Pendings)))
    ∙ ap (λ x. x ++ (places_of (items s Callbacks) ++ (places_of (items s Dispatches) ++ places_of (items s Pendings)))) a
    ∙ ap (λ x. map own s.ppis ++ (x ++ (places_of (items s Dispatches) ++ places_of (items s Pendings)))) b
    ∙ ap (λ x. map own s.ppis ++ (map own s.callbacks ++ (x ++ places_of (items s Pendings)))) c
    ∙ ap (λ x. map own s.ppis ++ (map own s.callbacks ++ (map own s.dispatches ++ x))) d in
    let right : map own (s.ppis ++ s.callbacks ++ s.dispatches) ≡ map own s.ppis ++ map own s.callbacks ++ map own s.dispatches =
    map_append own (s.ppis ++ s.callbacks) s.dispatches ∙ ap (λ x. x ++ map own s.dispatches) (map_append own s.ppis s.callbacks) in
    left ∙ sym (ap (λ x. x ++ queued) right ∙ append_assoc (map own s.ppis ++ map own s.callbacks) (map own s.dispatches) queued ∙ append_assoc (map own s.ppis) (map own s.callbacks) (map own s.dispatches ++ queued))

every_differs : (s : StoreState) → IsStoreState s → Ordered ApartFrom (every_item s)
every_differs s h =
    let all : Ordered (λ (a b : ℕ). a ≢ b) (places_of (every_item s)) = subst (Ordered (λ (a b : ℕ). a ≢ b)) (sym (places_are s)) (ordered_of (λ (a b : ℕ). a ≢ b) (nodes s) h.nodes) in
    ordered_of_map (λ (item : Item). item.node) (λ (a b : ℕ). a ≢ b) (every_item s) all

-- the items of one list differ
pub list_differs : (s : StoreState) (list : EntryList) → IsStoreState s → Ordered (λ (a b : Item). a.node ≢ b.node) (items s list)
list_differs s Ppis h = ordered_left ApartFrom (items s Ppis) _ (every_differs s h)
list_differs s Callbacks h = ordered_left ApartFrom (items s Callbacks) _ (ordered_right ApartFrom (items s Ppis) _ (every_differs s h))
list_differs s Dispatches h = ordered_left ApartFrom (items s Dispatches) _ (ordered_right ApartFrom (items s Callbacks) _ (ordered_right ApartFrom (items s Ppis) _ (every_differs s h)))
list_differs s Pendings h = ordered_right ApartFrom (items s Dispatches) _ (ordered_right ApartFrom (items s Callbacks) _ (ordered_right ApartFrom (items s Ppis) _ (every_differs s h)))

-- an item of a later list has its node in no earlier one
lacks_of : (xs ys : List Item) (i : ℕ) (item : Item) (rest : List Item) → Each (λ x. Each (ApartFrom x) ys) xs → drop i ys ≡ item ∷ rest → Lacks item.node xs
lacks_of xs ys i item rest h e = each_more (λ x. Each (ApartFrom x) ys) (λ x. x.node ≢ item.node) xs (λ x k. each_behind (ApartFrom x) ys rest i item k e) h

narrowed : (xs ys zs : List Item) → Each (λ x. Each (ApartFrom x) (ys ++ zs)) xs → (Each (λ x. Each (ApartFrom x) ys) xs) × (Each (λ x. Each (ApartFrom x) zs) xs)
narrowed xs ys zs h = (
  each_more (λ x. Each (ApartFrom x) (ys ++ zs)) (λ x. Each (ApartFrom x) ys) xs (λ x k. each_left (ApartFrom x) ys zs k) h,
  each_more (λ x. Each (ApartFrom x) (ys ++ zs)) (λ x. Each (ApartFrom x) zs) xs (λ x k. each_right (ApartFrom x) ys zs k) h,
)

pub earlier_lack : (s : StoreState) (list : EntryList) (i : ℕ) (item : Item) (rest : List Item) → IsStoreState s → drop i (items s list) ≡ item ∷ rest → Each (Lacks item.node) (earlier_lists s list)
earlier_lack s Ppis i item rest h e = tt
earlier_lack s Callbacks i item rest h e =
    let p = narrowed (items s Ppis) (items s Callbacks) (items s Dispatches ++ items s Pendings) (ordered_across ApartFrom (items s Ppis) _ (every_differs s h)) in
    (lacks_of (items s Ppis) (items s Callbacks) i item rest p.0 e, tt)
earlier_lack s Dispatches i item rest h e =
    let p = narrowed (items s Ppis) (items s Callbacks) (items s Dispatches ++ items s Pendings) (ordered_across ApartFrom (items s Ppis) _ (every_differs s h)) in
    let q = narrowed (items s Ppis) (items s Dispatches) (items s Pendings) p.1 in
    let c = narrowed (items s Callbacks) (items s Dispatches) (items s Pendings) (ordered_across ApartFrom (items s Callbacks) _ (ordered_right ApartFrom (items s Ppis) _ (every_differs s h))) in
    (lacks_of (items s Ppis) (items s Dispatches) i item rest q.0 e, (lacks_of (items s Callbacks) (items s Dispatches) i item rest c.0 e, tt))
earlier_lack s Pendings i item rest h e =
    let p = narrowed (items s Ppis) (items s Callbacks) (items s Dispatches ++ items s Pendings) (ordered_across ApartFrom (items s Ppis) _ (every_differs s h)) in
    let q = narrowed (items s Ppis) (items s Dispatches) (items s Pendings) p.1 in
    let c = narrowed (items s Callbacks) (items s Dispatches) (items s Pendings) (ordered_across ApartFrom (items s Callbacks) _ (ordered_right ApartFrom (items s Ppis) _ (every_differs s h))) in
    let d = ordered_across ApartFrom (items s Dispatches) (items s Pendings) (ordered_right ApartFrom (items s Callbacks) _ (ordered_right ApartFrom (items s Ppis) _ (every_differs s h))) in
    (lacks_of (items s Ppis) (items s Pendings) i item rest q.1 e, (lacks_of (items s Callbacks) (items s Pendings) i item rest c.1 e, (lacks_of (items s Dispatches) (items s Pendings) i item rest d e, tt)))

-- each item's node is one
entries_have_nodes : (s : StoreState) (kind : DescKind) (entries : List Entry) → Each (IsEntry s kind) entries → Each (λ (item : Item). IsNodeAt s item.node) (map (item_of s.base) entries)
entries_have_nodes s kind entries h =
    each_to_map (item_of s.base) (λ (item : Item). IsNodeAt s item.node) entries (each_more (IsEntry s kind) (λ (entry : Entry). IsNodeAt s entry.node) entries (λ entry k. k.0) h)

pub items_have_nodes : (s : StoreState) (list : EntryList) → IsStoreState s → Each (λ (item : Item). IsNodeAt s item.node) (items s list)
items_have_nodes s Ppis h = entries_have_nodes s Ppi s.ppis h.ppis
items_have_nodes s Callbacks h = entries_have_nodes s Callback s.callbacks h.callbacks
items_have_nodes s Dispatches h = entries_have_nodes s Dispatch s.dispatches h.dispatches
items_have_nodes s Pendings h =
    each_to_map (queued_item s.base) (λ (item : Item). IsNodeAt s item.node) s.pendings (each_more (IsPending s) (λ (pending : Pending). IsNodeAt s pending.node) s.pendings (λ pending k. k.0) h.pendings)

-- a place behind all HOBs is no node
pub lacks_next : (s : StoreState) (list : EntryList) (place : ℕ) → IsStoreState s → end_place s ≤ place → Lacks place (items s list)
lacks_next s list place h le =
    each_more (λ (item : Item). IsNodeAt s item.node) (λ (item : Item). item.node ≢ place) (items s list)
    (λ item k same. let inside = places_are_inside s item.node Node k in absurd (omega (arith, inside.1, same, le))) (items_have_nodes s list h)

-- the fields of the node of an item
pub links_of_item : (s : StoreState) (list : EntryList) (i : ℕ) (item : Item) (rest : List Item) → IsStoreState s → drop i (items s list) ≡ item ∷ rest
    → links_at s item.node ≡ Some (links_before item (first_address s.base rest))
links_of_item s list i item rest h e =
    links_are s item.node ∙ ap (links_of_lists s.base item.node) (split_lists s list)
    ∙ lists_here s.base item.node (earlier_lists s list) (later_lists s list) (items s list) (links_before item (first_address s.base rest)) (earlier_lack s list i item rest h e)
    (found_among s.base (items s list) rest i item (list_differs s list h) e)
