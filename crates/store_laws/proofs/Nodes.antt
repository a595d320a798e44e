-- The fields of a node, where bytes are the image of a state.
use Rattle.std.proofs.Common.{◌≡◌, ℕ, zero, suc, ◌+◌, ◌-◌, ◌≤◌, ◌<◌, ◌^◌, List, [], ◌∷◌, take, drop, arith, ap, refl, sym, ◌∙◌, Option, Some, None, map, drop-drop, take-take}
use Rattle.std.proofs.lemmas.List.{drop-take}
use Rattle.pi_base.specs.{Field.little_bytes, Field.ReadsWhatItSpells, Lists.Each}
use Rattle.store_model.specs.{declared.state.Body.TheVariants.Node, declared.state.Body.TheVariants.Descriptor, declared.state.Entry.Entry}
use Rattle.store_model.specs.{declared.state.Pending.Pending, declared.store_handle.DescKind.DescKind}
use Rattle.store_model.specs.declared.store_handle.DescKind.TheVariants.{Ppi, Callback, Dispatch}
use Rattle.store_model.specs.StoreState.{StoreState, end_place, descriptor_len}
use Rattle.store_model.specs.StateFacts.{IsStoreState, IsNodeAt, IsEntry, IsPending, IsDescriptorAt}
use Rattle.store_model.specs.HeapImage.{Links, links_bytes, heap_image}
use Rattle.store_model.specs.declared.store_handle.EntryList.{EntryList}
use Rattle.store_model.specs.declared.store_handle.EntryList.TheVariants.{Ppis, Callbacks, Dispatches, Pendings}
use Rattle.store_laws.specs.Items.{Item, item_of, queued_item, items, first_address, links_before}
use Rattle.store_laws.specs.Word.{word_in}
use Rattle.store_laws.specs.Chain.{NextIsRead, DescriptorIsRead, SecondIsRead, NumberIsRead, NodesAreInside}
use Rattle.store_laws.proofs.Lists.{each_more, each_to_map, each_behind}
use Rattle.store_laws.proofs.Facts.{bodies_are_spelled, places_are_inside, has_room}
use Rattle.store_laws.proofs.{Apart.items_have_nodes, Apart.links_of_item, Front.number_is, Front.low_word, Reading.image_at}

-- bytes inside a piece of a list
pub piece_of : (xs piece : List ℕ) (p n k m : ℕ) → take n (drop p xs) ≡ piece → k + m ≤ n → take m (drop (p + k) xs) ≡ take m (drop k piece)
piece_of xs piece p n k m e le =
    let sum : k + (n - k) ≡ n = omega (arith, le) in
    let inner : drop k piece ≡ take (n - k) (drop (p + k) xs) =
    ap (drop k) (sym e) ∙ ap (λ j. drop k (take j (drop p xs))) (sym sum) ∙ drop-take k (n - k) (drop p xs) ∙ ap (take (n - k)) (drop-drop k p xs) in
    let fits : m ≤ n - k = omega (arith, le) in
    sym (ap (take m) inner ∙ take-take m (n - k) (drop (p + k) xs) fits)

-- the item's node stands there
pub node_at : (s : StoreState) (list : EntryList) (i : ℕ) (item : Item) (rest : List Item) → IsStoreState s → drop i (items s list) ≡ item ∷ rest → IsNodeAt s item.node
node_at s list i item rest h e = each_behind (λ (x : Item). IsNodeAt s x.node) (items s list) rest i item (items_have_nodes s list h) e

pub node_is : (s : StoreState) (list : EntryList) (i : ℕ) (item : Item) (rest : List Item) → IsStoreState s → drop i (items s list) ≡ item ∷ rest
    → take 32 (drop item.node (heap_image s)) ≡ links_bytes (Some (links_before item (first_address s.base rest)))
node_is s list i item rest h e = image_at s item.node Node (bodies_are_spelled s h) (node_at s list i item rest h e) ∙ ap links_bytes (links_of_item s list i item rest h e)

pub node_place : (s : StoreState) (list : EntryList) (i : ℕ) (item : Item) (rest : List Item) → IsStoreState s → drop i (items s list) ≡ item ∷ rest → (64 ≤ item.node) × (item.node + 32 ≤ end_place s)
node_place s list i item rest h e = places_are_inside s item.node Node (node_at s list i item rest h e)

-- an item's addresses lie in the heap
abbrev IsInHeap : StoreState → ℕ → Type 0
IsInHeap s address = (s.base + 64 ≤ address) × (address + 24 ≤ s.base + s.len)

pub descriptor_long : (stands : Option ℕ) → 24 ≤ descriptor_len stands
descriptor_long None = omega arith
descriptor_long (Some address) = omega arith

descriptor_in : (s : StoreState) (kind : DescKind) (place : ℕ) → IsStoreState s → IsDescriptorAt s kind place → IsInHeap s (s.base + place)
descriptor_in s kind place h d =
    let inside = places_are_inside s place (Descriptor d.0) d.1 in
    let long = descriptor_long d.0.stands in
    let room = has_room s h in
    (omega (arith, inside.0), omega (arith, inside.1, long, room))

entries_in : (s : StoreState) (kind : DescKind) (entries : List Entry) → IsStoreState s → Each (IsEntry s kind) entries → Each (λ (item : Item). IsInHeap s item.descriptor × (item.second ≤ s.base + s.len)) (map (item_of s.base) entries)
entries_in s kind entries h are =
    each_to_map (item_of s.base) (λ (item : Item). IsInHeap s item.descriptor × (item.second ≤ s.base + s.len)) entries
    (each_more (IsEntry s kind) (λ (entry : Entry). IsInHeap s (s.base + entry.descriptor) × (0 ≤ s.base + s.len)) entries (λ entry k. (descriptor_in s kind entry.descriptor h k.1, omega arith)) are)

queued_in : (s : StoreState) → IsStoreState s → Each (λ (item : Item). IsInHeap s item.descriptor × (item.second ≤ s.base + s.len)) (items s Pendings)
queued_in s h =
    each_to_map (queued_item s.base) (λ (item : Item). IsInHeap s item.descriptor × (item.second ≤ s.base + s.len)) s.pendings
    (each_more (IsPending s) (λ (pending : Pending). IsInHeap s (s.base + pending.descriptor) × (s.base + pending.ppi ≤ s.base + s.len)) s.pendings
    (λ pending k. (descriptor_in s Dispatch pending.descriptor h k.1, (let second = descriptor_in s Ppi pending.ppi h k.2 in omega (arith, second.1)))) h.pendings)

items_in : (s : StoreState) (list : EntryList) → IsStoreState s → Each (λ (item : Item). IsInHeap s item.descriptor × (item.second ≤ s.base + s.len)) (items s list)
items_in s Ppis h = entries_in s Ppi s.ppis h h.ppis
items_in s Callbacks h = entries_in s Callback s.callbacks h h.callbacks
items_in s Dispatches h = entries_in s Dispatch s.dispatches h h.dispatches
items_in s Pendings h = queued_in s h

item_in : (s : StoreState) (list : EntryList) (i : ℕ) (item : Item) (rest : List Item) → IsStoreState s → drop i (items s list) ≡ item ∷ rest → IsInHeap s item.descriptor × (item.second ≤ s.base + s.len)
item_in s list i item rest h e = each_behind (λ (x : Item). IsInHeap s x.descriptor × (x.second ≤ s.base + s.len)) (items s list) rest i item (items_in s list h) e

pub nodes_are_inside : NodesAreInside
nodes_are_inside s list i item rest h e =
    let node = node_place s list i item rest h e in
    let others = item_in s list i item rest h e in
    let room = has_room s h in
    (node.0, omega (arith, node.1, room), others.0.0, others.0.1)

-- what stands behind a place of the list
pub drop_next : {A : Type 0} (xs : List A) (i : ℕ) (x : A) (rest : List A) → drop i xs ≡ x ∷ rest → drop (i + 1) xs ≡ rest
drop_next [] zero x rest e = cc
drop_next [] (suc i) x rest e = cc
drop_next (y ∷ ys) zero x rest e = cc
drop_next (y ∷ ys) (suc i) x rest e = let next : suc i + 1 ≡ suc (i + 1) = omega arith in rw next (drop_next ys i x rest e)

-- an address is that of a node, or 0
low_on : (s : StoreState) (list : EntryList) (i : ℕ) (rest : List Item) → IsStoreState s → drop i (items s list) ≡ rest → first_address s.base rest ≤ s.base + s.len
low_on s list i [] h e = omega arith
low_on s list i (item ∷ rest) h e = let le = node_place s list i item rest h e in let room = has_room s h in omega (arith, le.1, room)

-- each field is the number that its eight bytes spell
field_is : (heap : List ℕ) (p k n : ℕ) (links : Links) → ReadsWhatItSpells → take 32 (drop p heap) ≡ links_bytes (Some links) → k + 8 ≤ 32 → take 8 (drop k (links_bytes (Some links))) ≡ little_bytes 8 n → n < 256 ^ 8 → word_in heap (p + k) ≡ n
field_is heap p k n links law there le field fits = number_is 8 n (take 8 (drop (p + k) heap)) law fits (piece_of heap (links_bytes (Some links)) p 32 k 8 there le ∙ field)

pub next_is_read : ReadsWhatItSpells → NextIsRead
next_is_read law s list i item rest h e =
    let links = links_before item (first_address s.base rest) in
    let low = low_on s list (i + 1) rest h (drop_next (items s list) i item rest e) in
    let same : item.node + 0 ≡ item.node = omega arith in
    ap (word_in (heap_image s)) (sym same) ∙ field_is (heap_image s) item.node 0 (first_address s.base rest) links law (node_is s list i item rest h e) (omega arith) refl (low_word s (first_address s.base rest) h low)

pub descriptor_is_read : ReadsWhatItSpells → DescriptorIsRead
descriptor_is_read law s list i item rest h e =
    let others = item_in s list i item rest h e in
    field_is (heap_image s) item.node 8 item.descriptor (links_before item (first_address s.base rest)) law (node_is s list i item rest h e) (omega arith) refl (low_word s item.descriptor h (omega (arith, others.0.1)))

pub second_is_read : ReadsWhatItSpells → SecondIsRead
second_is_read law s list i item rest h e =
    let others = item_in s list i item rest h e in
    field_is (heap_image s) item.node 16 item.second (links_before item (first_address s.base rest)) law (node_is s list i item rest h e) (omega arith) refl (low_word s item.second h others.1)

pub number_is_read : ReadsWhatItSpells → NumberIsRead
number_is_read law s list i item rest h e fits =
    field_is (heap_image s) item.node 24 item.number (links_before item (first_address s.base rest)) law (node_is s list i item rest h e) (omega arith) refl (omega (arith, fits))
