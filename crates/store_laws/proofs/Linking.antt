-- An entry more in one of the four lists.
use Rattle.std.proofs.Common.{◌≡◌, ◌≢◌, ℕ, ◌+◌, ◌≤◌, List, [], ◌∷◌, ◌++◌, length, take, drop, arith, ap, refl, sym, ◌∙◌, Some, None}
use Rattle.pi_base.specs.{Field.little_bytes, Lists.Each}
use Rattle.phys_mem.specs.Region.{replaced}
use Rattle.store_model.specs.{declared.state.Body.TheVariants.Node, declared.state.Entry.Entry, declared.state.Pending.Pending}
use Rattle.store_model.specs.StoreState.{StoreState, end_place, next_body, pool_of}
use Rattle.store_model.specs.{StateFacts.IsStoreState, StateFacts.IsNodeAt, Service.Install.with_node, Service.Notify.note_entry}
use Rattle.store_model.specs.HeapImage.{header_bytes, links_at, links_bytes, body_bytes, heap_image}
use Rattle.store_laws.specs.{Spelling.AreSpelled, Growing.NodesAreTexts}
use Rattle.store_model.specs.declared.store_handle.EntryList.{EntryList}
use Rattle.store_model.specs.declared.store_handle.EntryList.TheVariants.{Ppis, Callbacks, Dispatches, Pendings}
use Rattle.store_laws.specs.Items.{Item, item_of, queued_item, items, places_of, links_before, links_of_lists, all_lists, earlier_lists, later_lists}
use Rattle.hob_codec.specs.declared.kind.TheConstants.{POOL}
use Rattle.store_laws.specs.Linking.{HasNodeRoom, last_place, named_by, with_last, PpisAreLinked, CallbacksAreLinked, DispatchesAreLinked, PairsAreLinked}
use Rattle.store_laws.proofs.{Lists.each_behind, Lists.map_append, Parts.part_replaced, Parts.replaced_len}
use Rattle.store_laws.proofs.Facts.{bodies_are_spelled, places_are_inside, node_is_32, image_len}
use Rattle.store_laws.proofs.HeapItems.{Lacks, links_are, split_lists, lists_here, lists_same, found_among, lists_none}
use Rattle.store_laws.proofs.Apart.{list_differs, earlier_lack, items_have_nodes, lacks_next, links_of_item}
use Rattle.store_laws.proofs.Reading.{image_at, read_before}
use Rattle.store_laws.proofs.Grown.{body_before, body_last, end_more, grown_spelt}
use Rattle.store_laws.proofs.Writing.{altered, node_written, nodes_written}
use Rattle.store_laws.proofs.Ends.{Ends, ends_none, ends_at, ends_of, last_is, elsewhere, ordered_push, drop_front, drop_front_more, next_replaced}

-- facts of the state with a node more
node_spelt : (s : StoreState) → IsStoreState s → AreSpelled (body_bytes (with_node s)) (with_node s).hobs
node_spelt s h = grown_spelt s (pool_of Node) (bodies_are_spelled s h) (λ place. node_is_32 (links_at s place))

node_there : (s : StoreState) (p : ℕ) → p ≡ next_body s → IsNodeAt (with_node s) p
node_there s p e = body_last s.hobs (pool_of Node) 56 p e

node_kept : (s : StoreState) (p : ℕ) → IsNodeAt s p → IsNodeAt (with_node s) p
node_kept s p h = body_before s.hobs (pool_of Node) 56 p Node h

node_len : (s : StoreState) → IsStoreState s → HasNodeRoom s → length (heap_image (with_node s)) ≡ s.len
node_len s h room = let more : end_place (with_node s) ≡ end_place s + 40 = end_more s (pool_of Node) in image_len (with_node s) (node_spelt s h) (omega (arith, more, room))

-- no list has a node at the new place
fresh : (s : StoreState) (list : EntryList) (p : ℕ) → IsStoreState s → p ≡ next_body s → Lacks p (items s list)
fresh s list p h e = lacks_next s list p h (omega (arith, e))

earlier_fresh : (s : StoreState) (list : EntryList) (p : ℕ) → IsStoreState s → p ≡ next_body s → Each (Lacks p) (earlier_lists s list)
earlier_fresh s Ppis p h e = tt
earlier_fresh s Callbacks p h e = (fresh s Ppis p h e, tt)
earlier_fresh s Dispatches p h e = (fresh s Ppis p h e, (fresh s Callbacks p h e, tt))
earlier_fresh s Pendings p h e = (fresh s Ppis p h e, (fresh s Callbacks p h e, (fresh s Dispatches p h e, tt)))

-- the lists of a state with an item more in one of them
abbrev IsPushed : StoreState → EntryList → Item → List (List Item) → Type 0
IsPushed s list new lists = lists ≡ earlier_lists s list ++ (items s list ++ new ∷ []) ∷ later_lists s list

links_elsewhere : (s t : StoreState) (list : EntryList) (new : Item) (place : ℕ) → IsPushed s list new (all_lists t) → t.base ≡ s.base → place ≢ new.node → last_place (places_of (items s list)) ≢ Some place → links_at t place ≡ links_at s place
links_elsewhere s t list new place pushed base n l =
    links_are t place ∙ ap (λ b. links_of_lists b place (all_lists t)) base ∙ ap (links_of_lists s.base place) pushed
    ∙ lists_same s.base place (earlier_lists s list) (later_lists s list) (items s list ++ new ∷ []) (items s list) (elsewhere s.base place (items s list) new n l)
    ∙ ap (links_of_lists s.base place) (sym (split_lists s list)) ∙ sym (links_are s place)

links_new : (s t : StoreState) (list : EntryList) (new : Item) → IsStoreState s → IsPushed s list new (all_lists t) → t.base ≡ s.base → new.node ≡ next_body s → links_at t new.node ≡ Some (links_before new 0)
links_new s t list new h pushed base e =
    let xs = items s list in
    let ordered = ordered_push xs new (list_differs s list h) (fresh s list new.node h e) in
    links_are t new.node ∙ ap (λ b. links_of_lists b new.node (all_lists t)) base ∙ ap (links_of_lists s.base new.node) pushed
    ∙ lists_here s.base new.node (earlier_lists s list) (later_lists s list) (xs ++ new ∷ []) (links_before new 0) (earlier_fresh s list new.node h e)
    (found_among s.base (xs ++ new ∷ []) [] (length xs) new ordered (drop_front xs (new ∷ [])))

links_last : (s t : StoreState) (list : EntryList) (front : List Item) (last new : Item) → IsStoreState s → IsPushed s list new (all_lists t) → t.base ≡ s.base → new.node ≡ next_body s → items s list ≡ front ++ last ∷ []
    → links_at t last.node ≡ Some (links_before last (s.base + new.node))
links_last s t list front last new h pushed base e is =
    let xs = items s list in
    let ordered = ordered_push xs new (list_differs s list h) (fresh s list new.node h e) in
    let there : drop (length front) xs ≡ last ∷ [] = ap (drop (length front)) is ∙ drop_front front (last ∷ []) in
    let then : drop (length front) (xs ++ new ∷ []) ≡ last ∷ new ∷ [] = ap (λ x. drop (length front) (x ++ new ∷ [])) is ∙ drop_front_more front last new in
    links_are t last.node ∙ ap (λ b. links_of_lists b last.node (all_lists t)) base ∙ ap (links_of_lists s.base last.node) pushed
    ∙ lists_here s.base last.node (earlier_lists s list) (later_lists s list) (xs ++ new ∷ []) (links_before last (s.base + new.node)) (earlier_lack s list (length front) last [] h there)
    (found_among s.base (xs ++ new ∷ []) (new ∷ []) (length front) last ordered then)

-- the first item of an empty list
push_first : (s : StoreState) (a b c : List Entry) (d : List Pending) (list : EntryList) (new : Item) → IsStoreState s → IsPushed s list new (all_lists (altered (with_node s) a b c d)) → new.node ≡ next_body s
    → last_place (places_of (items s list)) ≡ None → heap_image (altered (with_node s) a b c d) ≡ replaced (heap_image (with_node s)) new.node (links_bytes (Some (links_before new 0)))
push_first s a b c d list new h pushed e none =
    let u = with_node s in
    let t = altered u a b c d in
    node_written u a b c d new.node (node_spelt s h) (node_there s new.node e)
    (λ place n. links_elsewhere s t list new place pushed refl n (λ some. let no : None ≡ Some place = sym none ∙ some in cc))
    ∙ ap (λ x. replaced (heap_image u) new.node (links_bytes x)) (links_new s t list new h pushed refl e)

-- an item behind another
push_behind : (s : StoreState) (a b c : List Entry) (d : List Pending) (list : EntryList) (front : List Item) (last new : Item) → IsStoreState s → HasNodeRoom s → IsPushed s list new (all_lists (altered (with_node s) a b c d)) → new.node ≡ next_body s
    → items s list ≡ front ++ last ∷ []
    → heap_image (altered (with_node s) a b c d) ≡ replaced (replaced (heap_image (with_node s)) new.node (links_bytes (Some (links_before new 0)))) last.node (little_bytes 8 (s.base + new.node))
push_behind s a b c d list front last new h room pushed e is =
    let u = with_node s in
    let t = altered u a b c d in
    let p = new.node in
    let q = last.node in
    let image = heap_image u in
    let text = links_bytes (Some (links_before new 0)) in
    let old = links_bytes (Some (links_before last 0)) in
    let next = little_bytes 8 (s.base + p) in
    let there : drop (length front) (items s list) ≡ last ∷ [] = ap (drop (length front)) is ∙ drop_front front (last ∷ []) in
    let node : IsNodeAt s q = each_behind (λ (item : Item). IsNodeAt s item.node) (items s list) [] (length front) last (items_have_nodes s list h) there in
    let inside = places_are_inside s q Node node in
    let end : last_place (places_of (items s list)) ≡ Some q = ap (λ x. last_place (places_of x)) is ∙ last_is front last in
    let two : heap_image t ≡ replaced (replaced image p (links_bytes (links_at t p))) q (links_bytes (links_at t q)) =
    nodes_written u a b c d p q (node_spelt s h) (node_there s p e) (node_kept s q node)
    (λ place n m. links_elsewhere s t list new place pushed refl n (λ some. let both : Some q ≡ Some place = sym end ∙ some in let same : place ≡ q = cc in m same)) in
    let size : length image ≡ s.len = node_len s h room in
    let behind : p ≤ length image = omega (arith, e, size, room) in
    let whole : length (replaced image p text) ≡ length image = replaced_len image text p (omega (arith, e, size, room)) in
    let before : take 32 (drop q (replaced image p text)) ≡ old =
    read_before image text p q 32 (omega (arith, inside.1, e)) behind ∙ image_at u q Node (node_spelt s h) (node_kept s q node) ∙ ap links_bytes (links_of_item s list (length front) last [] h there) in
    let place : q + 0 ≡ q = omega arith in
    two ∙ ap (λ x. replaced (replaced image p (links_bytes x)) q (links_bytes (links_at t q))) (links_new s t list new h pushed refl e)
    ∙ ap (λ x. replaced (replaced image p text) q (links_bytes x)) (links_last s t list front last new h pushed refl e is)
    ∙ ap (replaced (replaced image p text) q) (sym (next_replaced last 0 (s.base + p)))
    ∙ part_replaced (replaced image p text) old next q 0 before (omega (arith, inside.1, e, whole, size, room)) (omega arith)
    ∙ ap (λ n. replaced (replaced image p text) n next) place

push_on : (s : StoreState) (a b c : List Entry) (d : List Pending) (list : EntryList) (new : Item) → IsStoreState s → HasNodeRoom s → IsPushed s list new (all_lists (altered (with_node s) a b c d)) → new.node ≡ next_body s
    → Ends (items s list) → heap_image (altered (with_node s) a b c d) ≡ with_last s list new (heap_image (with_node s))
push_on s a b c d list new h room pushed e (ends_none is) =
    let none : last_place (places_of (items s list)) ≡ None = ap (λ x. last_place (places_of x)) is in
    push_first s a b c d list new h pushed e none
    ∙ sym (ap (λ x. named_by x (s.base + new.node) (replaced (heap_image (with_node s)) new.node (links_bytes (Some (links_before new 0))))) none)
push_on s a b c d list new h room pushed e (ends_at front last is) =
    let end : last_place (places_of (items s list)) ≡ Some last.node = ap (λ x. last_place (places_of x)) is ∙ last_is front last in
    push_behind s a b c d list front last new h room pushed e is
    ∙ sym (ap (λ x. named_by x (s.base + new.node) (replaced (heap_image (with_node s)) new.node (links_bytes (Some (links_before new 0))))) end)

pub ppis_are_linked : PpisAreLinked
ppis_are_linked s by d h room =
    let entry = note_entry s d by in
    push_on s (s.ppis ++ entry ∷ []) s.callbacks s.dispatches s.pendings Ppis (item_of s.base entry) h room
    (ap (λ x. x ∷ later_lists s Ppis) (map_append (item_of s.base) s.ppis (entry ∷ []))) refl (ends_of (items s Ppis))

pub callbacks_are_linked : CallbacksAreLinked
callbacks_are_linked s by d h room =
    let entry = note_entry s d by in
    push_on s s.ppis (s.callbacks ++ entry ∷ []) s.dispatches s.pendings Callbacks (item_of s.base entry) h room
    (ap (λ x. items s Ppis ∷ x ∷ later_lists s Callbacks) (map_append (item_of s.base) s.callbacks (entry ∷ []))) refl (ends_of (items s Callbacks))

pub dispatches_are_linked : DispatchesAreLinked
dispatches_are_linked s by d h room =
    let entry = note_entry s d by in
    push_on s s.ppis s.callbacks (s.dispatches ++ entry ∷ []) s.pendings Dispatches (item_of s.base entry) h room
    (ap (λ x. items s Ppis ∷ items s Callbacks ∷ x ∷ later_lists s Dispatches) (map_append (item_of s.base) s.dispatches (entry ∷ []))) refl (ends_of (items s Dispatches))

pub pairs_are_linked : PairsAreLinked
pairs_are_linked s by pair h room =
    let pending : Pending = record { node = next_body s; descriptor = pair.1; ppi = pair.0; by = by } in
    push_on s s.ppis s.callbacks s.dispatches (s.pendings ++ pending ∷ []) Pendings (queued_item s.base pending) h room
    (ap (λ x. items s Ppis ∷ items s Callbacks ∷ items s Dispatches ∷ x ∷ []) (map_append (queued_item s.base) s.pendings (pending ∷ []))) refl (ends_of (items s Pendings))

-- a node that no list has is zeros
every_fresh : (s : StoreState) (p : ℕ) → IsStoreState s → p ≡ next_body s → links_at s p ≡ None
every_fresh s p h e = links_are s p ∙ lists_none s.base p (all_lists s) (fresh s Ppis p h e, (fresh s Callbacks p h e, (fresh s Dispatches p h e, (fresh s Pendings p h e, tt))))

pub nodes_are_texts : NodesAreTexts
nodes_are_texts s h = record { bytes = ap (λ links. header_bytes POOL 40 ++ links_bytes links) (every_fresh s (next_body s) h refl); len = refl; header = omega arith }
