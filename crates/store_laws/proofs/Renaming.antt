-- A PPI that names another descriptor.
use Rattle.std.proofs.Common.{◌≡◌, ◌≢◌, ℕ, suc, ◌+◌, Bool, true, false, cond, List, [], ◌∷◌, ◌++◌, take, drop, arith, ap, refl, sym, subst, ◌∙◌, Option, Some, ◌==◌, map}
use Rattle.std.proofs.lemmas.Bool.Decides.{nat_tests}
use Rattle.pi_base.specs.{Field.little_bytes, Lists.Each, Lists.Ordered}
use Rattle.phys_mem.specs.Region.{replaced}
use Rattle.store_model.specs.{declared.state.Body.TheVariants.Node, declared.state.Entry.Entry, StoreState.StoreState}
use Rattle.store_model.specs.{StateFacts.IsStoreState, StateFacts.IsNodeAt, Service.Install.renamed, Service.Install.place_of}
use Rattle.store_model.specs.HeapImage.{Links, links_at, links_bytes, heap_image}
use Rattle.store_model.specs.declared.store_handle.EntryList.TheVariants.{Ppis, Callbacks, Dispatches, Pendings}
use Rattle.store_laws.specs.Items.{Item, item_of, items, first_address, links_before, links_among}
use Rattle.store_laws.specs.Changes.{PpisAreRenamed}
use Rattle.store_laws.proofs.Facts.{bodies_are_spelled, places_are_inside, images_fill, has_room}
use Rattle.store_laws.proofs.HeapItems.{Lacks, other_is, links_are, lists_same, lists_here}
use Rattle.store_laws.proofs.{Apart.items_have_nodes, Apart.list_differs, Parts.part_replaced, Reading.image_at}
use Rattle.store_laws.proofs.Writing.{altered, node_written}
use Rattle.store_laws.proofs.Lists.{each_more, each_right, ordered_across, map_append}

pub data IsRenamed (ppis : List Entry) (old new : ℕ) (entry : Entry) (rest : List Entry) : Type 0 where
  renamed_at : (front : List Entry) → ppis ≡ front ++ entry ∷ rest → renamed ppis old new ≡ front ++ (record entry { descriptor = new }) ∷ rest → IsRenamed ppis old new entry rest

behind_one : (first : Entry) (ppis : List Entry) (old new : ℕ) (entry : Entry) (rest : List Entry) → (first.descriptor == old) ≡ false → IsRenamed ppis old new entry rest → IsRenamed (first ∷ ppis) old new entry rest
behind_one first ppis old new entry rest t (renamed_at front is then) =
    let there : renamed (first ∷ ppis) old new ≡ first ∷ renamed ppis old new = rw t refl in
    renamed_at (first ∷ front) (ap (λ xs. first ∷ xs) is) (there ∙ ap (λ xs. first ∷ xs) then)

rename_on : (first : Entry) (ppis : List Entry) (old new i : ℕ) (entry : Entry) (rest : List Entry) (b : Bool) → (first.descriptor == old) ≡ b → cond b 0 (1 + place_of ppis old) ≡ i → drop i (first ∷ ppis) ≡ entry ∷ rest
    → (drop (place_of ppis old) ppis ≡ entry ∷ rest → IsRenamed ppis old new entry rest) → IsRenamed (first ∷ ppis) old new entry rest
rename_on first ppis old new i entry rest true t e there f =
    let whole : first ∷ ppis ≡ entry ∷ rest = ap (λ n. drop n (first ∷ ppis)) e ∙ there in
    let one : first ≡ entry = cc in
    let others : ppis ≡ rest = cc in
    let then : renamed (first ∷ ppis) old new ≡ (record first { descriptor = new }) ∷ ppis = rw t refl in
    renamed_at [] whole (then ∙ ap (λ (x : Entry). (record x { descriptor = new }) ∷ ppis) one ∙ ap (λ xs. (record entry { descriptor = new }) ∷ xs) others)
rename_on first ppis old new i entry rest false t e there f =
    let next : i ≡ suc (place_of ppis old) = omega (arith, e) in
    behind_one first ppis old new entry rest t (f (ap (λ n. drop n (first ∷ ppis)) (sym next) ∙ there))

is_renamed : (ppis : List Entry) (old new : ℕ) (entry : Entry) (rest : List Entry) → drop (place_of ppis old) ppis ≡ entry ∷ rest → IsRenamed ppis old new entry rest
is_renamed [] old new entry rest e = cc
is_renamed (first ∷ ppis) old new entry rest e =
    rename_on first ppis old new (place_of (first ∷ ppis) old) entry rest (first.descriptor == old) refl refl e (λ later. is_renamed ppis old new entry rest later)

-- an item in the place of another with its node
first_swap : (base : ℕ) (front rest : List Item) (x y : Item) → y.node ≡ x.node → first_address base (front ++ y ∷ rest) ≡ first_address base (front ++ x ∷ rest)
first_swap base [] rest x y e = ap (λ n. base + n) e
first_swap base (item ∷ front) rest x y e = refl

swap_on : (item : Item) (m n : ℕ) (a b : Option Links) (t : Bool) → m ≡ n → a ≡ b → cond t (Some (links_before item m)) a ≡ cond t (Some (links_before item n)) b
swap_on item m n a b true e f = ap (λ k. Some (links_before item k)) e
swap_on item m n a b false e f = f

swapped : (base place : ℕ) (front rest : List Item) (x y : Item) → y.node ≡ x.node → place ≢ x.node → links_among base place (front ++ y ∷ rest) ≡ links_among base place (front ++ x ∷ rest)
swapped base place [] rest x y e n =
    let a : (x.node == place) ≡ false = other_is x.node place (λ i. n (sym i)) in
    let b : (y.node == place) ≡ false = other_is y.node place (λ i. n (sym (sym e ∙ i))) in rw a (rw b refl)
swapped base place (item ∷ front) rest x y e n =
    swap_on item (first_address base (front ++ y ∷ rest)) (first_address base (front ++ x ∷ rest)) (links_among base place (front ++ y ∷ rest)) (links_among base place (front ++ x ∷ rest)) (item.node == place)
    (first_swap base front rest x y e) (swapped base place front rest x y e n)

at_place : (base p : ℕ) (front rest : List Item) (y : Item) → Lacks p front → y.node ≡ p → links_among base p (front ++ y ∷ rest) ≡ Some (links_before y (first_address base rest))
at_place base p [] rest y h e = let t : (y.node == p) ≡ true = grind (arith, nat_tests, e) in rw t refl
at_place base p (item ∷ front) rest y h e = rw (other_is item.node p h.0) (at_place base p front rest y h.1 e)

field_replaced : (item : Item) (next new : ℕ) → replaced (links_bytes (Some (links_before item next))) 8 (little_bytes 8 new) ≡ links_bytes (Some (links_before (record item { descriptor = new }) next))
field_replaced item next new = refl

rename_by : (s : StoreState) (old new : ℕ) (entry : Entry) (rest : List Entry) → IsStoreState s → IsRenamed s.ppis old new entry rest
    → heap_image (record s { ppis = renamed s.ppis old new }) ≡ replaced (heap_image s) (entry.node + 8) (little_bytes 8 (s.base + new))
rename_by s old new entry rest h (renamed_at front is then) =
    let base = s.base in
    let image = heap_image s in
    let t = altered s (renamed s.ppis old new) s.callbacks s.dispatches s.pendings in
    let p = entry.node in
    let x = item_of base entry in
    let y = item_of base (record entry { descriptor = new }) in
    let before = map (item_of base) front in
    let behind = map (item_of base) rest in
    let later : List (List Item) = items s Callbacks ∷ items s Dispatches ∷ items s Pendings ∷ [] in
    let xs : items s Ppis ≡ before ++ x ∷ behind = ap (map (item_of base)) is ∙ map_append (item_of base) front (entry ∷ rest) in
    let ys : items t Ppis ≡ before ++ y ∷ behind = ap (map (item_of base)) then ∙ map_append (item_of base) front ((record entry { descriptor = new }) ∷ rest) in
    let across : Each (λ (a : Item). Each (λ (b : Item). a.node ≢ b.node) (x ∷ behind)) before =
    ordered_across (λ (a b : Item). a.node ≢ b.node) before (x ∷ behind) (subst (Ordered (λ (a b : Item). a.node ≢ b.node)) xs (list_differs s Ppis h)) in
    let lacks : Lacks p before = each_more (λ (a : Item). Each (λ (b : Item). a.node ≢ b.node) (x ∷ behind)) (λ (a : Item). a.node ≢ p) before (λ a k. k.0) across in
    let node : IsNodeAt s p = (each_right (λ (item : Item). IsNodeAt s item.node) before (x ∷ behind) (subst (Each (λ (item : Item). IsNodeAt s item.node)) xs (items_have_nodes s Ppis h))).0 in
    let now : links_at s p ≡ Some (links_before x (first_address base behind)) =
    links_are s p ∙ lists_here base p [] later (items s Ppis) (links_before x (first_address base behind)) tt (ap (links_among base p) xs ∙ at_place base p before behind x lacks refl) in
    let new_links : links_at t p ≡ Some (links_before y (first_address base behind)) =
    links_are t p ∙ lists_here base p [] later (items t Ppis) (links_before y (first_address base behind)) tt (ap (links_among base p) ys ∙ at_place base p before behind y lacks refl) in
    let elsewhere : (place : ℕ) → place ≢ p → links_at t place ≡ links_at s place = λ place n.
    links_are t place ∙ lists_same base place [] later (items t Ppis) (items s Ppis) (ap (links_among base place) ys ∙ swapped base place before behind x y refl n ∙ sym (ap (links_among base place) xs)) ∙ sym (links_are s place) in
    let inside = places_are_inside s p Node node in
    let size = images_fill s h in
    let room = has_room s h in
    let text = links_bytes (Some (links_before x (first_address base behind))) in
    let there : take 32 (drop p image) ≡ text = image_at s p Node (bodies_are_spelled s h) node ∙ ap links_bytes now in
    node_written s (renamed s.ppis old new) s.callbacks s.dispatches s.pendings p (bodies_are_spelled s h) node elsewhere
    ∙ ap (λ links. replaced image p (links_bytes links)) new_links ∙ ap (replaced image p) (sym (field_replaced x (first_address base behind) (base + new)))
    ∙ part_replaced image text (little_bytes 8 (base + new)) p 8 there (omega (arith, inside.1, size, room)) (omega arith)

pub ppis_are_renamed : PpisAreRenamed
ppis_are_renamed s old new entry rest h e = rename_by s old new entry rest h (is_renamed s.ppis old new entry rest e)
