-- A list is no longer than the heap: its nodes differ and lie below its end.
use Rattle.std.proofs.Common.{◌≡◌, ◌≢◌, ℕ, suc, ◌<◌, ◌==◌, Bool, true, false, ◌||◌, List, [], ◌∷◌, length, refl, ap, arith, eqb}
use Rattle.std.specs.List.{list_any, AllByRecursion, IsDistinct}
use Rattle.std.proofs.{lemmas.Bool.Decides.nat_tests, lemmas.Map.Steps.length-le_from_distinct_below}
use Rattle.store_model.specs.{declared.state.Body.TheVariants.Node, StateFacts.IsNodeAt}
use Rattle.pi_base.specs.Lists.{Each, Ordered}
use Rattle.store_laws.specs.Items.{Item, items, places_of}
use Rattle.store_laws.specs.Chain.{ListsAreShort}
use Rattle.store_laws.proofs.{Lists.each_more, Facts.places_are_inside, Facts.has_room, Apart.items_have_nodes, Apart.list_differs}

apart : (list : List Item) (n : ℕ) → Each (λ (item : Item). n ≢ item.node) list → AllByRecursion (λ m. eqb n m ≡ false) (places_of list)
apart [] n h = tt
apart (item ∷ list) n h = (grind (arith, nat_tests, h.0), apart list n h.1)

distinct : (list : List Item) → Ordered (λ (a b : Item). a.node ≢ b.node) list → IsDistinct eqb (places_of list)
unfolding IsDistinct
distinct [] h = tt
distinct (item ∷ list) h = (apart list item.node h.0, distinct list h.1)

below_on : (n m bound : ℕ) (b rest : Bool) → (n == m) ≡ b → m < bound → (b || rest) ≡ true → (rest ≡ true → n < bound) → n < bound
below_on n m bound true rest e le h f = let same : n ≡ m = grind (arith, nat_tests, e) in omega (arith, same, le)
below_on n m bound false rest e le h f = f h

below : (list : List Item) (bound n : ℕ) → Each (λ (item : Item). item.node < bound) list → list_any (eqb n) (places_of list) ≡ true → n < bound
below [] bound n h e = cc
below (item ∷ list) bound n h e = below_on n item.node bound (n == item.node) (list_any (eqb n) (places_of list)) refl h.0 e (below list bound n h.1)

places_len : (list : List Item) → length (places_of list) ≡ length list
places_len [] = refl
places_len (item ∷ list) = ap suc (places_len list)

pub lists_are_short : ListsAreShort
lists_are_short s list h =
    let room = has_room s h in
    let low : Each (λ (item : Item). item.node < s.len) (items s list) =
    each_more (λ (item : Item). IsNodeAt s item.node) (λ (item : Item). item.node < s.len) (items s list) (λ item k. let inside = places_are_inside s item.node Node k in omega (arith, inside.1, room)) (items_have_nodes s list h) in
    let few = length-le_from_distinct_below (places_of (items s list)) s.len (distinct (items s list) (list_differs s list h)) (λ n has. below (items s list) s.len n low has) in
    let same = places_len (items s list) in
    omega (arith, few, same)
