-- A list of items with one more behind the others.
use Rattle.std.proofs.Common.{◌≡◌, ◌≢◌, ℕ, ◌+◌, Bool, true, false, cond, List, [], ◌∷◌, ◌++◌, length, drop, ap, refl, sym, Some, ◌==◌}
use Rattle.pi_base.specs.{Field.little_bytes, Lists.Ordered}
use Rattle.phys_mem.specs.Region.{replaced}
use Rattle.store_model.specs.HeapImage.{links_bytes}
use Rattle.store_laws.specs.Items.{Item, places_of, links_before, links_among}
use Rattle.store_laws.specs.Linking.{last_place}
use Rattle.store_laws.proofs.{Lists.each_append, HeapItems.Lacks, HeapItems.other_is}

-- a list is empty, or it has a last item
pub data Ends (list : List Item) : Type 0 where
  ends_none : list ≡ [] → Ends list
  ends_at : (front : List Item) (last : Item) → list ≡ front ++ last ∷ [] → Ends list

ends_on : (item : Item) (list : List Item) → Ends list → Ends (item ∷ list)
ends_on item list (ends_none e) = ends_at [] item (ap (λ xs. item ∷ xs) e)
ends_on item list (ends_at front last e) = ends_at (item ∷ front) last (ap (λ xs. item ∷ xs) e)

pub ends_of : (list : List Item) → Ends list
ends_of [] = ends_none refl
ends_of (item ∷ list) = ends_on item list (ends_of list)

pub last_is : (front : List Item) (last : Item) → last_place (places_of (front ++ last ∷ [])) ≡ Some last.node
last_is [] last = refl
last_is (item ∷ []) last = refl
last_is (item ∷ next ∷ front) last = last_is (next ∷ front) last

-- a list with an item more: what is found at other places
elsewhere_on : (base place : ℕ) (item next : Item) (xs ys : List Item) (b : Bool) → links_among base place (next ∷ xs) ≡ links_among base place (next ∷ ys)
    → cond b (Some (links_before item (base + next.node))) (links_among base place (next ∷ xs)) ≡ cond b (Some (links_before item (base + next.node))) (links_among base place (next ∷ ys))
elsewhere_on base place item next xs ys true h = refl
elsewhere_on base place item next xs ys false h = h

pub elsewhere : (base place : ℕ) (list : List Item) (new : Item) → place ≢ new.node → last_place (places_of list) ≢ Some place → links_among base place (list ++ new ∷ []) ≡ links_among base place list
elsewhere base place [] new n l = rw (other_is new.node place (λ e. n (sym e))) refl
elsewhere base place (item ∷ []) new n l =
    rw (other_is item.node place (λ e. l (ap Some e))) (rw (other_is new.node place (λ e. n (sym e))) refl)
elsewhere base place (item ∷ next ∷ list) new n l =
    elsewhere_on base place item next (list ++ new ∷ []) list (item.node == place) (elsewhere base place (next ∷ list) new n l)

pub ordered_push : (list : List Item) (new : Item) → Ordered (λ (a b : Item). a.node ≢ b.node) list → Lacks new.node list → Ordered (λ (a b : Item). a.node ≢ b.node) (list ++ new ∷ [])
ordered_push [] new h l = (tt, tt)
ordered_push (item ∷ list) new h l = (each_append (λ (b : Item). item.node ≢ b.node) list (new ∷ []) h.0 (l.0, tt), ordered_push list new h.1 l.1)

pub drop_front : (front rest : List Item) → drop (length front) (front ++ rest) ≡ rest
drop_front [] rest = refl
drop_front (item ∷ front) rest = drop_front front rest

pub drop_front_more : (front : List Item) (last new : Item) → drop (length front) (front ++ last ∷ [] ++ new ∷ []) ≡ last ∷ new ∷ []
drop_front_more [] last new = refl
drop_front_more (item ∷ front) last new = drop_front_more front last new

-- the eight bytes of the next node's address
pub next_replaced : (item : Item) (old new : ℕ) → replaced (links_bytes (Some (links_before item old))) 0 (little_bytes 8 new) ≡ links_bytes (Some (links_before item new))
next_replaced item old new = refl
