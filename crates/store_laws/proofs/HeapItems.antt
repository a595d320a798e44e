-- The node at a place, by a search among the items of the four lists.
use Rattle.std.proofs.Common.{◌≡◌, ◌≢◌, ℕ, zero, suc, true, false, cond, List, [], ◌∷◌, ◌++◌, drop, arith, ap, refl, sym, subst, ◌∙◌, Option, Some, None, ◌==◌, map}
use Rattle.std.specs.Option.{option_or}
use Rattle.std.proofs.lemmas.Bool.Decides.{nat_tests}
use Rattle.store_model.specs.{declared.state.Entry.Entry, declared.state.Pending.Pending, StoreState.StoreState}
use Rattle.pi_base.specs.Lists.{Each, Ordered}
use Rattle.store_model.specs.HeapImage.{Links, links_in, pending_links_in, links_at, first_node, first_pending}
use Rattle.store_model.specs.declared.store_handle.EntryList.{EntryList}
use Rattle.store_model.specs.declared.store_handle.EntryList.TheVariants.{Ppis, Callbacks, Dispatches, Pendings}
use Rattle.store_laws.specs.Items.{Item, item_of, queued_item, items, first_address, links_before, links_among, links_of_lists, all_lists, earlier_lists, later_lists}
use Rattle.store_laws.proofs.Lists.{each_behind}

pub same_is : (n : ℕ) → (n == n) ≡ true
same_is n = grind (arith, nat_tests)

pub other_is : (a b : ℕ) → a ≢ b → (a == b) ≡ false
other_is a b h = grind (arith, nat_tests, h)

-- the model's search is this one
first_is : (base : ℕ) (entries : List Entry) → first_node base entries ≡ first_address base (map (item_of base) entries)
first_is base [] = refl
first_is base (entry ∷ entries) = refl

first_queued_is : (base : ℕ) (pendings : List Pending) → first_pending base pendings ≡ first_address base (map (queued_item base) pendings)
first_queued_is base [] = refl
first_queued_is base (pending ∷ pendings) = refl

among_is : (base place : ℕ) (entries : List Entry) → links_in base place entries ≡ links_among base place (map (item_of base) entries)
among_is base place [] = refl
among_is base place (entry ∷ entries) =
    ap (λ n. cond (entry.node == place) (Some (links_before (item_of base entry) n)) (links_in base place entries)) (first_is base entries)
    ∙ ap (λ x. cond (entry.node == place) (Some (links_before (item_of base entry) (first_address base (map (item_of base) entries)))) x) (among_is base place entries)

queued_is : (base place : ℕ) (pendings : List Pending) → pending_links_in base place pendings ≡ links_among base place (map (queued_item base) pendings)
queued_is base place [] = refl
queued_is base place (pending ∷ pendings) =
    ap (λ n. cond (pending.node == place) (Some (links_before (queued_item base pending) n)) (pending_links_in base place pendings)) (first_queued_is base pendings)
    ∙ ap (λ x. cond (pending.node == place) (Some (links_before (queued_item base pending) (first_address base (map (queued_item base) pendings)))) x) (queued_is base place pendings)

or_none : (x : Option Links) → option_or x None ≡ x
or_none None = refl
or_none (Some x) = refl

pub links_are : (s : StoreState) (place : ℕ) → links_at s place ≡ links_of_lists s.base place (all_lists s)
links_are s place =
    let a = among_is s.base place s.ppis in
    let b = among_is s.base place s.callbacks in
    let c = among_is s.base place s.dispatches in
    let d : pending_links_in s.base place s.pendings ≡ option_or (links_among s.base place (items s Pendings)) None = queued_is s.base place s.pendings ∙ sym (or_none (links_among s.base place (items s Pendings))) in
    ap (λ x. option_or x (option_or (links_in s.base place s.callbacks) (option_or (links_in s.base place s.dispatches) (pending_links_in s.base place s.pendings)))) a
    ∙ ap (λ x. option_or (links_among s.base place (items s Ppis)) (option_or x (option_or (links_in s.base place s.dispatches) (pending_links_in s.base place s.pendings)))) b
    ∙ ap (λ x. option_or (links_among s.base place (items s Ppis)) (option_or (links_among s.base place (items s Callbacks)) (option_or x (pending_links_in s.base place s.pendings)))) c
    ∙ ap (λ x. option_or (links_among s.base place (items s Ppis)) (option_or (links_among s.base place (items s Callbacks)) (option_or (links_among s.base place (items s Dispatches)) x))) d

-- no item of a list has its node there
abbrev pub Lacks : ℕ → List Item → Type 0
Lacks place list = Each (λ item. item.node ≢ place) list

pub none_among : (base place : ℕ) (list : List Item) → Lacks place list → links_among base place list ≡ None
none_among base place [] h = refl
none_among base place (item ∷ list) h = rw (other_is item.node place h.0) (none_among base place list h.1)

-- one list in the place of another
pub lists_same : (base place : ℕ) (before after : List (List Item)) (xs ys : List Item) → links_among base place xs ≡ links_among base place ys
    → links_of_lists base place (before ++ xs ∷ after) ≡ links_of_lists base place (before ++ ys ∷ after)
lists_same base place [] after xs ys e = ap (λ x. option_or x (links_of_lists base place after)) e
lists_same base place (list ∷ before) after xs ys e = ap (option_or (links_among base place list)) (lists_same base place before after xs ys e)

-- found in a list, and not in those before it
pub lists_here : (base place : ℕ) (before after : List (List Item)) (xs : List Item) (links : Links) → Each (Lacks place) before → links_among base place xs ≡ Some links
    → links_of_lists base place (before ++ xs ∷ after) ≡ Some links
lists_here base place [] after xs links h e = ap (λ x. option_or x (links_of_lists base place after)) e
lists_here base place (list ∷ before) after xs links h e =
    ap (λ x. option_or x (links_of_lists base place (before ++ xs ∷ after))) (none_among base place list h.0) ∙ lists_here base place before after xs links h.1 e

pub lists_none : (base place : ℕ) (lists : List (List Item)) → Each (Lacks place) lists → links_of_lists base place lists ≡ None
lists_none base place [] h = refl
lists_none base place (list ∷ lists) h = ap (λ x. option_or x (links_of_lists base place lists)) (none_among base place list h.0) ∙ lists_none base place lists h.1

pub split_lists : (s : StoreState) (list : EntryList) → all_lists s ≡ earlier_lists s list ++ items s list ∷ later_lists s list
split_lists s Ppis = refl
split_lists s Callbacks = refl
split_lists s Dispatches = refl
split_lists s Pendings = refl

-- the item in a place of a list
pub found_among : (base : ℕ) (list rest : List Item) (i : ℕ) (item : Item) → Ordered (λ (a b : Item). a.node ≢ b.node) list → drop i list ≡ item ∷ rest
    → links_among base item.node list ≡ Some (links_before item (first_address base rest))
found_among base [] rest zero item h e = cc
found_among base [] rest (suc i) item h e = cc
found_among base (first ∷ list) rest zero item h e =
    let one : first ≡ item = cc in
    let others : list ≡ rest = cc in
    let t : (first.node == item.node) ≡ true = subst (λ (x : Item). (x.node == item.node) ≡ true) (sym one) (same_is item.node) in
    rw t (ap (λ (x : Item). Some (links_before x (first_address base list))) one ∙ ap (λ xs. Some (links_before item (first_address base xs))) others)
found_among base (first ∷ list) rest (suc i) item h e =
    let apart : first.node ≢ item.node = each_behind (λ (b : Item). first.node ≢ b.node) list rest i item h.0 e in
    rw (other_is first.node item.node apart) (found_among base list rest i item h.1 e)
