-- What is done when lists are walked: their nodes, and the descriptors that they name.
use Rattle.std.proofs.Common.{◌≡◌, ◌≢◌, ℕ, ◌==◌, ◌||◌, Bool, true, false, List, [], ◌∷◌, ◌++◌, arith, ap, refl, sym, subst, ◌∙◌, Option, Some, None, map}
use Rattle.std.specs.List.{list_any}
use Rattle.std.proofs.{lemmas.List.map-append, lemmas.Bool.Decides.nat_tests}
use Rattle.store_model.specs.{declared.state.Entry.Entry, declared.state.Pending.Pending, declared.store_handle.EntryList.EntryList}
use Rattle.store_model.specs.declared.store_handle.EntryList.TheVariants.{Ppis, Callbacks, Dispatches, Pendings}
use Rattle.pi_base.specs.Lists.{Each}
use Rattle.store_model.specs.{StoreState.StoreState, HeapImage.links_at, Service.Descriptor.is_named, Service.Descriptor.descriptors}
use Rattle.store_laws.specs.Items.{Item, items, all_lists}
use Rattle.store_laws.specs.Moving.{Done}
use Rattle.store_laws.proofs.HeapItems.{Lacks, links_are, lists_none}
use Rattle.store_laws.proofs.Lists.{each_to_map}
use Rattle.heap_store.specs.Half.{with_other, with_link, with_links, none_done, lists_done}
use Rattle.heap_store.specs.Linked.{Link, entry_link, pending_link, links_of, item_at}
use Rattle.heap_store.proofs.Links.{items_old}

other_nodes : (done : Done) (p : Option ℕ) (place : ℕ) → (with_other done p).nodes place ≡ done.nodes place
other_nodes done None place = refl
other_nodes done (Some p) place = refl

neither : (a b : Bool) → (a || b) ≡ false → (a ≡ false) × (b ≡ false)
neither true b h = cc
neither false b h = (refl, h)

other_than : (n place : ℕ) → (place == n) ≡ false → n ≢ place
other_than n place h e = grind (arith, nat_tests)

-- a node that is not done is in none of the lists
pub unmarked : (done : Done) (links : List Link) (place : ℕ) → (with_links done links).nodes place ≡ false → (done.nodes place ≡ false) × Each (λ (link : Link). link.node ≢ place) links
unmarked done [] place e = (e, tt)
unmarked done (link ∷ rest) place e =
    let later = unmarked (with_link done link) rest place e in
    let here : (done.nodes place || place == link.node) ≡ false = sym (other_nodes _ link.other place) ∙ later.0 in
    let both = neither (done.nodes place) (place == link.node) here in (both.0, (other_than link.node place both.1, later.1))

lacks : (t : StoreState) (list : EntryList) (place : ℕ) → Each (λ (link : Link). link.node ≢ place) (links_of t list) → Lacks place (items t list)
lacks t list place h = subst (Lacks place) (sym (items_old t list)) (each_to_map (item_at t.base) (λ (item : Item). item.node ≢ place) (links_of t list) h)

pub no_links : (s : StoreState) (place : ℕ) → (lists_done s).nodes place ≡ false → (base : ℕ) → links_at (record s { base = base }) place ≡ None
no_links s place e base =
    let p = links_of s Ppis in
    let c = links_of s Callbacks in
    let d = links_of s Dispatches in
    let q = links_of s Pendings in
    let last = unmarked (with_links (with_links (with_links none_done p) c) d) q place e in
    let third = unmarked (with_links (with_links none_done p) c) d place last.0 in
    let second = unmarked (with_links none_done p) c place third.0 in
    let first = unmarked none_done p place second.0 in
    let t : StoreState = record s { base = base } in
    links_are t place ∙ lists_none base place (all_lists t) (lacks t Ppis place first.1, (lacks t Callbacks place second.1, (lacks t Dispatches place third.1, (lacks t Pendings place last.1, tt))))

-- a link names the descriptor at a place
abbrev is_other : ℕ → Option ℕ → Bool
is_other place None = false
is_other place (Some p) = place == p

abbrev names : ℕ → Link → Bool
names place link = place == link.descriptor || is_other place link.other

or_false : (b : Bool) → (b || false) ≡ b
or_false true = refl
or_false false = refl

or_assoc : (a b c : Bool) → ((a || b) || c) ≡ (a || (b || c))
or_assoc true b c = refl
or_assoc false b c = refl

other_marks : (done : Done) (p : Option ℕ) (place : ℕ) → (with_other done p).descriptors place ≡ (done.descriptors place || is_other place p)
other_marks done None place = sym (or_false (done.descriptors place))
other_marks done (Some p) place = refl

link_marks : (done : Done) (link : Link) (place : ℕ) → (with_link done link).descriptors place ≡ (done.descriptors place || names place link)
link_marks done link place = other_marks _ link.other place ∙ or_assoc (done.descriptors place) (place == link.descriptor) (is_other place link.other)

pub marked : (done : Done) (links : List Link) (place : ℕ) → (with_links done links).descriptors place ≡ (done.descriptors place || list_any (names place) links)
marked done [] place = sym (or_false (done.descriptors place))
marked done (link ∷ rest) place =
    marked (with_link done link) rest place
    ∙ ap (λ b. b || list_any (names place) rest) (link_marks done link place)
    ∙ or_assoc (done.descriptors place) (names place link) (list_any (names place) rest)

turned : (x y : ℕ) → (x == y) ≡ (y == x)
turned x y = grind (arith, nat_tests)

any_entries : (place : ℕ) (entries : List Entry) → list_any (names place) (map entry_link entries) ≡ list_any (λ named. named == place) (descriptors entries)
any_entries place [] = refl
any_entries place (entry ∷ entries) =
    ap (λ b. b || list_any (names place) (map entry_link entries)) (or_false (place == entry.descriptor) ∙ turned place entry.descriptor)
    ∙ ap (λ b. (entry.descriptor == place) || b) (any_entries place entries)

any_pairs : (place : ℕ) (pendings : List Pending) → list_any (names place) (map pending_link pendings) ≡ list_any (λ (pending : Pending). pending.descriptor == place || pending.ppi == place) pendings
any_pairs place [] = refl
any_pairs place (pending ∷ pendings) =
    ap (λ b. (b || place == pending.ppi) || list_any (names place) (map pending_link pendings)) (turned place pending.descriptor)
    ∙ ap (λ b. (pending.descriptor == place || b) || list_any (names place) (map pending_link pendings)) (turned place pending.ppi)
    ∙ ap (λ b. (pending.descriptor == place || pending.ppi == place) || b) (any_pairs place pendings)

any_append : {A : Type 0} (f : A → Bool) (xs ys : List A) → list_any f (xs ++ ys) ≡ (list_any f xs || list_any f ys)
any_append f [] ys = refl
any_append f (x ∷ xs) ys = ap (λ b. f x || b) (any_append f xs ys) ∙ sym (or_assoc (f x) (list_any f xs) (list_any f ys))

any_three : (place : ℕ) (a b c : List Entry) → list_any (λ named. named == place) (descriptors (a ++ b ++ c)) ≡ ((list_any (names place) (map entry_link a) || list_any (names place) (map entry_link b)) || list_any (names place) (map entry_link c))
any_three place a b c =
    sym (any_entries place (a ++ b ++ c)) ∙ ap (list_any (names place)) (map-append _ (a ++ b) c ∙ ap (λ xs. xs ++ map entry_link c) (map-append _ a b))
    ∙ any_append (names place) (map entry_link a ++ map entry_link b) (map entry_link c) ∙ ap (λ x. x || list_any (names place) (map entry_link c)) (any_append (names place) (map entry_link a) (map entry_link b))

-- the descriptors that are done are those that are named
pub named_done : (s : StoreState) (place : ℕ) → (lists_done s).descriptors place ≡ is_named s place
named_done s place =
    let p = map entry_link s.ppis in
    let c = map entry_link s.callbacks in
    let d = map entry_link s.dispatches in
    let q = map pending_link s.pendings in
    marked (with_links (with_links (with_links none_done p) c) d) q place
    ∙ ap (λ x. x || list_any (names place) q) (marked (with_links (with_links none_done p) c) d place
    ∙ ap (λ x. x || list_any (names place) d) (marked (with_links none_done p) c place ∙ ap (λ x. x || list_any (names place) c) (marked none_done p place))
    ∙ sym (any_three place s.ppis s.callbacks s.dispatches))
    ∙ ap (λ x. list_any (λ named. named == place) (descriptors (s.ppis ++ s.callbacks ++ s.dispatches)) || x) (any_pairs place s.pendings)
