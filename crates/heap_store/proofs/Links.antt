-- The links of a list are its items, before the move and after, and its nodes say so.
use Rattle.std.proofs.Common.{◌≡◌, ℕ, ◌<◌, ◌≤◌, List, [], ◌∷◌, length, drop, arith, ap, refl, sym, subst, ◌∙◌, Some, map, IfSome}
use Rattle.std.proofs.lemmas.List.{length-map}
use Rattle.pi_base.specs.Lists.{Each}
use Rattle.pi_base.proofs.ListFacts.{each_more}
use Rattle.store_model.specs.{declared.state.Body.TheVariants.Node, declared.state.Entry.Entry, declared.state.Pending.Pending}
use Rattle.store_model.specs.{declared.store_handle.DescKind.DescKind, declared.store_handle.EntryList.EntryList}
use Rattle.store_model.specs.declared.store_handle.DescKind.TheVariants.{Ppi, Callback, Dispatch}
use Rattle.store_model.specs.declared.store_handle.EntryList.TheVariants.{Ppis, Callbacks, Dispatches, Pendings}
use Rattle.store_model.specs.{StoreState.Range, StoreState.StoreState, HeapImage.links_at, Migration.migrated_to}
use Rattle.store_model.specs.StateFacts.{IsStoreState, IsNodeAt, IsEntry, IsPending}
use Rattle.store_laws.specs.Heads.{last_address}
use Rattle.store_laws.specs.Items.{items, first_address, links_before}
use Rattle.store_laws.proofs.{Apart.links_of_item, Facts.places_are_inside, Facts.has_room, Short.lists_are_short}
use Rattle.store_laws.proofs.Lists.{each_to_map, each_behind, map_map}
use Rattle.heap_store.specs.Linked.{Link, entry_link, pending_link, links_of, address, item_at, first_of, last_of, fields, HasDescriptor, IsLink}

-- the items of a list
pub items_old : (s : StoreState) (list : EntryList) → items s list ≡ map (item_at s.base) (links_of s list)
items_old s Ppis = sym (map_map (item_at s.base) entry_link s.ppis)
items_old s Callbacks = sym (map_map (item_at s.base) entry_link s.callbacks)
items_old s Dispatches = sym (map_map (item_at s.base) entry_link s.dispatches)
items_old s Pendings = sym (map_map (item_at s.base) pending_link s.pendings)

pub items_new : (s : StoreState) (to : Range) (list : EntryList) → items (migrated_to s to) list ≡ map (item_at to.base) (links_of s list)
items_new s to Ppis = sym (map_map (item_at to.base) entry_link s.ppis)
items_new s to Callbacks = sym (map_map (item_at to.base) entry_link s.callbacks)
items_new s to Dispatches = sym (map_map (item_at to.base) entry_link s.dispatches)
items_new s to Pendings = sym (map_map (item_at to.base) pending_link s.pendings)

pub first_is : (base : ℕ) (links : List Link) → first_address base (map (item_at base) links) ≡ address base (first_of links)
first_is base [] = refl
first_is base (link ∷ links) = refl

pub last_is : (base : ℕ) (links : List Link) → last_address base (map (item_at base) links) ≡ address base (last_of links)
last_is base [] = refl
last_is base (link ∷ []) = refl
last_is base (link ∷ next ∷ links) = last_is base (next ∷ links)

pub drop_map : {A B : Type 0} (f : A → B) (xs rest : List A) (x : A) (i : ℕ) → drop i xs ≡ x ∷ rest → drop i (map f xs) ≡ f x ∷ map f rest
drop_map f [] rest x ℕ.zero e = cc
drop_map f [] rest x (ℕ.suc i) e = cc
drop_map f (y ∷ ys) rest x ℕ.zero e =
    let head : y ≡ x = cc in
    let tail : ys ≡ rest = cc in
    ap (λ z. f z ∷ map f ys) head ∙ ap (λ zs. f x ∷ map f zs) tail
drop_map f (y ∷ ys) rest x (ℕ.suc i) e = drop_map f ys rest x i e

-- each names what is there
abbrev Names : StoreState → Link → Type 0
Names s link = IsNodeAt s link.node × HasDescriptor s link.descriptor × IfSome link.other (HasDescriptor s)

entries_name : (s : StoreState) (kind : DescKind) (entries : List Entry) → Each (IsEntry s kind) entries → Each (Names s) (map entry_link entries)
entries_name s kind entries h =
    each_to_map entry_link (Names s) entries (each_more (IsEntry s kind) (λ (entry : Entry). Names s (entry_link entry)) entries (λ entry k. (k.0, (k.1.0, k.1.1), tt)) h)

all_name : (s : StoreState) (list : EntryList) → IsStoreState s → Each (Names s) (links_of s list)
all_name s Ppis h = entries_name s Ppi s.ppis h.ppis
all_name s Callbacks h = entries_name s Callback s.callbacks h.callbacks
all_name s Dispatches h = entries_name s Dispatch s.dispatches h.dispatches
all_name s Pendings h =
    each_to_map pending_link (Names s) s.pendings (each_more (IsPending s) (λ (pending : Pending). Names s (pending_link pending)) s.pendings (λ pending k. (k.0, (k.1.0, k.1.1), (k.2.0, k.2.1))) h.pendings)

names_at : (s : StoreState) (list : EntryList) (i : ℕ) (link : Link) (rest : List Link) → IsStoreState s → drop i (links_of s list) ≡ link ∷ rest → Names s link
names_at s list i link rest h e = each_behind (Names s) (links_of s list) rest i link (all_name s list h) e

next_on : (s : StoreState) (rest : List Link) → Each (Names s) rest → IfSome (first_of rest) (IsNodeAt s)
next_on s [] h = tt
next_on s (link ∷ rest) h = h.0.0

each_drop : {A : Type 0} (P : A → Type 0) (xs rest : List A) (x : A) (i : ℕ) → Each P xs → drop i xs ≡ x ∷ rest → Each P rest
each_drop P [] rest x ℕ.zero h e = cc
each_drop P [] rest x (ℕ.suc i) h e = cc
each_drop P (y ∷ ys) rest x ℕ.zero h e = let same : ys ≡ rest = cc in subst (Each P) same h.1
each_drop P (y ∷ ys) rest x (ℕ.suc i) h e = each_drop P ys rest x i h.1 e

-- the fields of its node
fields_at : (s : StoreState) (list : EntryList) (links : List Link) (i : ℕ) (link : Link) (rest : List Link) → IsStoreState s → items s list ≡ map (item_at s.base) links → drop i links ≡ link ∷ rest
    → links_at s link.node ≡ Some (fields s.base link rest)
fields_at s list links i link rest h is e =
    links_of_item s list i (item_at s.base link) (map (item_at s.base) rest) h (ap (drop i) is ∙ drop_map (item_at s.base) links rest link i e)
    ∙ ap (λ n. Some (links_before (item_at s.base link) n)) (first_is s.base rest)

pub is_link : (s : StoreState) (to : Range) (list : EntryList) (i : ℕ) (link : Link) (rest : List Link) → IsStoreState s → IsStoreState (migrated_to s to) → drop i (links_of s list) ≡ link ∷ rest → IsLink s to link rest
is_link s to list i link rest h after e =
    let names = names_at s list i link rest h e in
    record {
      node = names.0;
      descriptor = names.1;
      other = names.2;
      next = next_on s rest (each_drop (Names s) (links_of s list) rest link i (all_name s list h) e);
      old = fields_at s list (links_of s list) i link rest h (items_old s list) e;
      new = fields_at (migrated_to s to) list (links_of s list) i link rest after (items_new s to list) e;
    }

-- a list is no longer than the heap
pub few_links : (s : StoreState) (list : EntryList) → IsStoreState s → length (links_of s list) ≤ s.len
few_links s list h =
    let few = lists_are_short s list h in
    let same : length (items s list) ≡ length (links_of s list) = ap length (items_old s list) ∙ length-map (links_of s list) (item_at s.base) in
    omega (arith, few, same)

-- its first and last nodes lie in the heap
abbrev IsLow : StoreState → Link → Type 0
IsLow s link = link.node < s.len

all_low : (s : StoreState) (list : EntryList) → IsStoreState s → Each (IsLow s) (links_of s list)
all_low s list h =
    let room = has_room s h in
    each_more (Names s) (IsLow s) (links_of s list) (λ link k. let inside = places_are_inside s link.node Node k.0 in omega (arith, inside.1, room)) (all_name s list h)

first_on : (s : StoreState) (links : List Link) → Each (IsLow s) links → IfSome (first_of links) (λ p. p < s.len)
first_on s [] h = tt
first_on s (link ∷ links) h = h.0

last_on : (s : StoreState) (links : List Link) → Each (IsLow s) links → IfSome (last_of links) (λ p. p < s.len)
last_on s [] h = tt
last_on s (link ∷ []) h = h.0
last_on s (link ∷ next ∷ links) h = last_on s (next ∷ links) h.1

pub first_low : (s : StoreState) (list : EntryList) → IsStoreState s → IfSome (first_of (links_of s list)) (λ p. p < s.len)
first_low s list h = first_on s (links_of s list) (all_low s list h)

pub last_low : (s : StoreState) (list : EntryList) → IsStoreState s → IfSome (last_of (links_of s list)) (λ p. p < s.len)
last_low s list h = last_on s (links_of s list) (all_low s list h)
