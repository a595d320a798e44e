-- What is told of an entry that is met.
use Rattle.std.proofs.Common.{◌≡◌, ◌≤◌, ◌<◌, ◌+◌, ◌^◌, ◌==◌, ◌||◌, ℕ, zero, suc, Bool, true, false, cond, List, [], ◌∷◌, length, drop, Option, Some, None, ap, sym, refl, ◌∙◌, arith, map, option_map, slice_get}
use Rattle.std.specs.List.{list_any}
use Rattle.std.proofs.lemmas.Bool.Decides.{nat_tests}
use Rattle.pi_base.specs.declared.guid.Guid.{Guid}
use Rattle.store_model.specs.{declared.state.Entry.Entry, declared.state.Pending.Pending, declared.store_handle.Desc.Desc}
use Rattle.store_model.specs.{declared.store_handle.DescKind.DescKind, declared.store_handle.EntryList.EntryList}
use Rattle.store_model.specs.declared.store_handle.DescKind.TheVariants.{Ppi, Callback, Dispatch}
use Rattle.store_model.specs.declared.store_handle.EntryList.TheVariants.{Ppis, Callbacks, Dispatches, Pendings}
use Rattle.store_model.specs.{declared.store_handle.EntryTold.EntryTold, StoreState.StoreState, StateFacts.IsStoreState, StoreCall.IsNodeIn}
use Rattle.store_model.specs.{HeapImage.heap_image, Service.Descriptor.guid_at, Service.Descriptor.number_at}
use Rattle.store_model.specs.Service.Reading.{behind_node, entry_told, note_at, nth_ppi, pending_at, pending_told, ppi_at, ppis_of, told_behind, told_of}
use Rattle.store_laws.specs.{Named.NamedAreThere, Chain.NextIsRead, Chain.NodesAreInside, Word.word_in}
use Rattle.store_laws.specs.Items.{Item, first_address, item_of, items, queued_item}
use Rattle.store_laws.proofs.{Facts.images_fill, Nodes.drop_next}
use Rattle.pei_heap.specs.{declared.links.descriptor.DescRead.DescRead, declared.links.node.Node.Node, DescRead.IsReadAt, Node.node_of}
use Rattle.pei_heap.specs.Walk.{HasEntries, IsBehind, IsNoteHead, StandsAt, address_from, entries_in}
use Rattle.pei_heap.proofs.Nth.{get_next, get_past}

pub got_none : {A : Type 0} (xs : List A) (i : ℕ) → drop i xs ≡ [] → slice_get xs i ≡ None
got_none xs i e = get_past xs i i e (omega arith)

-- what a descriptor says of its entry
pub told_is : (s : StoreState) (entry : Entry) (found : DescRead) → IsReadAt s entry.descriptor found
    → record { node = entry.node; guid = found.guid; number = found.number; by = entry.by } ≡ entry_told s entry
told_is s entry found is =
    let made : Guid → ℕ → EntryTold = λ g n. record { node = entry.node; guid = g; number = n; by = entry.by } in
    ap (λ g. made g found.number) is.guid_is ∙ ap (λ n. made (guid_at s entry.descriptor) n) is.number_is

abbrev pub ppi_part : EntryTold → Guid × ℕ × ℕ
ppi_part t = (t.guid, t.number, t.by)

abbrev pub note_part : EntryTold → Guid × ℕ
note_part t = (t.guid, t.number)

abbrev ppi_said : StoreState → Entry → Guid × ℕ × ℕ
ppi_said s x = (guid_at s x.descriptor, number_at s x.descriptor, x.by)

abbrev note_said : StoreState → Entry → Guid × ℕ
note_said s x = (guid_at s x.descriptor, number_at s x.descriptor)

abbrev pair_said : StoreState → Pending → Guid × ℕ
pair_said s x = (guid_at s x.ppi, number_at s x.descriptor)

ppi_both : (s : StoreState) (found : Option Entry) → option_map ppi_part (option_map (entry_told s) found)
    ≡ option_map (ppi_said s) found
ppi_both s None = refl
ppi_both s (Some x) = refl

pub ppi_told : (s : StoreState) (place : ℕ) (told : Option EntryTold) → told ≡ option_map (entry_told s) (slice_get s.ppis place)
    → option_map ppi_part told ≡ ppi_at s place
ppi_told s place told e = ap (option_map ppi_part) e ∙ ppi_both s (slice_get s.ppis place)

-- notifications, by their kind
abbrev pub note_list : DescKind → EntryList
note_list Ppi = Dispatches
note_list Callback = Callbacks
note_list Dispatch = Dispatches

pub note_head : (s : StoreState) (kind : DescKind) (head : ℕ) → IsNoteHead s kind head → head ≡ address_from s (note_list kind) 0
note_head s Ppi head h = absurd h
note_head s Callback head h = h
note_head s Dispatch head h = h

pub note_stands : (s : StoreState) (kind : DescKind) (head place at : ℕ) → IsNoteHead s kind head → at ≡ address_from s (note_list kind) place → StandsAt s (note_list kind) place at
note_stands s Ppi head place at h e = absurd h
note_stands s Callback head place at h e = record { entries = tt; here = e }
note_stands s Dispatch head place at h e = record { entries = tt; here = e }

note_both : (s : StoreState) (found : Option Entry) → option_map note_part (option_map (entry_told s) found)
    ≡ option_map (note_said s) found
note_both s None = refl
note_both s (Some x) = refl

pub note_told : (s : StoreState) (kind : DescKind) (head place : ℕ) (told : Option EntryTold) → IsNoteHead s kind head
    → told ≡ option_map (entry_told s) (slice_get (entries_in s (note_list kind)) place) → option_map note_part told ≡ note_at s kind place
note_told s Ppi head place told h e = absurd h
note_told s Callback head place told h e = ap (option_map note_part) e ∙ note_both s (slice_get s.callbacks place)
note_told s Dispatch head place told h e = ap (option_map note_part) e ∙ note_both s (slice_get s.dispatches place)

number_by : (s : StoreState) (told : EntryTold) (found : Option Entry) → ((x : Entry) → found ≡ Some x → number_at s x.descriptor < 0x40000) → Some told ≡ option_map (entry_told s) found → told.number < 2 ^ 32
number_by s told None law e = cc
number_by s told (Some x) law e =
    let same : told ≡ entry_told s x = cc in
    let number : told.number ≡ number_at s x.descriptor = ap (λ (t : EntryTold). t.number) same in
    let fits = law x refl in omega (arith, number, fits)

pub note_small : (s : StoreState) (kind : DescKind) (head place : ℕ) (told : EntryTold) → NamedAreThere → IsStoreState s → IsNoteHead s kind head
    → Some told ≡ option_map (entry_told s) (slice_get (entries_in s (note_list kind)) place) → told.number < 2 ^ 32
note_small s Ppi head place told law h is e = absurd is
note_small s Callback head place told law h is e = number_by s told (slice_get s.callbacks place) (λ x f. (law.callback s place x h f).number_is) e
note_small s Dispatch head place told law h is e = number_by s told (slice_get s.dispatches place) (λ x f. (law.dispatch s place x h f).number_is) e

-- queued pairs
pair_of : (base : ℕ) (xs : List Pending) (place : ℕ) (item : Item) (rest : List Item) → drop place (map (queued_item base) xs) ≡ item ∷ rest → (p : Pending) × (ps : List Pending) × (drop place xs ≡ p ∷ ps) × (queued_item base p ≡ item)
pair_of base [] zero item rest e = cc
pair_of base [] (suc i) item rest e = cc
pair_of base (x ∷ xs) zero item rest e = (x, xs, refl, cc)
pair_of base (x ∷ xs) (suc i) item rest e = pair_of base xs i item rest e

no_pair : (base : ℕ) (xs : List Pending) (place : ℕ) → drop place (map (queued_item base) xs) ≡ [] → slice_get xs place ≡ None
no_pair base [] zero e = refl
no_pair base [] (suc i) e = refl
no_pair base (x ∷ xs) zero e = cc
no_pair base (x ∷ xs) (suc i) e = no_pair base xs i e

pub no_pending : (s : StoreState) (place : ℕ) → drop place (items s Pendings) ≡ [] → None ≡ option_map (pending_told s) (slice_get s.pendings place)
no_pending s place e = ap (option_map (pending_told s)) (sym (no_pair s.base s.pendings place e))

pub record IsPairAt (s : StoreState) (place base : ℕ) (node : Node) : Type 0 where
  pub pair : Pending
  pub there : slice_get s.pendings place ≡ Some pair
  pub ppi : node.second ≡ base + pair.ppi
  pub note : node.descriptor ≡ base + pair.descriptor
  pub by : node.by ≡ pair.by
  pub node_is : node.at ≡ base + pair.node

pub pair_at : (s : StoreState) (place base : ℕ) (node : Node) (item : Item) (rest : List Item) → base ≡ s.base → drop place (items s Pendings) ≡ item ∷ rest → node ≡ node_of s.base item → IsPairAt s place base node
pair_at s place base node item rest start e is =
    let f = pair_of s.base s.pendings place item rest e in
    let same : node ≡ node_of s.base (queued_item s.base f.0) = is ∙ ap (node_of s.base) (sym f.3) in
    record {
      pair = f.0;
      there = get_next s.pendings place f.0 f.1 f.2;
      ppi = ap (λ (n : Node). n.second) same ∙ ap (λ b. b + f.0.ppi) (sym start);
      note = ap (λ (n : Node). n.descriptor) same ∙ ap (λ b. b + f.0.descriptor) (sym start);
      by = ap (λ (n : Node). n.by) same;
      node_is = ap (λ (n : Node). n.at) same ∙ ap (λ b. b + f.0.node) (sym start);
    }

pub pair_told : (s : StoreState) (pair : Pending) (place node number by : ℕ) (guid : Guid) → slice_get s.pendings place ≡ Some pair → node ≡ pair.node → guid ≡ guid_at s pair.ppi → number ≡ number_at s pair.descriptor → by ≡ pair.by
    → Some (record { node = node; guid = guid; number = number; by = by }) ≡ option_map (pending_told s) (slice_get s.pendings place)
pair_told s pair place node number by guid e a b c d =
    let made : ℕ → Guid → ℕ → ℕ → EntryTold = λ x g n y. record { node = x; guid = g; number = n; by = y } in
    ap Some (ap (λ x. made x guid number by) a ∙ ap (λ g. made pair.node g number by) b ∙ ap (λ n. made pair.node (guid_at s pair.ppi) n by) c ∙ ap (λ y. made pair.node (guid_at s pair.ppi) (number_at s pair.descriptor) y) d)
    ∙ ap (option_map (pending_told s)) (sym e)

pending_both : (s : StoreState) (found : Option Pending) → option_map note_part (option_map (pending_told s) found)
    ≡ option_map (pair_said s) found
pending_both s None = refl
pending_both s (Some x) = refl

pub pending_is : (s : StoreState) (place : ℕ) (told : Option EntryTold) → told ≡ option_map (pending_told s) (slice_get s.pendings place)
    → option_map note_part told ≡ pending_at s place
pending_is s place told e = ap (option_map note_part) e ∙ pending_both s (slice_get s.pendings place)

small_by : (s : StoreState) (told : EntryTold) (found : Option Pending) → ((x : Pending) → found ≡ Some x → number_at s x.descriptor < 0x40000) → Some told ≡ option_map (pending_told s) found → told.number < 2 ^ 32
small_by s told None law e = cc
small_by s told (Some x) law e =
    let same : told ≡ pending_told s x = cc in
    let number : told.number ≡ number_at s x.descriptor = ap (λ (t : EntryTold). t.number) same in
    let fits = law x refl in omega (arith, number, fits)

pub pending_small : (s : StoreState) (place : ℕ) (told : EntryTold) → NamedAreThere → IsStoreState s → Some told ≡ option_map (pending_told s) (slice_get s.pendings place) → told.number < 2 ^ 32
pending_small s place told law h e = small_by s told (slice_get s.pendings place) (λ x f. (law.pending s place x h f).note.number_is) e

-- the entry with a node
abbrev told_node : EntryTold → ℕ
told_node told = told.node

abbrev item_node : Item → ℕ
item_node item = item.node

entry_nodes : (s : StoreState) (xs : List Entry) → map told_node (map (entry_told s) xs) ≡ map item_node (map (item_of s.base) xs)
entry_nodes s [] = refl
entry_nodes s (x ∷ xs) = ap (λ rest. x.node ∷ rest) (entry_nodes s xs)

pair_nodes : (s : StoreState) (xs : List Pending) → map told_node (map (pending_told s) xs) ≡ map item_node (map (queued_item s.base) xs)
pair_nodes s [] = refl
pair_nodes s (x ∷ xs) = ap (λ rest. x.node ∷ rest) (pair_nodes s xs)

same_nodes : (s : StoreState) (list : EntryList) → map told_node (told_of s list) ≡ map item_node (items s list)
same_nodes s Ppis = entry_nodes s s.ppis
same_nodes s Callbacks = entry_nodes s s.callbacks
same_nodes s Dispatches = entry_nodes s s.dispatches
same_nodes s Pendings = pair_nodes s s.pendings

record IsToldAt (xs : List EntryTold) (node : ℕ) : Type 0 where
  place : ℕ
  told : EntryTold
  rest : List EntryTold
  there : drop place xs ≡ told ∷ rest
  node_is : told.node ≡ node
  left : behind_node node xs ≡ rest

told_later : (x : EntryTold) (xs : List EntryTold) (node : ℕ) (b : Bool) → (x.node == node) ≡ b → (list_any (λ t. told_node t == node) xs ≡ true → IsToldAt xs node) → (b || list_any (λ t. told_node t == node) xs) ≡ true → IsToldAt (x ∷ xs) node
told_later x xs node true e later h =
    let same : x.node ≡ node = grind (arith, nat_tests, e) in
    record { place = 0; told = x; rest = xs; there = refl; node_is = same; left = ap (λ b. cond b xs (behind_node node xs)) e }
told_later x xs node false e later h =
    let found = later h in
    record { place = suc found.place; told = found.told; rest = found.rest; there = found.there; node_is = found.node_is; left = ap (λ b. cond b xs (behind_node node xs)) e ∙ found.left }

told_in : (xs : List EntryTold) (node : ℕ) → list_any (λ t. told_node t == node) xs ≡ true → IsToldAt xs node
told_in [] node h = cc
told_in (x ∷ xs) node h = told_later x xs node (x.node == node) refl (told_in xs node) h

item_in : (xs : List EntryTold) (ys : List Item) (place : ℕ) (told : EntryTold) (rest : List EntryTold) → map told_node xs ≡ map item_node ys → drop place xs ≡ told ∷ rest → (item : Item) × (later : List Item) × (drop place ys ≡ item ∷ later) × (item.node ≡ told.node)
item_in [] ys zero told rest e f = cc
item_in [] ys (suc i) told rest e f = cc
item_in (x ∷ xs) [] i told rest e f = cc
item_in (x ∷ xs) (y ∷ ys) zero told rest e f =
    let same : x ≡ told = cc in
    let nodes : x.node ≡ y.node = cc in
    (y, ys, refl, sym nodes ∙ ap told_node same)
item_in (x ∷ xs) (y ∷ ys) (suc i) told rest e f = let later : map told_node xs ≡ map item_node ys = cc in item_in xs ys i told rest later f

-- the node behind it
pub record IsNodeOf (s : StoreState) (list : EntryList) (node : ℕ) : Type 0 where
  pub place : ℕ
  pub item : Item
  pub rest : List Item
  pub there : drop place (items s list) ≡ item ∷ rest
  pub node_is : node ≡ item.node
  pub left : behind_node node (told_of s list) ≡ drop (place + 1) (told_of s list)

pub node_in : (s : StoreState) (list : EntryList) (node : ℕ) → IsNodeIn list (Some node) s → IsNodeOf s list node
node_in s list node h =
    let found = told_in (told_of s list) node h in
    let item = item_in (told_of s list) (items s list) found.place found.told found.rest (same_nodes s list) found.there in
    record {
      place = found.place;
      item = item.0;
      rest = item.1;
      there = item.2;
      node_is = sym (item.3 ∙ found.node_is);
      left = found.left ∙ sym (drop_next (told_of s list) found.place found.told found.rest found.there);
    }

pub behind_inside : (s : StoreState) (list : EntryList) (bytes : List ℕ) (node : ℕ) → NodesAreInside → IsStoreState s → bytes ≡ heap_image s → IsNodeIn list (Some node) s → node + 8 ≤ length bytes
behind_inside s list bytes node law h e is =
    let found = node_in s list node is in
    let inside = law s list found.place found.item found.rest h found.there in
    let size : length bytes ≡ s.len = ap length e ∙ images_fill s h in
    let same = found.node_is in
    omega (arith, inside.1, size, same)

pub behind_is : (s : StoreState) (list : EntryList) (bytes : List ℕ) (node word : ℕ) → NextIsRead → IsStoreState s → bytes ≡ heap_image s → IsNodeIn list (Some node) s → word ≡ word_in bytes node → IsBehind s list (Some node) word
behind_is s list bytes node word law h e is w =
    let found = node_in s list node is in
    let next : word ≡ first_address s.base found.rest = w ∙ ap (λ x. word_in x node) e ∙ ap (word_in (heap_image s)) found.node_is ∙ law s list found.place found.item found.rest h found.there in
    (found.place + 1, found.left, next ∙ ap (first_address s.base) (sym (drop_next (items s list) found.place found.item found.rest found.there)))

-- what is told of the first of what is left
drop_map : {A B : Type 0} (f : A → B) (xs : List A) (i : ℕ) → slice_get (drop i (map f xs)) 0 ≡ option_map f (slice_get xs i)
drop_map f [] zero = refl
drop_map f [] (suc i) = refl
drop_map f (x ∷ xs) zero = refl
drop_map f (x ∷ xs) (suc i) = drop_map f xs i

pub entry_left : (s : StoreState) (list : EntryList) (node : Option ℕ) (place : ℕ) → HasEntries list → told_behind node (told_of s list) ≡ drop place (told_of s list)
    → option_map (entry_told s) (slice_get (entries_in s list) place) ≡ slice_get (told_behind node (told_of s list)) 0
entry_left s Ppis which place has e = sym (drop_map (entry_told s) s.ppis place) ∙ ap (λ xs. slice_get xs 0) (sym e)
entry_left s Callbacks which place has e = sym (drop_map (entry_told s) s.callbacks place) ∙ ap (λ xs. slice_get xs 0) (sym e)
entry_left s Dispatches which place has e = sym (drop_map (entry_told s) s.dispatches place) ∙ ap (λ xs. slice_get xs 0) (sym e)
entry_left s Pendings which place has e = absurd has

pub pair_left : (s : StoreState) (node : Option ℕ) (place : ℕ) → told_behind node (told_of s Pendings) ≡ drop place (told_of s Pendings)
    → option_map (pending_told s) (slice_get s.pendings place) ≡ slice_get (told_behind node (told_of s Pendings)) 0
pair_left s which place e = sym (drop_map (pending_told s) s.pendings place) ∙ ap (λ xs. slice_get xs 0) (sym e)

-- the n-th PPI of a GUID
abbrev nth_said : StoreState → Entry → Desc × ℕ
nth_said s x = (record { offset = x.descriptor }, number_at s x.descriptor)

pub nth_none : (s : StoreState) (guid : Guid) (n : ℕ) → None ≡ slice_get (ppis_of s guid) n → None ≡ nth_ppi s guid n
nth_none s guid n e = ap (option_map (nth_said s)) e

pub nth_some : (s : StoreState) (guid : Guid) (n : ℕ) (entry : Entry) (number : ℕ) → number ≡ number_at s entry.descriptor → Some entry ≡ slice_get (ppis_of s guid) n
    → Some (record { offset = entry.descriptor }, number) ≡ nth_ppi s guid n
nth_some s guid n entry number e f =
    let made : ℕ → Option (Desc × ℕ) = λ k. Some (record { offset = entry.descriptor }, k) in
    ap made e ∙ ap (option_map (nth_said s)) f
