-- What holds of every state but its room, and how it is kept where a HOB, an entry or a queued pair is added.
use Rattle.std.proofs.Common.{◌≡◌, ◌≢◌, ℕ, ◌+◌, ◌≤◌, ◌<◌, ◌^◌, Bool, true, false, List, [], ◌∷◌, ◌++◌, arith, sym, refl, subst, append_assoc, map, IfSome, AllPairs, append-nil}
use Rattle.std.proofs.lemmas.List.{map-append}
use Rattle.pi_base.specs.Lists.{Each, Ordered}
use Rattle.pi_base.proofs.ListFacts.{each_append, each_more, ordered_of_pairs}
use Rattle.store_model.specs.{declared.store_handle.DescKind.DescKind, declared.state.Entry.Entry, declared.state.Pending.Pending}
use Rattle.store_model.specs.declared.store_handle.DescKind.TheVariants.{Ppi, Callback, Dispatch}
use Rattle.store_model.specs.declared.state.Body.TheVariants.{Descriptor, Node}
use Rattle.store_model.specs.declared.state.HobEntry.{HobEntry}
use Rattle.store_model.specs.StoreState.{StoreState, appended, end_place, handoff_len, next_body, page_bytes}
use Rattle.store_model.specs.StateFacts.{ArePages, IsBoard, IsDescriptorAt, IsEntry, IsHeap, IsHobEntry, IsNodeAt, IsPending, IsPlanned, IsStoreState, nodes}
use Rattle.store_laws.specs.Bodies.{IsGrown}
use Rattle.store_laws.proofs.Items.{differ_put, each_push, each_to_map, pairs_of_ordered}
use Rattle.store_laws.proofs.Bodies.{body_before, grown_by}

-- the nodes in four lists, one after the other
abbrev pub node_of : Entry → ℕ
node_of entry = entry.node

abbrev pub pending_node : Pending → ℕ
pending_node pending = pending.node

abbrev pub four : List Entry → List Entry → List Entry → List Pending → List ℕ
four ppis callbacks dispatches pendings = map node_of ppis ++ (map node_of callbacks ++ (map node_of dispatches ++ map pending_node pendings))

pub nodes_are : (s : StoreState) → nodes s ≡ four s.ppis s.callbacks s.dispatches s.pendings
nodes_are s = simp (map-append, append_assoc) refl

abbrev pub Differ : List ℕ → Type 0
Differ xs = Ordered (λ a b. a ≢ b) xs

-- a state without its lists and HOBs, which what is known of its heap and pages does not ask for
abbrev pub bare : StoreState → StoreState
bare s = record s { hobs = []; ppis = []; callbacks = []; dispatches = []; pendings = []; boot_mode = 0 }

pub record IsFrame (s : StoreState) : Type 0 where
  pub pages : ArePages s s.moved
  pub board : IsBoard s.board
  pub planned : IfSome s.planned (IsPlanned s.board)
  pub heap : IsHeap s s.moved

pub record IsSound (s : StoreState) : Type 0 where
  pub ppis : Each (IsEntry s Ppi) s.ppis
  pub callbacks : Each (IsEntry s Callback) s.callbacks
  pub dispatches : Each (IsEntry s Dispatch) s.dispatches
  pub pendings : Each (IsPending s) s.pendings
  pub nodes : Differ (four s.ppis s.callbacks s.dispatches s.pendings)
  pub hobs : Each (IsHobEntry s.board s.taken) s.hobs
  pub boot_mode : s.boot_mode < 2 ^ 32
  pub frame : IsFrame (bare s)

abbrev pub IsRoomy : StoreState → Type 0
IsRoomy s = end_place s + 8 + page_bytes s.moved s.taken ≤ s.len

pages_bare : (s : StoreState) (moved : Bool) → ArePages s moved → ArePages (bare s) moved
pages_bare s true h = h
pages_bare s false h = h

pages_whole : (s : StoreState) (moved : Bool) → ArePages (bare s) moved → ArePages s moved
pages_whole s true h = h
pages_whole s false h = h

heap_bare : (s : StoreState) (moved : Bool) → IsHeap s moved → IsHeap (bare s) moved
heap_bare s true h = h
heap_bare s false h = h

heap_whole : (s : StoreState) (moved : Bool) → IsHeap (bare s) moved → IsHeap s moved
heap_whole s true h = h
heap_whole s false h = h

pub sound_of : (s : StoreState) → IsStoreState s → IsSound s
sound_of s h = record {
  ppis = h.ppis;
  callbacks = h.callbacks;
  dispatches = h.dispatches;
  pendings = h.pendings;
  nodes = ordered_of_pairs (λ a b. a ≢ b) (four s.ppis s.callbacks s.dispatches s.pendings) (subst (λ xs. AllPairs (λ (a b : ℕ). a ≢ b) xs) (nodes_are s) h.nodes);
  hobs = h.hobs;
  boot_mode = h.boot_mode;
  frame = record { pages = pages_bare s s.moved h.pages; board = h.board; planned = h.planned; heap = heap_bare s s.moved h.heap };
}

pub facts_of : (s : StoreState) → IsSound s → IsRoomy s → IsStoreState s
facts_of s h room = record {
  ppis = h.ppis;
  callbacks = h.callbacks;
  dispatches = h.dispatches;
  pendings = h.pendings;
  nodes = subst (λ xs. AllPairs (λ (a b : ℕ). a ≢ b) xs) (sym (nodes_are s)) (pairs_of_ordered (λ a b. a ≢ b) (four s.ppis s.callbacks s.dispatches s.pendings) h.nodes);
  hobs = h.hobs;
  boot_mode = h.boot_mode;
  room = room;
  pages = pages_whole s s.moved h.frame.pages;
  board = h.frame.board;
  planned = h.frame.planned;
  heap = heap_whole s s.moved h.frame.heap;
}

-- what is named is still there
pub descriptor_grows : (s t : StoreState) (kind : DescKind) → IsGrown s t → (place : ℕ) → IsDescriptorAt s kind place → IsDescriptorAt t kind place
descriptor_grows s t kind grown place h = (h.0, grown place (Descriptor h.0) h.1, h.2)

entry_grows : (s t : StoreState) (kind : DescKind) → IsGrown s t → (entry : Entry) → IsEntry s kind entry → IsEntry t kind entry
entry_grows s t kind grown entry h = (grown entry.node Node h.0, descriptor_grows s t kind grown entry.descriptor h.1, h.2)

pending_grows : (s t : StoreState) → IsGrown s t → (pending : Pending) → IsPending s pending → IsPending t pending
pending_grows s t grown pending h =
    (grown pending.node Node h.0, descriptor_grows s t Dispatch grown pending.descriptor h.1, descriptor_grows s t Ppi grown pending.ppi h.2, h.3)

-- a HOB more
pub appended_sound : (s : StoreState) (hob : HobEntry) → IsSound s → IsHobEntry s.board s.taken hob → IsSound (appended s hob)
appended_sound s hob h is =
    let t = appended s hob in
    let grown : IsGrown s t = grown_by s hob in
    record {
      ppis = each_more (IsEntry s Ppi) (IsEntry t Ppi) s.ppis (entry_grows s t Ppi grown) h.ppis;
      callbacks = each_more (IsEntry s Callback) (IsEntry t Callback) s.callbacks (entry_grows s t Callback grown) h.callbacks;
      dispatches = each_more (IsEntry s Dispatch) (IsEntry t Dispatch) s.dispatches (entry_grows s t Dispatch grown) h.dispatches;
      pendings = each_more (IsPending s) (IsPending t) s.pendings (pending_grows s t grown) h.pendings;
      nodes = h.nodes;
      hobs = each_push (IsHobEntry s.board s.taken) s.hobs hob h.hobs is;
      boot_mode = h.boot_mode;
      frame = h.frame;
    }

-- a node that stands behind all HOBs is none of those that are there
is_new : (s : StoreState) (place : ℕ) → IsNodeAt s place → place ≢ next_body s
is_new s place h e = let before = body_before s.hobs handoff_len place Node h in absurd (omega (arith, before, e))

pub all_new : (s : StoreState) → IsSound s → Each (λ m. m ≢ next_body s) (four s.ppis s.callbacks s.dispatches s.pendings)
all_new s h =
    let P : ℕ → Type 0 = λ m. m ≢ next_body s in
    let of : (kind : DescKind) (entries : List Entry) → Each (IsEntry s kind) entries → Each P (map node_of entries) =
    λ kind entries each. each_to_map P node_of entries (each_more (IsEntry s kind) (λ entry. P entry.node) entries (λ entry is. is_new s entry.node is.0) each) in
    let queued : Each P (map pending_node s.pendings) =
    each_to_map P pending_node s.pendings (each_more (IsPending s) (λ pending. P pending.node) s.pendings (λ pending is. is_new s pending.node is.0) h.pendings) in
    each_append P _ _ (of Ppi s.ppis h.ppis) (each_append P _ _ (of Callback s.callbacks h.callbacks) (each_append P _ _ (of Dispatch s.dispatches h.dispatches) queued))

-- the nodes with one more in a list
more_ppis : (s : StoreState) (entry : Entry) → four (s.ppis ++ entry ∷ []) s.callbacks s.dispatches s.pendings
    ≡ map node_of s.ppis ++ entry.node ∷ (map node_of s.callbacks ++ (map node_of s.dispatches ++ map pending_node s.pendings))
more_ppis s entry = simp (map-append, append_assoc) refl

more_callbacks : (s : StoreState) (entry : Entry) → four s.ppis (s.callbacks ++ entry ∷ []) s.dispatches s.pendings
    ≡ (map node_of s.ppis ++ map node_of s.callbacks) ++ entry.node ∷ (map node_of s.dispatches ++ map pending_node s.pendings)
more_callbacks s entry = simp (map-append, append_assoc) refl

more_dispatches : (s : StoreState) (entry : Entry) → four s.ppis s.callbacks (s.dispatches ++ entry ∷ []) s.pendings
    ≡ (map node_of s.ppis ++ map node_of s.callbacks ++ map node_of s.dispatches) ++ entry.node ∷ map pending_node s.pendings
more_dispatches s entry = simp (map-append, append_assoc) refl

more_pendings : (s : StoreState) (pending : Pending) → four s.ppis s.callbacks s.dispatches (s.pendings ++ pending ∷ [])
    ≡ (map node_of s.ppis ++ map node_of s.callbacks ++ map node_of s.dispatches ++ map pending_node s.pendings) ++ pending.node ∷ []
more_pendings s pending = simp (map-append, append_assoc) refl

-- where the nodes but the new one are those that were there
put_between : (all xs ys whole : List ℕ) (n : ℕ) → all ≡ xs ++ ys → whole ≡ xs ++ n ∷ ys → Differ all → Each (λ m. m ≢ n) all → Differ whole
put_between all xs ys whole n e f h k = subst Differ (sym f) (differ_put xs ys n (subst Differ e h) (subst (λ zs. Each (λ m. m ≢ n) zs) e k))

abbrev pub IsNew : StoreState → ℕ → Type 0
IsNew s n = Each (λ m. m ≢ n) (four s.ppis s.callbacks s.dispatches s.pendings)

pub ppi_sound : (s : StoreState) (entry : Entry) → IsSound s → IsEntry s Ppi entry → IsNew s entry.node → IsSound (record s { ppis = s.ppis ++ entry ∷ [] })
ppi_sound s entry h is new = record {
  ppis = each_push (IsEntry s Ppi) s.ppis entry h.ppis is;
  callbacks = h.callbacks;
  dispatches = h.dispatches;
  pendings = h.pendings;
  nodes = put_between _ (map node_of s.ppis) (map node_of s.callbacks ++ (map node_of s.dispatches ++ map pending_node s.pendings)) _ entry.node refl (more_ppis s entry) h.nodes new;
  hobs = h.hobs;
  boot_mode = h.boot_mode;
  frame = h.frame;
}

pub callback_sound : (s : StoreState) (entry : Entry) → IsSound s → IsEntry s Callback entry → IsNew s entry.node → IsSound (record s { callbacks = s.callbacks ++ entry ∷ [] })
callback_sound s entry h is new = record {
  ppis = h.ppis;
  callbacks = each_push (IsEntry s Callback) s.callbacks entry h.callbacks is;
  dispatches = h.dispatches;
  pendings = h.pendings;
  nodes = put_between _ (map node_of s.ppis ++ map node_of s.callbacks) (map node_of s.dispatches ++ map pending_node s.pendings) _ entry.node (simp append_assoc refl) (more_callbacks s entry) h.nodes new;
  hobs = h.hobs;
  boot_mode = h.boot_mode;
  frame = h.frame;
}

pub dispatch_sound : (s : StoreState) (entry : Entry) → IsSound s → IsEntry s Dispatch entry → IsNew s entry.node → IsSound (record s { dispatches = s.dispatches ++ entry ∷ [] })
dispatch_sound s entry h is new = record {
  ppis = h.ppis;
  callbacks = h.callbacks;
  dispatches = each_push (IsEntry s Dispatch) s.dispatches entry h.dispatches is;
  pendings = h.pendings;
  nodes = put_between _ (map node_of s.ppis ++ map node_of s.callbacks ++ map node_of s.dispatches) (map pending_node s.pendings) _ entry.node (simp append_assoc refl) (more_dispatches s entry) h.nodes new;
  hobs = h.hobs;
  boot_mode = h.boot_mode;
  frame = h.frame;
}

pub pending_sound : (s : StoreState) (pending : Pending) → IsSound s → IsPending s pending → IsNew s pending.node → IsSound (record s { pendings = s.pendings ++ pending ∷ [] })
pending_sound s pending h is new = record {
  ppis = h.ppis;
  callbacks = h.callbacks;
  dispatches = h.dispatches;
  pendings = each_push (IsPending s) s.pendings pending h.pendings is;
  nodes = put_between _ (map node_of s.ppis ++ map node_of s.callbacks ++ map node_of s.dispatches ++ map pending_node s.pendings) [] _ pending.node (simp (append_assoc, append-nil) refl) (more_pendings s pending) h.nodes new;
  hobs = h.hobs;
  boot_mode = h.boot_mode;
  frame = h.frame;
}
