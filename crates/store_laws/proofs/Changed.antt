-- What holds of every state is kept where bytes are written into a pool, and where the first queued pair leaves the queue.
use Rattle.std.proofs.Common.{◌≡◌, ◌≢◌, ℕ, ◌+◌, ◌≤◌, ◌%◌, List, ◌∷◌, ◌++◌, length, take, drop, arith, sym, refl, ap, subst, ◌∙◌, Some, append_assoc, length-append, length-take, length-drop, map}
use Rattle.hob_codec.specs.declared.kind.TheConstants.{POOL, ALLOCATION}
use Rattle.pi_base.specs.Lists.{Each}
use Rattle.pi_base.proofs.ListFacts.{each_both, each_more, each_of_map}
use Rattle.store_model.specs.{declared.store_handle.DescKind.DescKind, declared.store_handle.Pool.Pool, declared.state.Entry.Entry}
use Rattle.store_model.specs.declared.store_handle.DescKind.TheVariants.{Ppi, Callback, Dispatch}
use Rattle.store_model.specs.{declared.state.Pending.Pending, declared.state.Body.Body, declared.state.HobEntry.HobEntry}
use Rattle.store_model.specs.declared.state.Body.TheVariants.{Bytes, Descriptor, Node}
use Rattle.store_model.specs.StoreState.{Board, StoreState, body_at, body_len, handoff_len, header_len, hob_len, with_body}
use Rattle.store_model.specs.StateFacts.{HasTypesLength, IsBodyOf, IsDescriptorAt, IsEntry, IsHobEntry, IsNodeAt, IsPending, IsPool}
use Rattle.store_model.specs.{Service.Pool.written, Service.Queue.zeroed}
use Rattle.store_laws.specs.Bodies.{changed}
use Rattle.store_laws.proofs.Items.{differ_from, each_left, each_right, ordered_drop}
use Rattle.store_laws.proofs.Bodies.{each_changed, elsewhere}
use Rattle.store_laws.proofs.Sound.{Differ, IsSound, four, node_of, pending_node}

-- a node and a descriptor elsewhere
node_stays : (change : Body → Body) (s : StoreState) (p : ℕ) (body : Body) → body_at s p ≡ Some body → body_len (change body) ≡ body_len body → (place : ℕ) → place ≢ p → IsNodeAt s place → IsNodeAt (changed change s p) place
node_stays change s p body found len place other is = elsewhere change s.hobs handoff_len p place body found len other ∙ is

descriptor_stays : (change : Body → Body) (s : StoreState) (p : ℕ) (body : Body) → body_at s p ≡ Some body → body_len (change body) ≡ body_len body → (kind : DescKind) (place : ℕ) → place ≢ p → IsDescriptorAt s kind place → IsDescriptorAt (changed change s p) kind place
descriptor_stays change s p body found len kind place other is = (is.0, elsewhere change s.hobs handoff_len p place body found len other ∙ is.1, is.2)

-- a place of another body is another
node_at_bytes : (s : StoreState) (p place : ℕ) (bytes : List ℕ) → body_at s p ≡ Some (Bytes bytes) → IsNodeAt s place → place ≢ p
node_at_bytes s p place bytes found is e = let same : body_at s p ≡ Some Node = subst (λ n. body_at s n ≡ Some Node) e is in cc

descriptor_at_bytes : (s : StoreState) (kind : DescKind) (p place : ℕ) (bytes : List ℕ) → body_at s p ≡ Some (Bytes bytes) → IsDescriptorAt s kind place → place ≢ p
descriptor_at_bytes s kind p place bytes found is e = let same : body_at s p ≡ Some (Descriptor is.0) = subst (λ n. body_at s n ≡ Some (Descriptor is.0)) e is.1 in cc

descriptor_at_node : (s : StoreState) (kind : DescKind) (p place : ℕ) → IsNodeAt s p → IsDescriptorAt s kind place → place ≢ p
descriptor_at_node s kind p place found is e = let same : body_at s p ≡ Some (Descriptor is.0) = subst (λ n. body_at s n ≡ Some (Descriptor is.0)) e is.1 in cc

pub written_len : (at : ℕ) (bytes old : List ℕ) → at + length bytes ≤ length old → length (take at old ++ bytes ++ drop (at + length bytes) old) ≡ length old
written_len at bytes old le = grind (arith, length-append, length-take, length-drop, le)

-- a body of bytes, as long as what stood there
bytes_entry : (board : Board) (taken : ℕ) (hob : HobEntry) (old new : Body) (bytes : List ℕ) → hob.body ≡ old → new ≡ Bytes bytes → length bytes ≡ body_len old → hob.kind ≢ ALLOCATION
    → IsHobEntry board taken hob → IsHobEntry board taken (record hob { body = new })
bytes_entry board taken hob old new bytes is then long kind h =
    let size : body_len new ≡ body_len hob.body = ap body_len then ∙ long ∙ sym (ap body_len is) in
    let whole : hob_len (record hob { body = new }) ≡ hob_len hob = ap (λ n. header_len + n) size in
    let most = h.len in
    record {
      kind = h.kind;
      not_handoff = h.not_handoff;
      not_end = h.not_end;
      len = omega (arith, whole, most);
      aligned = ap (λ n. n % 8) whole ∙ h.aligned;
      typed = subst (HasTypesLength hob.kind) (sym size) h.typed;
      body = subst (IsBodyOf board taken hob.kind) (sym then) kind;
    }

bytes_kind : (board : Board) (taken : ℕ) (hob : HobEntry) (old : List ℕ) → hob.body ≡ Bytes old → IsHobEntry board taken hob → hob.kind ≢ ALLOCATION
bytes_kind board taken hob old e is = subst (IsBodyOf board taken hob.kind) e is.body

node_kind : (board : Board) (taken : ℕ) (hob : HobEntry) → hob.body ≡ Node → IsHobEntry board taken hob → hob.kind ≢ ALLOCATION
node_kind board taken hob e is kind = let pool : hob.kind ≡ POOL = subst (IsBodyOf board taken hob.kind) e is.body in absurd (omega (arith, pool, kind))

pub written_sound : (s : StoreState) (to : Pool) (at : ℕ) (bytes : List ℕ) → IsSound s → IsPool s to → at + length bytes ≤ to.size → IsSound (changed (written at bytes) s to.offset)
written_sound s to at bytes h is fits =
    let t = changed (written at bytes) s to.offset in
    let old = is.0 in
    let found = is.1 in
    let len : body_len (written at bytes (Bytes old)) ≡ length old = written_len at bytes old (omega (arith, fits, is.2)) in
    let node : (place : ℕ) → IsNodeAt s place → IsNodeAt t place = λ place n. node_stays (written at bytes) s to.offset (Bytes old) found len place (node_at_bytes s to.offset place old found n) n in
    let descriptor : (kind : DescKind) (place : ℕ) → IsDescriptorAt s kind place → IsDescriptorAt t kind place =
    λ kind place d. descriptor_stays (written at bytes) s to.offset (Bytes old) found len kind place (descriptor_at_bytes s kind to.offset place old found d) d in
    let entries : (kind : DescKind) (xs : List Entry) → Each (IsEntry s kind) xs → Each (IsEntry t kind) xs =
    λ kind xs each. each_more (IsEntry s kind) (IsEntry t kind) xs (λ entry e. (node entry.node e.0, descriptor kind entry.descriptor e.1, e.2)) each in
    record {
      ppis = entries Ppi s.ppis h.ppis;
      callbacks = entries Callback s.callbacks h.callbacks;
      dispatches = entries Dispatch s.dispatches h.dispatches;
      pendings = each_more (IsPending s) (IsPending t) s.pendings (λ pending e. (node pending.node e.0, descriptor Dispatch pending.descriptor e.1, descriptor Ppi pending.ppi e.2, e.3)) h.pendings;
      nodes = h.nodes;
      hobs = each_changed (IsHobEntry s.board s.taken) (written at bytes) s.hobs handoff_len to.offset (Bytes old) found
          (λ hob e is. bytes_entry s.board s.taken hob (Bytes old) (written at bytes hob.body) _ e (ap (written at bytes) e) len (λ kind. bytes_kind s.board s.taken hob old e is kind) is) h.hobs;
      boot_mode = h.boot_mode;
      frame = h.frame;
    }

-- the state without its first queued pair
abbrev pub without_first : StoreState → ℕ → List Pending → StoreState
without_first s p rest = record s { hobs = with_body zeroed handoff_len s.hobs p; pendings = rest }

split : (ppis callbacks dispatches : List Entry) (first : Pending) (rest : List Pending)
    → four ppis callbacks dispatches (first ∷ rest) ≡ (map node_of ppis ++ map node_of callbacks ++ map node_of dispatches) ++ first.node ∷ map pending_node rest
split ppis callbacks dispatches first rest = simp append_assoc refl

joined : (ppis callbacks dispatches : List Entry) (rest : List Pending)
    → (map node_of ppis ++ map node_of callbacks ++ map node_of dispatches) ++ map pending_node rest ≡ four ppis callbacks dispatches rest
joined ppis callbacks dispatches rest = simp append_assoc refl

pub popped_sound : (s : StoreState) (first : Pending) (rest : List Pending) → IsSound s → s.pendings ≡ first ∷ rest → IsSound (without_first s first.node rest)
popped_sound s first rest h e =
    let p = first.node in
    let t = without_first s p rest in
    let queued : Each (IsPending s) (first ∷ rest) = subst (λ xs. Each (IsPending s) xs) e h.pendings in
    let found : IsNodeAt s p = queued.0.0 in
    let front = map node_of s.ppis ++ map node_of s.callbacks ++ map node_of s.dispatches in
    let nodes : Differ (front ++ p ∷ map pending_node rest) = subst Differ (split s.ppis s.callbacks s.dispatches first rest) (subst (λ xs. Differ (four s.ppis s.callbacks s.dispatches xs)) e h.nodes) in
    let others : Each (λ m. m ≢ p) (front ++ map pending_node rest) = differ_from front (map pending_node rest) p nodes in
    let here : Each (λ m. m ≢ p) front = each_left (λ m. m ≢ p) front (map pending_node rest) others in
    let firsts : Each (λ m. m ≢ p) (map node_of s.ppis ++ map node_of s.callbacks) = each_left (λ m. m ≢ p) (map node_of s.ppis ++ map node_of s.callbacks) (map node_of s.dispatches) here in
    let entries : (kind : DescKind) (xs : List Entry) → Each (λ m. m ≢ p) (map node_of xs) → Each (IsEntry s kind) xs → Each (IsEntry t kind) xs =
    λ kind xs apart each. each_more (λ entry. (IsEntry s kind entry × (entry.node ≢ p))) (IsEntry t kind) xs
    (λ entry x. (node_stays zeroed s p Node found refl entry.node x.1 x.0.0, descriptor_stays zeroed s p Node found refl kind entry.descriptor (descriptor_at_node s kind p entry.descriptor found x.0.1) x.0.1, x.0.2))
    (each_both (IsEntry s kind) (λ (entry : Entry). entry.node ≢ p) xs each (each_of_map (λ m. m ≢ p) node_of xs apart)) in
    record {
      ppis = entries Ppi s.ppis (each_left (λ m. m ≢ p) (map node_of s.ppis) (map node_of s.callbacks) firsts) h.ppis;
      callbacks = entries Callback s.callbacks (each_right (λ m. m ≢ p) (map node_of s.ppis) (map node_of s.callbacks) firsts) h.callbacks;
      dispatches = entries Dispatch s.dispatches (each_right (λ m. m ≢ p) (map node_of s.ppis ++ map node_of s.callbacks) (map node_of s.dispatches) here) h.dispatches;
      pendings = each_more (λ pending. (IsPending s pending × (pending.node ≢ p))) (IsPending t) rest
          (λ pending x. (
            node_stays zeroed s p Node found refl pending.node x.1 x.0.0,
            descriptor_stays zeroed s p Node found refl Dispatch pending.descriptor (descriptor_at_node s Dispatch p pending.descriptor found x.0.1) x.0.1,
            descriptor_stays zeroed s p Node found refl Ppi pending.ppi (descriptor_at_node s Ppi p pending.ppi found x.0.2) x.0.2,
            x.0.3,
          ))
          (each_both (IsPending s) (λ (pending : Pending). pending.node ≢ p) rest queued.1 (each_of_map (λ m. m ≢ p) pending_node rest (each_right (λ m. m ≢ p) front (map pending_node rest) others)));
      nodes = subst Differ (joined s.ppis s.callbacks s.dispatches rest) (ordered_drop (λ a b. a ≢ b) front (map pending_node rest) p nodes);
      hobs = each_changed (IsHobEntry s.board s.taken) zeroed s.hobs handoff_len p Node found
          (λ hob e is. bytes_entry s.board s.taken hob Node (zeroed hob.body) _ e refl refl (λ kind. node_kind s.board s.taken hob e is kind) is) h.hobs;
      boot_mode = h.boot_mode;
      frame = h.frame;
    }
