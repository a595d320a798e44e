-- The move keeps what holds of every state.
use Rattle.std.proofs.Common.{◌≡◌, ℕ, ◌+◌, ◌-◌, ◌%◌, ◌≤◌, ◌<◌, ◌^◌, Bool, true, false, cond, List, [], ◌∷◌, ◌++◌, length, arith, sym, refl, ap, subst, ◌∙◌, Option, Some, None, ◌==◌, sum_by, option_map, ◌||◌, ◌&&◌, if◌then◌else◌, nat_le, nat_lt}
use Rattle.std.specs.List.{list_any}
use Rattle.std.proofs.{lemmas.Bool.Decides.nat_tests, lemmas.List.Sums.sum_by-cons}
use Rattle.boot_plan.specs.declared.limits.TheConstants.{MOST_END}
use Rattle.hob_codec.specs.declared.kind.TheConstants.{POOL, ALLOCATION}
use Rattle.pi_base.specs.Lists.{Each}
use Rattle.pi_base.proofs.ListFacts.{each_both, each_more}
use Rattle.store_model.specs.{declared.store_handle.DescKind.DescKind, declared.state.Entry.Entry, declared.state.Pending.Pending}
use Rattle.store_model.specs.declared.store_handle.DescKind.TheVariants.{Ppi, Callback, Dispatch}
use Rattle.store_model.specs.{declared.state.DescriptorBody.DescriptorBody, declared.state.Body.Body, declared.state.HobEntry.HobEntry}
use Rattle.store_model.specs.declared.state.Body.TheVariants.{Bytes, Descriptor, Node, Allocation}
use Rattle.store_model.specs.{HeapImage.descriptor_bytes, Service.Descriptor.is_named, Service.Descriptor.descriptors}
use Rattle.store_model.specs.StoreState.{Board, StoreState, Range, body_from, body_len, handoff_len, header_len, hob_len}
use Rattle.store_model.specs.StateFacts.{HasTypesLength, IsBoard, IsBodyOf, IsDescriptorAt, IsEntry, IsGuidOf, IsHeap, IsHobEntry, IsNodeAt, IsNumberOf, IsPending, IsPlanned}
use Rattle.store_model.specs.Migration.{migrated_to, moved_body, moved_descriptor, moved_hobs, moved_value}
use Rattle.store_laws.specs.Fitting.{IsFittingDescriptor}
use Rattle.store_laws.proofs.{Guids.descriptor_fits, Sound.IsSound}

-- a body keeps its length
descriptor_moves : (s : StoreState) (to : Range) (place : ℕ) (d : DescriptorBody) (b : Bool) → IsFittingDescriptor d
    → body_len (if b then Descriptor (moved_descriptor s to d) else Bytes (descriptor_bytes s.base place d)) ≡ body_len (Descriptor d)
descriptor_moves s to place d true is = refl
descriptor_moves s to place d false is = is.spelled s.base place

pub moved_len : (s : StoreState) (to : Range) (place kind : ℕ) (body : Body) → IsBoard s.board → IsBodyOf s.board s.taken kind body → body_len (moved_body s to place body) ≡ body_len body
moved_len s to place kind (Bytes bytes) board h = refl
moved_len s to place kind (Descriptor d) board h = descriptor_moves s to place d (is_named s place) (descriptor_fits s.board s.taken kind d board h)
moved_len s to place kind Node board h = refl
moved_len s to place kind (Allocation a) board h = refl

abbrev AreHobs : StoreState → List HobEntry → Type 0
AreHobs s hobs = Each (IsHobEntry s.board s.taken) hobs

-- the body at a place of the moved HOBs
at_on : (s : StoreState) (to : Range) (hob : HobEntry) (hobs : List HobEntry) (at place : ℕ) (b : Bool) → (at + 8 == place) ≡ b → body_len (moved_body s to (at + 8) hob.body) ≡ body_len hob.body
    → body_from (at + hob_len hob) (moved_hobs s to (at + hob_len hob) hobs) place ≡ option_map (moved_body s to place) (body_from (at + hob_len hob) hobs place)
    → cond b (Some (moved_body s to (at + 8) hob.body)) (body_from (at + hob_len (record hob { body = moved_body s to (at + 8) hob.body })) (moved_hobs s to (at + hob_len hob) hobs) place)
    ≡ option_map (moved_body s to place) (cond b (Some hob.body) (body_from (at + hob_len hob) hobs place))
at_on s to hob hobs at place true e long rest = let here : at + 8 ≡ place = grind (arith, nat_tests, e) in ap (λ n. Some (moved_body s to n hob.body)) here
at_on s to hob hobs at place false e long rest = ap (λ n. body_from (at + (8 + n)) (moved_hobs s to (at + hob_len hob) hobs) place) long ∙ rest

pub moved_at : (s : StoreState) (to : Range) (hobs : List HobEntry) (at place : ℕ) → IsBoard s.board → AreHobs s hobs
    → body_from at (moved_hobs s to at hobs) place ≡ option_map (moved_body s to place) (body_from at hobs place)
moved_at s to [] at place board h = refl
moved_at s to (hob ∷ hobs) at place board h =
    at_on s to hob hobs at place (at + 8 == place) refl (moved_len s to (at + 8) hob.kind hob.body board h.0.body) (moved_at s to hobs (at + hob_len hob) place board h.1)

-- a node, and a descriptor that is named
node_moves : (s : StoreState) (to : Range) → IsBoard s.board → AreHobs s s.hobs → (place : ℕ) → IsNodeAt s place → IsNodeAt (migrated_to s to) place
node_moves s to board are place h = moved_at s to s.hobs handoff_len place board are ∙ ap (option_map (moved_body s to place)) h

named_moves : (s : StoreState) (to : Range) → IsBoard s.board → AreHobs s s.hobs → (kind : DescKind) (place : ℕ) → IsDescriptorAt s kind place → is_named s place ≡ true → IsDescriptorAt (migrated_to s to) kind place
named_moves s to board are kind place h named =
    let here : moved_body s to place (Descriptor h.0) ≡ Descriptor (moved_descriptor s to h.0) = ap (λ b. if b then Descriptor (moved_descriptor s to h.0) else Bytes (descriptor_bytes s.base place h.0)) named in
    (moved_descriptor s to h.0, moved_at s to s.hobs handoff_len place board are ∙ ap (option_map (moved_body s to place)) h.1 ∙ ap Some here, h.2)

-- each entry and each queued pair names its descriptors
or_left : (a b : Bool) → a ≡ true → (a || b) ≡ true
or_left true b e = refl
or_left false b e = cc

or_right : (a b : Bool) → b ≡ true → (a || b) ≡ true
or_right true b e = refl
or_right false b e = e

any_on : (a b c : Bool) → (a || b) ≡ true → (b ≡ true → c ≡ true) → (a || c) ≡ true
any_on true b c h f = refl
any_on false b c h f = f h

any_left : (p : ℕ → Bool) (xs ys : List Entry) → list_any p (descriptors xs) ≡ true → list_any p (descriptors (xs ++ ys)) ≡ true
any_left p [] ys h = cc
any_left p (x ∷ xs) ys h = any_on (p x.descriptor) (list_any p (descriptors xs)) (list_any p (descriptors (xs ++ ys))) h (any_left p xs ys)

any_right : (p : ℕ → Bool) (xs ys : List Entry) → list_any p (descriptors ys) ≡ true → list_any p (descriptors (xs ++ ys)) ≡ true
any_right p [] ys h = h
any_right p (x ∷ xs) ys h = or_right (p x.descriptor) _ (any_right p xs ys h)

itself : (n : ℕ) → (n == n) ≡ true
itself n = grind (arith, nat_tests)

each_names : (xs : List Entry) → Each (λ (entry : Entry). list_any (λ named. named == entry.descriptor) (descriptors xs) ≡ true) xs
each_names [] = tt
each_names (x ∷ xs) = (
  or_left (x.descriptor == x.descriptor) _ (itself x.descriptor),
  each_more (λ (entry : Entry). list_any (λ named. named == entry.descriptor) (descriptors xs) ≡ true) (λ (entry : Entry). list_any (λ named. named == entry.descriptor) (descriptors (x ∷ xs)) ≡ true) xs
      (λ entry h. or_right (x.descriptor == entry.descriptor) _ h) (each_names xs),
)

pending_names : (xs : List Pending) → Each (λ (pending : Pending). (list_any (λ q. q.descriptor == pending.descriptor || q.ppi == pending.descriptor) xs ≡ true) × (list_any (λ q. q.descriptor == pending.ppi || q.ppi == pending.ppi) xs ≡ true)) xs
pending_names [] = tt
pending_names (x ∷ xs) = (
  (or_left _ _ (or_left (x.descriptor == x.descriptor) (x.ppi == x.descriptor) (itself x.descriptor)), or_left _ _ (or_right (x.descriptor == x.ppi) (x.ppi == x.ppi) (itself x.ppi))),
  each_more (λ (pending : Pending). (list_any (λ q. q.descriptor == pending.descriptor || q.ppi == pending.descriptor) xs ≡ true) × (list_any (λ q. q.descriptor == pending.ppi || q.ppi == pending.ppi) xs ≡ true))
      (λ (pending : Pending). (list_any (λ q. q.descriptor == pending.descriptor || q.ppi == pending.descriptor) (x ∷ xs) ≡ true) × (list_any (λ q. q.descriptor == pending.ppi || q.ppi == pending.ppi) (x ∷ xs) ≡ true)) xs
      (λ pending h. (or_right (x.descriptor == pending.descriptor || x.ppi == pending.descriptor) _ h.0, or_right (x.descriptor == pending.ppi || x.ppi == pending.ppi) _ h.1)) (pending_names xs),
)

abbrev AllNamed : StoreState → List Entry → Type 0
AllNamed s entries = Each (λ (entry : Entry). is_named s entry.descriptor ≡ true) entries

ppis_named : (s : StoreState) → AllNamed s s.ppis
ppis_named s = each_more (λ (entry : Entry). list_any (λ named. named == entry.descriptor) (descriptors s.ppis) ≡ true) (λ (entry : Entry). is_named s entry.descriptor ≡ true) s.ppis
    (λ entry h. or_left _ _ (any_left (λ named. named == entry.descriptor) (s.ppis ++ s.callbacks) s.dispatches (any_left (λ named. named == entry.descriptor) s.ppis s.callbacks h))) (each_names s.ppis)

callbacks_named : (s : StoreState) → AllNamed s s.callbacks
callbacks_named s = each_more (λ (entry : Entry). list_any (λ named. named == entry.descriptor) (descriptors s.callbacks) ≡ true) (λ (entry : Entry). is_named s entry.descriptor ≡ true) s.callbacks
    (λ entry h. or_left _ _ (any_left (λ named. named == entry.descriptor) (s.ppis ++ s.callbacks) s.dispatches (any_right (λ named. named == entry.descriptor) s.ppis s.callbacks h))) (each_names s.callbacks)

dispatches_named : (s : StoreState) → AllNamed s s.dispatches
dispatches_named s = each_more (λ (entry : Entry). list_any (λ named. named == entry.descriptor) (descriptors s.dispatches) ≡ true) (λ (entry : Entry). is_named s entry.descriptor ≡ true) s.dispatches
    (λ entry h. or_left _ _ (any_right (λ named. named == entry.descriptor) (s.ppis ++ s.callbacks) s.dispatches h)) (each_names s.dispatches)

pendings_named : (s : StoreState) → Each (λ (pending : Pending). (is_named s pending.descriptor ≡ true) × (is_named s pending.ppi ≡ true)) s.pendings
pendings_named s = each_more (λ (pending : Pending). (list_any (λ q. q.descriptor == pending.descriptor || q.ppi == pending.descriptor) s.pendings ≡ true) × (list_any (λ q. q.descriptor == pending.ppi || q.ppi == pending.ppi) s.pendings ≡ true))
    (λ (pending : Pending). (is_named s pending.descriptor ≡ true) × (is_named s pending.ppi ≡ true)) s.pendings
    (λ pending h. (
      or_right (list_any (λ named. named == pending.descriptor) (descriptors (s.ppis ++ s.callbacks ++ s.dispatches))) _ h.0,
      or_right (list_any (λ named. named == pending.ppi) (descriptors (s.ppis ++ s.callbacks ++ s.dispatches))) _ h.1,
    )) (pending_names s.pendings)

-- a number that moves fits where it did
pub record IsWay (s : StoreState) (to : Range) : Type 0 where
  pub heap : to.base + s.len < 2 ^ 64
  pub end : to.base + to.len < 2 ^ 64

number_on : (base len page_end to_base to_len n : ℕ) (a b : Bool) → (nat_le base n && nat_lt n (base + len)) ≡ a → to_base + len < 2 ^ 64 → to_base + to_len < 2 ^ 64 → n < 2 ^ 64
    → cond a (n - base + to_base) (cond b (to_base + to_len - (page_end - n)) n) < 2 ^ 64
number_on base len page_end to_base to_len n true b e f g k = let less : n < base + len = grind (arith, nat_tests, e) in omega (arith, less, f)
number_on base len page_end to_base to_len n false true e f g k = omega (arith, g)
number_on base len page_end to_base to_len n false false e f g k = k

number_moves : (s : StoreState) (to : Range) (kind : DescKind) (n : ℕ) → IsWay s to → IsNumberOf kind n → IsNumberOf kind (moved_value s to kind n)
number_moves s to Ppi n way h =
    number_on s.base s.len s.page_end to.base to.len n (nat_le s.base n && nat_lt n (s.base + s.len)) (nat_le (s.page_end - s.board.pages) n && nat_lt n s.page_end) refl way.heap way.end h
number_moves s to Callback n way h = h
number_moves s to Dispatch n way h = h

pool_is_none : (kind : ℕ) → kind ≡ POOL → kind ≡ ALLOCATION → ⊥
pool_is_none kind pool allocation = absurd (omega (arith, pool, allocation))

-- only the GUID of a descriptor matters to where it stands
guid_moves : (board : Board) (new old : DescriptorBody) → new.guid ≡ old.guid → (stands : Option ℕ) → IsGuidOf board old stands → IsGuidOf board new stands
guid_moves board new old same None h = ap (λ g. length g.0) same ∙ h
guid_moves board new old same (Some address) h = h ∙ ap (λ g. Some g.0) (sym same)

descriptor_body : (s : StoreState) (to : Range) (kind place : ℕ) (d : DescriptorBody) (b : Bool) → IsWay s to → IsBodyOf s.board s.taken kind (Descriptor d)
    → IsBodyOf s.board s.taken kind (if b then Descriptor (moved_descriptor s to d) else Bytes (descriptor_bytes s.base place d))
descriptor_body s to kind place d true way h = (h.0, guid_moves s.board (moved_descriptor s to d) d refl d.stands h.1, number_moves s to d.kind d.number way h.2)
descriptor_body s to kind place d false way h = pool_is_none kind h.0

body_moves : (s : StoreState) (to : Range) (kind place : ℕ) (body : Body) → IsWay s to → IsBodyOf s.board s.taken kind body → IsBodyOf s.board s.taken kind (moved_body s to place body)
body_moves s to kind place (Bytes bytes) way h = h
body_moves s to kind place (Descriptor d) way h = descriptor_body s to kind place d (is_named s place) way h
body_moves s to kind place Node way h = h
body_moves s to kind place (Allocation a) way h = h

hob_moves : (s : StoreState) (to : Range) (place : ℕ) (hob : HobEntry) → IsBoard s.board → IsWay s to → IsHobEntry s.board s.taken hob
    → IsHobEntry s.board s.taken (record hob { body = moved_body s to place hob.body })
hob_moves s to place hob board way h =
    let long = moved_len s to place hob.kind hob.body board h.body in
    let whole : header_len + body_len (moved_body s to place hob.body) ≡ hob_len hob = ap (λ n. header_len + n) long in
    let most = h.len in
    record {
      kind = h.kind;
      not_handoff = h.not_handoff;
      not_end = h.not_end;
      len = omega (arith, whole, most);
      aligned = ap (λ n. n % 8) whole ∙ h.aligned;
      typed = subst (HasTypesLength hob.kind) (sym long) h.typed;
      body = body_moves s to hob.kind place hob.body way h.body;
    }

hobs_move : (s : StoreState) (to : Range) (hobs : List HobEntry) (at : ℕ) → IsBoard s.board → IsWay s to → AreHobs s hobs → AreHobs s (moved_hobs s to at hobs)
hobs_move s to [] at board way h = tt
hobs_move s to (hob ∷ hobs) at board way h = (hob_moves s to (at + 8) hob board way h.0, hobs_move s to hobs (at + hob_len hob) board way h.1)

pub sum_moved : (s : StoreState) (to : Range) (hobs : List HobEntry) (at : ℕ) → IsBoard s.board → AreHobs s hobs → sum_by hob_len (moved_hobs s to at hobs) ≡ sum_by hob_len hobs
sum_moved s to [] at board h = refl
sum_moved s to (hob ∷ hobs) at board h =
    let new : HobEntry = record hob { body = moved_body s to (at + 8) hob.body } in
    let size : hob_len new ≡ hob_len hob = ap (λ n. 8 + n) (moved_len s to (at + 8) hob.kind hob.body board h.0.body) in
    let rest = sum_moved s to hobs (at + hob_len hob) board h.1 in
    sum_by-cons hob_len new (moved_hobs s to (at + hob_len hob) hobs) ∙ ap (λ n. n + sum_by hob_len (moved_hobs s to (at + hob_len hob) hobs)) size ∙ ap (λ n. hob_len hob + n) rest ∙ sym (sum_by-cons hob_len hob hobs)

pub way_of : (s : StoreState) (to : Range) → IsBoard s.board → IsPlanned s.board to → IsHeap s false → IsWay s to
way_of s to board plan heap =
    let end : s.board.ram.base + s.board.ram.len ≤ MOST_END = board.ram_end in
    let long = heap.1 in
    record { heap = omega (arith, end, plan.1, plan.2, long); end = omega (arith, end, plan.1) }

pub migrated_sound : (s : StoreState) (to : Range) → IsSound s → s.planned ≡ Some to → IsWay s to → IsSound (migrated_to s to)
migrated_sound s to h planned way =
    let t = migrated_to s to in
    let board = h.frame.board in
    let named : (kind : DescKind) (place : ℕ) → IsDescriptorAt s kind place → is_named s place ≡ true → IsDescriptorAt t kind place = named_moves s to board h.hobs in
    let node : (place : ℕ) → IsNodeAt s place → IsNodeAt t place = node_moves s to board h.hobs in
    let entries : (kind : DescKind) (xs : List Entry) → Each (IsEntry s kind) xs → AllNamed s xs → Each (IsEntry t kind) xs =
    λ kind xs each names. each_more (λ entry. (IsEntry s kind entry × (is_named s entry.descriptor ≡ true))) (IsEntry t kind) xs
    (λ entry x. (node entry.node x.0.0, named kind entry.descriptor x.0.1 x.1, x.0.2))
    (each_both (IsEntry s kind) (λ (entry : Entry). is_named s entry.descriptor ≡ true) xs each names) in
    record {
      ppis = entries Ppi s.ppis h.ppis (ppis_named s);
      callbacks = entries Callback s.callbacks h.callbacks (callbacks_named s);
      dispatches = entries Dispatch s.dispatches h.dispatches (dispatches_named s);
      pendings = each_more (λ pending. (IsPending s pending × ((is_named s pending.descriptor ≡ true) × (is_named s pending.ppi ≡ true)))) (IsPending t) s.pendings
          (λ pending x. (node pending.node x.0.0, named Dispatch pending.descriptor x.0.1 x.1.0, named Ppi pending.ppi x.0.2 x.1.1, x.0.3))
          (each_both (IsPending s) (λ (pending : Pending). (is_named s pending.descriptor ≡ true) × (is_named s pending.ppi ≡ true)) s.pendings h.pendings (pendings_named s));
      nodes = h.nodes;
      hobs = hobs_move s to s.hobs handoff_len board way h.hobs;
      boot_mode = h.boot_mode;
      frame = record { pages = tt; board = board; planned = h.frame.planned; heap = (planned, refl) };
    }
