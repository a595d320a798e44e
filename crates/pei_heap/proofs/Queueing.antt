-- Pairs that are queued one after another, by those that are left.
use Rattle.std.proofs.Common.{◌≡◌, ◌≢◌, ◌≤◌, ◌+◌, ◌-◌, ◌*◌, ◌++◌, ◌&&◌, ℕ, suc, Bool, true, false, cond, List, [], ◌∷◌, length, drop, Option, ap, sym, refl, ◌∙◌, arith, subst, length-append, map, filter, fold, not, option_map, unwrap_or, if◌then◌else◌}
use Rattle.std.proofs.lemmas.List.Sums.{fold-append, sum_by_push}
use Rattle.phys_mem.specs.declared.memory.PhysMem.{PhysMem}
use Rattle.pi_base.specs.{declared.guid.Guid.Guid, Guids.same_guid, Lists.Each}
use Rattle.store_model.specs.{declared.state.Body.Body, declared.state.Body.TheVariants.Descriptor, declared.state.Body.TheVariants.Node}
use Rattle.store_model.specs.{declared.state.DescriptorBody.DescriptorBody, declared.state.Entry.Entry, declared.store_handle.Desc.Desc}
use Rattle.store_model.specs.{declared.store_handle.DescKind.DescKind, declared.store_handle.EntryList.EntryList}
use Rattle.store_model.specs.declared.store_handle.DescKind.TheVariants.{Ppi, Callback, Dispatch}
use Rattle.store_model.specs.declared.store_handle.EntryList.TheVariants.{Ppis, Callbacks, Dispatches, Pendings}
use Rattle.store_model.specs.StoreState.{StoreState, end_place, free, hob_len, page_bytes, pool_of}
use Rattle.store_model.specs.StateFacts.{IsDesc, IsDescriptorAt, IsEntry, IsStoreState}
use Rattle.store_model.specs.Service.Descriptor.{descriptor_in, descriptors, guid_at, is_callback, kind_at, no_guid, offsets}
use Rattle.store_model.specs.Service.Install.{install_pairs, node_need, pairs_of, with_pending, with_ppi, row_of}
use Rattle.store_model.specs.Service.Notify.{new_dispatches, notify_pairs, with_note, with_note_of}
use Rattle.store_laws.specs.{Bodies.IsGrown, Items.first_address, Items.item_of}
use Rattle.store_laws.proofs.Steps.{grown_node}
use Rattle.pei_heap.specs.{declared.heap.Heap.Heap, declared.links.heads.Heads.Heads, Linked.IsLinked, Pairs.PairsStay, Pairs.queued}
use Rattle.pei_heap.specs.Walk.{StandsAt}

-- what queueing keeps of a state
pub record Queued (s u : StoreState) (count : ℕ) : Type 0 where
  pub bodies : IsGrown s u
  pub ppis : u.ppis ≡ s.ppis
  pub dispatches : u.dispatches ≡ s.dispatches
  pub base : u.base ≡ s.base
  pub len : u.len ≡ s.len
  pub pages : page_bytes u.moved u.taken ≡ page_bytes s.moved s.taken
  pub end : end_place u ≡ end_place s + 40 * count

pub not_queued : (s : StoreState) → Queued s s 0
not_queued s = record { bodies = λ place body e. e; ppis = refl; dispatches = refl; base = refl; len = refl; pages = refl; end = omega arith }

pub queued_then : (s t u : StoreState) (m n : ℕ) → Queued s t m → Queued t u n → Queued s u (m + n)
queued_then s t u m n a b =
    let first = a.end in
    let second = b.end in
    record {
      bodies = λ place body e. b.bodies place body (a.bodies place body e);
      ppis = b.ppis ∙ a.ppis;
      dispatches = b.dispatches ∙ a.dispatches;
      base = b.base ∙ a.base;
      len = b.len ∙ a.len;
      pages = b.pages ∙ a.pages;
      end = omega (arith, first, second);
    }

one_queued : (by : ℕ) (s : StoreState) (pair : ℕ × ℕ) → Queued s (with_pending by s pair) 1
one_queued by s pair =
    let sum = sum_by_push hob_len s.hobs (pool_of Node) in
    record { bodies = grown_node s; ppis = refl; dispatches = refl; base = refl; len = refl; pages = refl; end = omega (arith, sum) }

pub all_queued : (by : ℕ) (pairs : List (ℕ × ℕ)) (s : StoreState) → Queued s (queued by s pairs) (length pairs)
all_queued by [] s = not_queued s
all_queued by (pair ∷ pairs) s =
    let t = with_pending by s pair in
    let both = queued_then s t (queued by t pairs) 1 (length pairs) (one_queued by s pair) (all_queued by pairs t) in
    let count : 1 + length pairs ≡ suc (length pairs) = omega arith in
    subst (Queued s (queued by t pairs)) count both

-- the room that is left
left_by : (len end last pages m n : ℕ) → last ≡ end + 40 * m → 40 * (m + n) ≤ len - 8 - end - pages → 40 * n ≤ len - 8 - last - pages
left_by len end last pages m n e le = omega (arith, e, le)

pub room_left : (s u : StoreState) (m n : ℕ) → Queued s u m → node_need (m + n) ≤ free s → node_need n ≤ free u
room_left s u m n q le =
    let len = q.len in
    let pages = q.pages in
    rw len (rw pages (left_by s.len (end_place s) (end_place u) (page_bytes s.moved s.taken) m n q.end le))

-- the state of a call while it queues pairs, from its first state s on: these of all its pairs are left
pub record IsLeft (heap : Heap) (memory : PhysMem) (heads : Heads) (s : StoreState) (by : ℕ) (all left : List (ℕ × ℕ)) : Type 0 where
  pub now : StoreState
  pub count : ℕ
  pub from : Queued s now count
  pub linked : IsLinked heap memory heads now
  pub same : queued by now left ≡ queued by s all
  pub room : node_need (length left) ≤ free now

pub less_left : (heap : Heap) (old new : PhysMem) (before after : Heads) (s : StoreState) (by : ℕ) (all whole piece left : List (ℕ × ℕ)) (l : IsLeft heap old before s by all whole) → whole ≡ piece ++ left
    → IsLinked heap new after (queued by l.now piece) → IsLeft heap new after s by all left
less_left heap old new before after s by all whole piece left l e h =
    let sum : length whole ≡ length piece + length left = ap length e ∙ length-append piece left in
    let q = all_queued by piece l.now in
    record {
      now = queued by l.now piece;
      count = l.count + length piece;
      from = queued_then s l.now (queued by l.now piece) l.count (length piece) l.from q;
      linked = h;
      same = sym (fold-append (with_pending by) l.now piece left) ∙ ap (queued by l.now) (sym e) ∙ l.same;
      room = room_left l.now (queued by l.now piece) (length piece) (length left) q (subst (λ n. node_need n ≤ free l.now) sum l.room);
    }

pub none_left : (heap : Heap) (memory : PhysMem) (heads : Heads) (s : StoreState) (by : ℕ) (all left : List (ℕ × ℕ)) → left ≡ [] → IsLeft heap memory heads s by all left → IsLinked heap memory heads (queued by s all)
none_left heap memory heads s by all left e l = subst (IsLinked heap memory heads) (ap (queued by l.now) (sym e) ∙ l.same) l.linked

-- a place of a list is the same in both
pub stands_on : (s u : StoreState) (list : EntryList) (count place at : ℕ) → Queued s u count → (list ≢ Callbacks) → StandsAt s list place at → StandsAt u list place at
stands_on s u Ppis count place at q other stands =
    record { entries = tt; here = stands.here ∙ ap (λ b. first_address b (drop place (map (item_of b) s.ppis))) (sym q.base) ∙ ap (λ xs. first_address u.base (drop place (map (item_of u.base) xs))) (sym q.ppis) }
stands_on s u Callbacks count place at q other stands = absurd (other refl)
stands_on s u Dispatches count place at q other stands =
    record { entries = tt; here = stands.here ∙ ap (λ b. first_address b (drop place (map (item_of b) s.dispatches))) (sym q.base) ∙ ap (λ xs. first_address u.base (drop place (map (item_of u.base) xs))) (sym q.dispatches) }
stands_on s u Pendings count place at q other stands = absurd stands.entries

-- descriptors stay
abbrev pub HasDesc : StoreState → ℕ → Type 0
HasDesc s place = IsDesc s (record { offset = place })

abbrev guid_in : Option Body → Guid
guid_in body = unwrap_or (option_map (λ (d : DescriptorBody). d.guid) (descriptor_in body)) no_guid

abbrev kind_in_body : Option Body → DescKind
kind_in_body body = unwrap_or (option_map (λ (d : DescriptorBody). d.kind) (descriptor_in body)) Dispatch

pub guid_stays : (s u : StoreState) (place : ℕ) → IsGrown s u → HasDesc s place → guid_at u place ≡ guid_at s place
guid_stays s u place grown d = ap guid_in (grown place (Descriptor d.0) d.1 ∙ sym d.1)

pub kind_stays : (s u : StoreState) (place : ℕ) → IsGrown s u → HasDesc s place → kind_at u place ≡ kind_at s place
kind_stays s u place grown d = ap kind_in_body (grown place (Descriptor d.0) d.1 ∙ sym d.1)

pub desc_stays : (s u : StoreState) (place : ℕ) → IsGrown s u → HasDesc s place → HasDesc u place
desc_stays s u place grown d = (d.0, grown place (Descriptor d.0) d.1)

pub at_stays : (s u : StoreState) (kind : DescKind) (place : ℕ) → IsGrown s u → IsDescriptorAt s kind place → IsDescriptorAt u kind place
at_stays s u kind place grown d = (d.0, grown place (Descriptor d.0) d.1, d.2)

-- one pair, or none
abbrev pub pair_if : Bool → ℕ → ℕ → List (ℕ × ℕ)
pair_if due ppi note = if due then (ppi, note) ∷ [] else []

row_on : (b : Bool) (ppi note : ℕ) (notes : List ℕ) (rest : List (ℕ × ℕ)) → map (λ (n : ℕ). (ppi, n)) notes ≡ rest → map (λ (n : ℕ). (ppi, n)) (cond b (note ∷ notes) notes) ≡ pair_if b ppi note ++ rest
row_on true ppi note notes rest e = ap (λ xs. (ppi, note) ∷ xs) e
row_on false ppi note notes rest e = e

pub row_more : (s : StoreState) (ppi note : ℕ) (notes : List ℕ) → row_of s ppi (note ∷ notes) ≡ pair_if (same_guid (guid_at s ppi) (guid_at s note)) ppi note ++ row_of s ppi notes
row_more s ppi note notes = row_on (same_guid (guid_at s ppi) (guid_at s note)) ppi note (filter (λ n. same_guid (guid_at s ppi) (guid_at s n)) notes) (row_of s ppi notes) refl

new_on : (s : StoreState) (ppi note : ℕ) (callback : Bool) (notes : List ℕ) → row_of s ppi (if not callback then note ∷ notes else notes)
    ≡ pair_if (not callback && same_guid (guid_at s ppi) (guid_at s note)) ppi note ++ row_of s ppi notes
new_on s ppi note true notes = refl
new_on s ppi note false notes = row_more s ppi note notes

pub new_more : (s : StoreState) (ppi : ℕ) (d : Desc) (list : List Desc) → row_of s ppi (new_dispatches s (d ∷ list))
    ≡ pair_if (not (is_callback (kind_at s d.offset)) && same_guid (guid_at s ppi) (guid_at s d.offset)) ppi d.offset ++ row_of s ppi (new_dispatches s list)
new_more s ppi d list = new_on s ppi d.offset (is_callback (kind_at s d.offset)) (new_dispatches s list)

-- a row is the same in both
pub row_stays : (s u : StoreState) (ppi : ℕ) (notes : List ℕ) → IsGrown s u → HasDesc s ppi → Each (HasDesc s) notes → row_of u ppi notes ≡ row_of s ppi notes
row_stays s u ppi [] grown p each = refl
row_stays s u ppi (note ∷ notes) grown p each =
    let row : Bool → List (ℕ × ℕ) → List (ℕ × ℕ) = λ b rest. pair_if b ppi note ++ rest in
    let first : same_guid (guid_at u ppi) (guid_at u note) ≡ same_guid (guid_at s ppi) (guid_at s note) =
    ap (λ g. same_guid g (guid_at u note)) (guid_stays s u ppi grown p) ∙ ap (same_guid (guid_at s ppi)) (guid_stays s u note grown each.0) in
    row_more u ppi note notes ∙ ap (λ b. row b (row_of u ppi notes)) first ∙ ap (row (same_guid (guid_at s ppi) (guid_at s note))) (row_stays s u ppi notes grown p each.1) ∙ sym (row_more s ppi note notes)

new_stays_on : (a b : Bool) (note : ℕ) (xs ys : List ℕ) → a ≡ b → xs ≡ ys → (if not a then note ∷ xs else xs) ≡ (if not b then note ∷ ys else ys)
new_stays_on a b note xs ys e f = ap (λ c. if not c then note ∷ xs else xs) e ∙ ap (λ zs. if not b then note ∷ zs else zs) f

pub new_stays : (s u : StoreState) (list : List Desc) → IsGrown s u → Each (IsDesc s) list → new_dispatches u list ≡ new_dispatches s list
new_stays s u [] grown each = refl
new_stays s u (d ∷ list) grown each =
    new_stays_on (is_callback (kind_at u d.offset)) (is_callback (kind_at s d.offset)) d.offset (new_dispatches u list) (new_dispatches s list)
    (ap is_callback (kind_stays s u d.offset grown each.0)) (new_stays s u list grown each.1)

pub pairs_stay : (s u : StoreState) (ppis notes : List ℕ) → IsGrown s u → Each (HasDesc s) ppis → Each (HasDesc s) notes → pairs_of u ppis notes ≡ pairs_of s ppis notes
pairs_stay s u [] notes grown h k = refl
pairs_stay s u (ppi ∷ ppis) notes grown h k =
    ap (λ row. row ++ pairs_of u ppis notes) (row_stays s u ppi notes grown h.0 k) ∙ ap (λ rest. row_of s ppi notes ++ rest) (pairs_stay s u ppis notes grown h.1 k)

-- descriptors of entries and of a list
pub named_descs : (s : StoreState) (kind : DescKind) (entries : List Entry) → Each (IsEntry s kind) entries → Each (HasDesc s) (descriptors entries)
named_descs s kind [] h = tt
named_descs s kind (entry ∷ entries) h = ((h.0.1.0, h.0.1.1), named_descs s kind entries h.1)

pub given_descs : (s : StoreState) (list : List Desc) → Each (IsDesc s) list → Each (HasDesc s) (offsets list)
given_descs s [] h = tt
given_descs s (d ∷ list) h = (h.0, given_descs s list h.1)

new_descs_on : (s : StoreState) (b : Bool) (place : ℕ) (places : List ℕ) → HasDesc s place → Each (HasDesc s) places → Each (HasDesc s) (if not b then place ∷ places else places)
new_descs_on s true place places h each = each
new_descs_on s false place places h each = (h, each)

pub new_descs : (s : StoreState) (list : List Desc) → Each (IsDesc s) list → Each (HasDesc s) (new_dispatches s list)
new_descs s [] h = tt
new_descs s (d ∷ list) h = new_descs_on s (is_callback (kind_at s d.offset)) d.offset (new_dispatches s list) h.0 (new_descs s list h.1)

-- the entries of a call are made
record IsMade (s t : StoreState) : Type 0 where
  bodies : IsGrown s t
  ppis : t.ppis ≡ s.ppis

ppis_made : (by : ℕ) (list : List Desc) (s : StoreState) → IsGrown s (fold (with_ppi by) s list) × (fold (with_ppi by) s list).dispatches ≡ s.dispatches
ppis_made by [] s = (λ place body e. e, refl)
ppis_made by (d ∷ list) s =
    let later = ppis_made by list (with_ppi by s d) in
    (λ place body e. later.0 place body (grown_node s place body e), later.1)

note_made : (kind : DescKind) (by : ℕ) (s : StoreState) (d : Desc) → IsMade s (with_note_of kind by s d)
note_made Ppi by s d = record { bodies = λ place body e. e; ppis = refl }
note_made Callback by s d = record { bodies = grown_node s; ppis = refl }
note_made Dispatch by s d = record { bodies = grown_node s; ppis = refl }

notes_made : (by : ℕ) (list : List Desc) (s : StoreState) → IsMade s (fold (with_note by) s list)
notes_made by [] s = record { bodies = λ place body e. e; ppis = refl }
notes_made by (d ∷ list) s =
    let first = note_made (kind_at s d.offset) by s d in
    let later = notes_made by list (with_note by s d) in
    record { bodies = λ place body e. later.bodies place body (first.bodies place body e); ppis = later.ppis ∙ first.ppis }

install_stays : (s : StoreState) (list : List Desc) (by : ℕ) → IsStoreState s → Each (IsDesc s) list → install_pairs (fold (with_ppi by) s list) list ≡ install_pairs s list
install_stays s list by h each =
    let t = fold (with_ppi by) s list in
    let made = ppis_made by list s in
    ap (λ (xs : List Entry). pairs_of t (offsets list) (descriptors xs)) made.1
    ∙ pairs_stay s t (offsets list) (descriptors s.dispatches) made.0 (given_descs s list each) (named_descs s Dispatch s.dispatches h.dispatches)

notify_stays : (s : StoreState) (list : List Desc) (by : ℕ) → IsStoreState s → Each (IsDesc s) list → notify_pairs (fold (with_note by) s list) list ≡ notify_pairs s list
notify_stays s list by h each =
    let t = fold (with_note by) s list in
    let made = notes_made by list s in
    ap (λ (xs : List Entry). pairs_of t (descriptors xs) (new_dispatches t list)) made.ppis ∙ ap (pairs_of t (descriptors s.ppis)) (new_stays s t list made.bodies each)
    ∙ pairs_stay s t (descriptors s.ppis) (new_dispatches s list) made.bodies (named_descs s Ppi s.ppis h.ppis) (new_descs s list each)

pub all_pairs_stay : PairsStay
all_pairs_stay = record { install = install_stays; notify = notify_stays }
