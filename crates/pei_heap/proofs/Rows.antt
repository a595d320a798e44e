-- The next pair of a row, and of the rows of several PPIs.
use Rattle.std.proofs.Common.{◌≡◌, ◌≢◌, ◌≤◌, ◌+◌, ◌*◌, ◌++◌, ◌&&◌, ℕ, zero, suc, Bool, true, false, List, [], ◌∷◌, length, drop, ap, sym, refl, ◌∙◌, arith, length-append, map, not, ◌||◌, if◌then◌else◌}
use Rattle.std.specs.List.{list_any}
use Rattle.phys_mem.specs.declared.memory.PhysMem.{PhysMem}
use Rattle.pi_base.specs.{declared.guid.Guid.Guid, Guids.same_guid, Lists.Each}
use Rattle.store_model.specs.{declared.state.Entry.Entry, declared.store_handle.Desc.Desc, declared.store_handle.DescKind.DescKind}
use Rattle.store_model.specs.declared.store_handle.DescKind.TheVariants.{Ppi, Callback, Dispatch}
use Rattle.store_model.specs.declared.store_handle.EntryList.TheVariants.{Ppis, Callbacks, Dispatches, Pendings}
use Rattle.store_model.specs.{StoreState.StoreState, StoreState.free, Service.Notify.new_dispatches}
use Rattle.store_model.specs.StateFacts.{IsDesc, IsDescriptorAt, IsEntry, IsStoreState}
use Rattle.store_model.specs.Service.Descriptor.{descriptors, guid_at, is_callback, is_ppi, kind_at, offsets}
use Rattle.store_model.specs.Service.Install.{node_need, pairs_of, row_of}
use Rattle.store_laws.specs.{Bodies.IsGrown, Items.first_address, Items.item_of}
use Rattle.store_laws.proofs.Lists.{each_behind}
use Rattle.pei_heap.specs.{declared.heap.Heap.Heap, declared.links.heads.Heads.Heads, declared.links.walk.Met.Met, NewEntry.IsReady}
use Rattle.pei_heap.specs.Walk.{IsMetAt, StandsAt}
use Rattle.pei_heap.proofs.Queueing.{HasDesc, IsLeft, Queued, at_stays, desc_stays, guid_stays, kind_stays, named_descs, new_descs, new_more, new_stays, pair_if, row_more, row_stays}
use Rattle.pei_heap.proofs.Descriptors.{kind_of_state}

-- a dispatch notification that is met while pairs are queued is one of the first state
pub record RowAt (s : StoreState) (ppi place : ℕ) (met : Met) (due : Bool) : Type 0 where
  pub note_is : IsDescriptorAt s Dispatch met.entry.descriptor
  pub next : StandsAt s Dispatches (place + 1) met.next
  pub split : row_of s ppi (descriptors (drop place s.dispatches)) ≡ pair_if due ppi met.entry.descriptor ++ row_of s ppi (descriptors (drop (place + 1) s.dispatches))

pub row_at : (s now : StoreState) (count ppi place : ℕ) (guid : Guid) (met : Met) (due : Bool) → IsStoreState s → Queued s now count → HasDesc s ppi → guid ≡ guid_at s ppi
    → IsMetAt now Dispatches place met → due ≡ same_guid guid (guid_at now met.entry.descriptor) → RowAt s ppi place met due
row_at s now count ppi place guid met due h q p g is e =
    let rest : drop place s.dispatches ≡ met.entry ∷ drop (place + 1) s.dispatches =
    ap (drop place) (sym q.dispatches) ∙ is.rest ∙ ap (λ xs. met.entry ∷ drop (place + 1) xs) q.dispatches in
    let entry = each_behind (IsEntry s Dispatch) s.dispatches (drop (place + 1) s.dispatches) place met.entry h.dispatches rest in
    let note : HasDesc s met.entry.descriptor = (entry.1.0, entry.1.1) in
    let same : due ≡ same_guid (guid_at s ppi) (guid_at s met.entry.descriptor) =
    e ∙ ap (λ x. same_guid x (guid_at now met.entry.descriptor)) g ∙ ap (same_guid (guid_at s ppi)) (guid_stays s now met.entry.descriptor q.bodies note) in
    record {
      note_is = entry.1;
      next = record {
        entries = tt;
        here = is.next.here ∙ ap (λ b. first_address b (drop (place + 1) (map (item_of b) now.dispatches))) q.base ∙ ap (λ xs. first_address s.base (drop (place + 1) (map (item_of s.base) xs))) q.dispatches;
      };
      split = ap (λ xs. row_of s ppi (descriptors xs)) rest ∙ row_more s ppi met.entry.descriptor (descriptors (drop (place + 1) s.dispatches))
          ∙ ap (λ b. pair_if b ppi met.entry.descriptor ++ row_of s ppi (descriptors (drop (place + 1) s.dispatches))) (sym same);
    }

-- a pair that is due has room
room_for : (b : Bool) (n ppi note : ℕ) (whole rest : List (ℕ × ℕ)) → whole ≡ pair_if b ppi note ++ rest → b ≡ true → 40 * length whole ≤ n → 40 ≤ n
room_for false n ppi note whole rest e t le = cc
room_for true n ppi note whole rest e t le = let more : length whole ≡ suc (length rest) = ap length e in omega (arith, more, le)

pub ready : (heap : Heap) (memory : PhysMem) (heads : Heads) (s : StoreState) (by ppi note : ℕ) (all whole rest : List (ℕ × ℕ)) (due : Bool) (l : IsLeft heap memory heads s by all whole)
    → IsDescriptorAt s Ppi ppi → (due ≡ true → IsDescriptorAt s Dispatch note) → whole ≡ pair_if due ppi note ++ rest → due ≡ true → IsReady Pendings (record { descriptor = note; ppi = ppi; by = by }) l.now
ready heap memory heads s by ppi note all whole rest due l p n e t = record {
  names = (at_stays s l.now Ppi ppi l.from.bodies p, at_stays s l.now Dispatch note l.from.bodies (n t));
  room = room_for due (free l.now) ppi note whole rest e t l.room;
}

-- counts
one_on : (b : Bool) (ppi note : ℕ) → length (pair_if b ppi note) ≡ (if b then 1 else 0)
one_on true ppi note = refl
one_on false ppi note = refl

pub one_small : (b : Bool) (n : ℕ) → n ≡ (if b then 1 else 0) → n ≤ 1
one_small true n e = omega (arith, e)
one_small false n e = omega (arith, e)

pub count_more : (count one n ppi note : ℕ) (b : Bool) (whole rest : List (ℕ × ℕ)) → whole ≡ pair_if b ppi note ++ rest → one ≡ (if b then 1 else 0) → count + length whole ≡ n → count + one + length rest ≡ n
count_more count one n ppi note b whole rest e is f =
    let sum : length whole ≡ length (pair_if b ppi note) + length rest = ap length e ∙ length-append (pair_if b ppi note) rest in
    let same : length (pair_if b ppi note) ≡ one = one_on b ppi note ∙ sym is in
    omega (arith, sum, same, f)

pub count_past : (count n : ℕ) (left : List (ℕ × ℕ)) → left ≡ [] → count + length left ≡ n → count ≡ n
count_past count n left e f = let none : length left ≡ 0 = ap length e in omega (arith, none, f)

-- these are no callbacks
pub dispatches_not : Dispatches ≢ Callbacks
dispatches_not e = cc

pub ppis_not : Ppis ≢ Callbacks
ppis_not e = cc

-- the rows of a list of PPIs
pub rows_more : (s : StoreState) (notes : List ℕ) (list rest : List Desc) (d : Desc) → list ≡ d ∷ rest → pairs_of s (offsets list) notes ≡ row_of s d.offset notes ++ pairs_of s (offsets rest) notes
rows_more s notes list rest d e = ap (λ xs. pairs_of s (offsets xs) notes) e

pub entry_rows : (s : StoreState) (notes : List ℕ) (list rest : List Entry) (x : Entry) → list ≡ x ∷ rest → pairs_of s (descriptors list) notes ≡ row_of s x.descriptor notes ++ pairs_of s (descriptors rest) notes
entry_rows s notes list rest x e = ap (λ xs. pairs_of s (descriptors xs) notes) e

pub count_rows : (count more n : ℕ) (whole row rest : List (ℕ × ℕ)) → whole ≡ row ++ rest → more ≡ length row → count + length whole ≡ n → count + more + length rest ≡ n
count_rows count more n whole row rest e is f =
    let sum : length whole ≡ length row + length rest = ap length e ∙ length-append row rest in
    omega (arith, sum, is, f)

-- one row of those that are left has room
pub row_room : (n : ℕ) (whole row rest : List (ℕ × ℕ)) → whole ≡ row ++ rest → node_need (length whole) ≤ n → node_need (length row) ≤ n
row_room n whole row rest e le =
    let sum : length whole ≡ length row + length rest = ap length e ∙ length-append row rest in
    omega (arith, sum, le)

-- the row of a state while pairs are queued is that of the first
pub row_now : (s now : StoreState) (count ppi : ℕ) → IsStoreState s → Queued s now count → HasDesc s ppi → row_of now ppi (descriptors now.dispatches) ≡ row_of s ppi (descriptors s.dispatches)
row_now s now count ppi h q p =
    ap (λ (xs : List Entry). row_of now ppi (descriptors xs)) q.dispatches ∙ row_stays s now ppi (descriptors s.dispatches) q.bodies p (named_descs s Dispatch s.dispatches h.dispatches)

pub new_row_now : (s now : StoreState) (count ppi : ℕ) (list : List Desc) → Queued s now count → HasDesc s ppi → Each (IsDesc s) list → row_of now ppi (new_dispatches now list) ≡ row_of s ppi (new_dispatches s list)
new_row_now s now count ppi list q p each =
    ap (row_of now ppi) (new_stays s now list q.bodies each) ∙ row_stays s now ppi (new_dispatches s list) q.bodies p (new_descs s list each)

-- a PPI that is met while pairs are queued is one of the first state
pub record PpiAt (s : StoreState) (place : ℕ) (met : Met) : Type 0 where
  pub ppi_is : IsDescriptorAt s Ppi met.entry.descriptor
  pub next : StandsAt s Ppis (place + 1) met.next
  pub rest : drop place s.ppis ≡ met.entry ∷ drop (place + 1) s.ppis

pub ppi_met : (s now : StoreState) (count place : ℕ) (met : Met) → IsStoreState s → Queued s now count → IsMetAt now Ppis place met → PpiAt s place met
ppi_met s now count place met h q is =
    let rest : drop place s.ppis ≡ met.entry ∷ drop (place + 1) s.ppis = ap (drop place) (sym q.ppis) ∙ is.rest ∙ ap (λ xs. met.entry ∷ drop (place + 1) xs) q.ppis in
    record {
      ppi_is = (each_behind (IsEntry s Ppi) s.ppis (drop (place + 1) s.ppis) place met.entry h.ppis rest).1;
      next = record {
        entries = tt;
        here = is.next.here ∙ ap (λ b. first_address b (drop (place + 1) (map (item_of b) now.ppis))) q.base ∙ ap (λ xs. first_address s.base (drop (place + 1) (map (item_of s.base) xs))) q.ppis;
      };
      rest = rest;
    }

neither : (a b : Bool) → (a || b) ≡ false → (a ≡ false) × (b ≡ false)
neither false false e = (refl, refl)
neither false true e = cc
neither true b e = cc

-- the notifications of a list are the same ones while pairs are queued
pub notes_now : (s now : StoreState) (list : List Desc) → IsGrown s now → Each (IsDesc s) list → list_any (λ d. is_ppi (kind_at s d.offset)) list ≡ false
    → list_any (λ d. is_ppi (kind_at now d.offset)) list ≡ false
notes_now s now [] grown each e = refl
notes_now s now (d ∷ list) grown each e =
    let both = neither (is_ppi (kind_at s d.offset)) (list_any (λ x. is_ppi (kind_at s x.offset)) list) e in
    ap (λ k. is_ppi k || list_any (λ x. is_ppi (kind_at now x.offset)) list) (kind_stays s now d.offset grown each.0) ∙ ap (λ b. b || list_any (λ x. is_ppi (kind_at now x.offset)) list) both.0
    ∙ notes_now s now list grown each.1 both.1

pub descs_now : (s now : StoreState) (list : List Desc) → IsGrown s now → Each (IsDesc s) list → Each (IsDesc now) list
descs_now s now [] grown each = tt
descs_now s now (d ∷ list) grown each = (desc_stays s now d.offset grown each.0, descs_now s now list grown each.1)

-- a notification that is due is a dispatch notification
kind_left : (kind : DescKind) → is_ppi kind ≡ false → not (is_callback kind) ≡ true → kind ≡ Dispatch
kind_left Ppi e f = cc
kind_left Callback e f = cc
kind_left Dispatch e f = refl

both_true : (a b : Bool) → (a && b) ≡ true → a ≡ true
both_true true b e = refl
both_true false b e = cc

note_kind : (s : StoreState) (list rest : List Desc) (i : ℕ) (d : Desc) → list_any (λ x. is_ppi (kind_at s x.offset)) list ≡ false → drop i list ≡ d ∷ rest → is_ppi (kind_at s d.offset) ≡ false
note_kind s [] rest zero d e f = cc
note_kind s [] rest (suc i) d e f = cc
note_kind s (x ∷ list) rest zero d e f =
    let same : x ≡ d = cc in
    ap (λ (y : Desc). is_ppi (kind_at s y.offset)) (sym same) ∙ (neither (is_ppi (kind_at s x.offset)) (list_any (λ y. is_ppi (kind_at s y.offset)) list) e).0
note_kind s (x ∷ list) rest (suc i) d e f = note_kind s list rest i d (neither (is_ppi (kind_at s x.offset)) (list_any (λ y. is_ppi (kind_at s y.offset)) list) e).1 f

kind_by : (s : StoreState) (d : Desc) (is : IsDesc s d) → is.0.kind ≡ kind_at s d.offset
kind_by s d is = kind_of_state s d.offset is.0 is.1

-- the next notification of a list for a PPI
pub new_split : (s now : StoreState) (count ppi place : ℕ) (guid : Guid) (list : List Desc) (d : Desc) (due : Bool) → Queued s now count → guid ≡ guid_at s ppi → Each (IsDesc s) list
    → drop place list ≡ d ∷ drop (place + 1) list → due ≡ (not (is_callback (kind_at now d.offset)) && same_guid guid (guid_at now d.offset))
    → (row_of s ppi (new_dispatches s (drop place list)) ≡ pair_if due ppi d.offset ++ row_of s ppi (new_dispatches s (drop (place + 1) list)))
    × (due ≡ (not (is_callback (kind_at s d.offset)) && same_guid (guid_at s ppi) (guid_at s d.offset)))
new_split s now count ppi place guid list d due q g each rest e =
    let there = each_behind (IsDesc s) list (drop (place + 1) list) place d each rest in
    let test : Guid → DescKind → Guid → Bool = λ x k y. not (is_callback k) && same_guid x y in
    let same : due ≡ test (guid_at s ppi) (kind_at s d.offset) (guid_at s d.offset) =
    e ∙ ap (λ x. test x (kind_at now d.offset) (guid_at now d.offset)) g ∙ ap (λ k. test (guid_at s ppi) k (guid_at now d.offset)) (kind_stays s now d.offset q.bodies there)
    ∙ ap (test (guid_at s ppi) (kind_at s d.offset)) (guid_stays s now d.offset q.bodies there) in (
      ap (λ xs. row_of s ppi (new_dispatches s xs)) rest ∙ new_more s ppi d (drop (place + 1) list)
          ∙ ap (λ b. pair_if b ppi d.offset ++ row_of s ppi (new_dispatches s (drop (place + 1) list))) (sym same),
      same,
    )

pub new_is : (s : StoreState) (ppi place : ℕ) (list : List Desc) (d : Desc) (due : Bool) → Each (IsDesc s) list → list_any (λ x. is_ppi (kind_at s x.offset)) list ≡ false → drop place list ≡ d ∷ drop (place + 1) list
    → due ≡ (not (is_callback (kind_at s d.offset)) && same_guid (guid_at s ppi) (guid_at s d.offset)) → due ≡ true → IsDescriptorAt s Dispatch d.offset
new_is s ppi place list d due each notes rest same t =
    let there = each_behind (IsDesc s) list (drop (place + 1) list) place d each rest in
    (there.0, there.1, kind_by s d there ∙ kind_left (kind_at s d.offset) (note_kind s list (drop (place + 1) list) place d notes rest) (both_true _ _ (sym same ∙ t)))

-- counts that fit
pub few_more : (count more place len : ℕ) → count ≤ place * len → more ≤ len → count + more ≤ (place + 1) * len
few_more count more place len a b = grind (arith, a, b)
