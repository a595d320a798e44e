use Rattle.std.proofs.Common.{◌≡◌, ◌≤◌, ◌<◌, ◌+◌, ◌-◌, ℕ, List, ◌∷◌, false, take, drop, length, sum_by, arith, ap, sym, subst, ◌∙◌}
use Rattle.store_model.specs.{declared.state.HobEntry.HobEntry, HeapImage.header_bytes, Migration.migrated_to}
use Rattle.store_model.specs.StoreState.{Range, StoreState, end_place, hob_len}
use Rattle.phys_mem.specs.declared.memory.PhysMem.{PhysMem}
use Rattle.store_laws.specs.{Mapped.layout_of, Moving.Done}
use Rattle.store_laws.proofs.Lists.{each_behind}
use Rattle.heap_store.specs.{declared.header.Header.Header, declared.course.Course.Course, Half.half_image, Half.IsHalf, Pages.with_hobs}
use Rattle.heap_store.specs.Ready.{IsReady, HasHeader, IsOfKind}
use Rattle.heap_store.proofs.HobWalk.{place_of, place_next, header_read, body_found, some_hob, no_hob, few_hobs}
use Rattle.heap_store.proofs.{PageMarks.more_pages, PageMarks.unmarked_pages, Walks.take_all, Walks.none_past}
use Rattle.heap_store.proofs.moved_hobs.move_hobs.Goals as goal

finished : (s : StoreState) (to : Range) (done : Done) (some hobs : List HobEntry) (memory : PhysMem) → some ≡ hobs → IsHalf s to (with_hobs done 56 some) memory → IsHalf s to (with_hobs done 56 hobs) memory
finished s to done some hobs memory e h = subst (λ xs. IsHalf s to (with_hobs done 56 xs) memory) e h

abbrev header_of : HobEntry → Header
header_of hob = record { kind = hob.kind; len = hob_len hob }

-- before the end a HOB stands
before : (s : StoreState) (to : Range) (i at end : ℕ) → at ≡ to.base + place_of 56 s.hobs i → end ≡ to.base + end_place s → at < end → place_of 56 s.hobs i < 56 + sum_by hob_len s.hobs
before s to i at end is e less = omega (arith, is, e, less)

within : (s : StoreState) (to : Range) (course : Course) (i at end : ℕ) → IsReady s to course → at ≡ to.base + place_of 56 s.hobs i → end ≡ to.base + end_place s → at < end → (to.base ≤ at) × (at + 8 ≤ to.base + to.len)
within s to course i at end ready is e less =
    let room = ready.room in
    let fits = ready.way.fits in
    (omega (arith, is), omega (arith, e, less, room, fits))

pub hobs-init : goal.hobs-init
hobs-init c s to done ready fresh has end = (has, ap (λ n. n + 56) ready.way.to_base)

pub returns-then-at-end : goal.returns-then-at-end
returns-then-at-end c s to done ready fresh has end =
    let h = c.hobs.invariant s to done ready fresh has end in
    let i = c.hobs._step in
    let past : 56 + sum_by hob_len s.hobs ≤ place_of 56 s.hobs i = let is = h.1 in omega (arith, is, end, c.if-at-end.true) in
    finished s to done (take i s.hobs) s.hobs c.hobs.memory (take_all s.hobs i (no_hob s.hobs i past)) h.0

pub header_at-header-requires : goal.header_at-header-requires
header_at-header-requires c =
    let r = c.requires.hobs in
    let h = c.hobs.invariant r.0 r.1 r.2 r.3 r.4 r.5 r.6 in
    let i = c.hobs._step in
    let range = within r.0 r.1 c.args.course.now i c.hobs.at c.args.end r.3 h.1 r.6 c.if-at-end.false in
    record { heap = (layout_of (migrated_to r.0 r.1), half_image r.0 r.1 (with_hobs r.2 56 (take i r.0.hobs)), h.0, range.0, range.1) }

-- what is read is the header of the HOB
told_on : (s : StoreState) (to : Range) (course : Course) (done : Done) (i at end : ℕ) (hob : HobEntry) (rest : List HobEntry) → IsReady s to course → at ≡ to.base + place_of 56 s.hobs i → drop i s.hobs ≡ hob ∷ rest
    → take 8 (drop (at - to.base) (half_image s to done)) ≡ header_bytes hob.kind (hob_len hob)
told_on s to course done i at end hob rest ready is e =
    let place : at - to.base ≡ place_of 56 s.hobs i = omega (arith, is) in
    ap (λ n. take 8 (drop n (half_image s to done))) place ∙ header_read s to done i hob rest ready.bodies e

fresh_at : (s : StoreState) (done : Done) (i : ℕ) → ((place : ℕ) → done.pages place ≡ false) → (with_hobs done 56 (take i s.hobs)).pages (place_of 56 s.hobs i + 8) ≡ false
fresh_at s done i fresh = unmarked_pages done 56 (place_of 56 s.hobs i + 8) (take i s.hobs) (omega arith) (fresh (place_of 56 s.hobs i + 8))

pub move_hob-requires : goal.move_hob-requires
move_hob-requires c =
    let r = c.requires.hobs in
    let s = r.0 in
    let to = r.1 in
    let done = r.2 in
    let ready = r.3 in
    let h = c.hobs.invariant s to done ready r.4 r.5 r.6 in
    let i = c.hobs._step in
    let course = c.args.course.now in
    let now = with_hobs done 56 (take i s.hobs) in
    let range = within s to course i c.hobs.at c.args.end ready h.1 r.6 c.if-at-end.false in
    let one = some_hob s.hobs i (before s to i c.hobs.at c.args.end h.1 r.6 c.if-at-end.false) in
    let facts = each_behind (HasHeader s) s.hobs one.1 i one.0 ready.headers one.2 in
    let read = c.header_at-header.ensures (layout_of (migrated_to s to)) (half_image s to now) (header_of one.0) h.0 range.0 range.1
    (told_on s to course now i c.hobs.at c.args.end one.0 one.1 ready h.1 one.2) facts.kind facts.len in
    let kind : IsOfKind s c.header_at-header.result.kind one.0.body = subst (λ n. IsOfKind s n one.0.body) (sym (ap (λ (x : Header). x.kind) read)) facts.body in
    let is : c.hobs.at + 8 ≡ to.base + (place_of 56 s.hobs i + 8) = let at = h.1 in omega (arith, at) in
    record { there = (s, to, now, place_of 56 s.hobs i + 8, one.0.body, ready, body_found 56 s.hobs i one.0 one.1 one.2, kind, fresh_at s done i r.4, h.0, is) }

pub hobs-preserved : goal.hobs-preserved
hobs-preserved c s to done ready fresh has end =
    let h = c.hobs.invariant s to done ready fresh has end in
    let i = c.hobs._step in
    let course = c.args.course.now in
    let now = with_hobs done 56 (take i s.hobs) in
    let range = within s to course i c.hobs.at c.args.end ready h.1 end c.if-at-end.false in
    let one = some_hob s.hobs i (before s to i c.hobs.at c.args.end h.1 end c.if-at-end.false) in
    let facts = each_behind (HasHeader s) s.hobs one.1 i one.0 ready.headers one.2 in
    let read = c.header_at-header.ensures (layout_of (migrated_to s to)) (half_image s to now) (header_of one.0) h.0 range.0 range.1
    (told_on s to course now i c.hobs.at c.args.end one.0 one.1 ready h.1 one.2) facts.kind facts.len in
    let kind : IsOfKind s c.header_at-header.result.kind one.0.body = subst (λ n. IsOfKind s n one.0.body) (sym (ap (λ (x : Header). x.kind) read)) facts.body in
    let is : c.hobs.at + 8 ≡ to.base + (place_of 56 s.hobs i + 8) = let at = h.1 in omega (arith, at) in
    let moved = c.move_hob.ensures s to now (place_of 56 s.hobs i + 8) one.0.body ready (body_found 56 s.hobs i one.0 one.1 one.2) kind (fresh_at s done i fresh) h.0 is in
    let len : c.from-at.result ≡ hob_len one.0 = c.from-at.ensures ∙ ap (λ (x : Header). x.len) read in
    let next = place_next 56 s.hobs i one.0 one.1 one.2 in
    let at = h.1 in
    (subst (λ (d : Done). IsHalf s to d c.move_hob.new.memory) (sym (more_pages done 56 s.hobs i one.0 one.1 one.2)) moved, omega (arith, len, next, at))

pub returns : goal.returns
returns c s to done ready fresh has end =
    let h = c.hobs.invariant s to done ready fresh has end in
    let i = c.hobs._step in
    let len = ready.way.len in
    let few = few_hobs s.hobs in
    let room = ready.room in
    let past : length s.hobs ≤ i = omega (arith, few, len, room, c.hobs-test.false) in
    finished s to done (take i s.hobs) s.hobs c.hobs.memory (take_all s.hobs i (none_past s.hobs i past)) h.0
