use Rattle.std.proofs.Common.{◌≡◌, ◌+◌, ◌≤◌, ℕ, List, arith, ap, sym, subst}
use Rattle.store_model.specs.StoreState.{Range, StoreState, end_place}
use Rattle.store_model.specs.Migration.{migrated_to}
use Rattle.phys_mem.specs.declared.memory.PhysMem.{PhysMem}
use Rattle.store_laws.specs.Mapped.{layout_of, HasHeap, IsMemoryOf}
use Rattle.heap_store.specs.{declared.course.Course.Course, Half.IsHalf, Half.lists_done, Pages.with_hobs}
use Rattle.heap_store.specs.Ready.{IsReady, IsMoving, course_of}
use Rattle.heap_store.proofs.{Readiness.is_ready, Readiness.pages_left, Complete.image_done, PageMarks.lists_pages}
use Rattle.heap_store.proofs.relocation.move_heap.Goals as goal

ready_for : (s : StoreState) (to : Range) (memory : PhysMem) (course : Course) → IsMoving s to memory → course ≡ course_of s to → IsReady s to course
ready_for s to memory course m is = subst (IsReady s to) (sym is) (is_ready s to memory m)

moved_memory : (s : StoreState) (to : Range) (course : Course) (memory : PhysMem) → IsReady s to course → IsHalf s to (with_hobs (lists_done s) 56 s.hobs) memory → IsMemoryOf (migrated_to s to) memory
moved_memory s to course memory ready h = record { image = subst (λ (x : List ℕ). HasHeap (layout_of (migrated_to s to)) x memory) (image_done s to ready.state) h }

below : (s : StoreState) (to : Range) (course : Course) (place : ℕ) → IsReady s to course → place ≡ end_place s → place + 8 ≤ 0x10000000000
below s to course place ready e =
    let room = ready.room in
    let end = ready.way.end in
    let low = ready.way.low in omega (arith, e, room, end, low)

pub overflow_add-place : goal.overflow_add-place
overflow_add-place c =
    let r = c.requires.due in
    let ready = ready_for r.0 r.1 c.args.memory.now c.args.course.now r.2 r.3 in
    let le = below r.0 r.1 c.args.course.now c.args.place ready r.5 in grind (arith, le)

pub copy_heap-requires : goal.copy_heap-requires
copy_heap-requires c = let r = c.requires.due in record { due = (r.0, r.1, r.2, r.3, ap (λ n. n + 8) r.5) }

pub write_handoff-requires : goal.write_handoff-requires
write_handoff-requires c =
    let r = c.requires.due in
    let s = r.0 in
    let to = r.1 in
    let ready = ready_for s to c.args.memory.now c.args.course.now r.2 r.3 in
    record { copied = (s, to, ready, c.copy_heap.ensures s to r.2 r.3 (ap (λ n. n + 8) r.5), r.5, r.6, pages_left s r.2.state r.2.still) }

pub moved_heads-moved-requires : goal.moved_heads-moved-requires
moved_heads-moved-requires c =
    let r = c.requires.due in record { ready = (r.0, r.1, ready_for r.0 r.1 c.args.memory.now c.args.course.now r.2 r.3) }

pub move_lists-requires : goal.move_lists-requires
move_lists-requires c =
    let r = c.requires.due in
    let s = r.0 in
    let to = r.1 in
    let ready = ready_for s to c.args.memory.now c.args.course.now r.2 r.3 in
    let copied = c.copy_heap.ensures s to r.2 r.3 (ap (λ n. n + 8) r.5) in
    let written = c.write_handoff.ensures s to ready copied r.5 r.6 (pages_left s r.2.state r.2.still) in
    record { lists = (s, to, ready, c.moved_heads-moved.ensures s to ready r.4, written) }

pub overflow_add-course : goal.overflow_add-course
overflow_add-course c =
    let r = c.requires.due in
    let ready = ready_for r.0 r.1 c.args.memory.now c.args.course.now r.2 r.3 in
    let le = below r.0 r.1 c.args.course.now c.args.place ready r.5 in
    let base = ready.way.to_base in
    let high = ready.way.high in grind (arith, le, base, high)

end_at : (s : StoreState) (to : Range) (course : Course) (place : ℕ) → IsReady s to course → place ≡ end_place s → course.to + place ≡ to.base + end_place s
end_at s to course place ready e = let base = ready.way.to_base in omega (arith, base, e)

pub move_hobs-requires : goal.move_hobs-requires
move_hobs-requires c =
    let r = c.requires.due in
    let s = r.0 in
    let to = r.1 in
    let ready = ready_for s to c.args.memory.now c.args.course.now r.2 r.3 in
    let copied = c.copy_heap.ensures s to r.2 r.3 (ap (λ n. n + 8) r.5) in
    let written = c.write_handoff.ensures s to ready copied r.5 r.6 (pages_left s r.2.state r.2.still) in
    let lists = c.move_lists.ensures s to ready (c.moved_heads-moved.ensures s to ready r.4) written in
    record { hobs = (s, to, lists_done s, ready, lists_pages s, lists, end_at s to c.args.course.now c.args.place ready r.5) }

pub returns-clause-memory : goal.returns-clause-memory
returns-clause-memory c s to m is heads place taken =
    let ready = ready_for s to c.args.memory.now c.args.course.now m is in
    let copied = c.copy_heap.ensures s to m is (ap (λ n. n + 8) place) in
    let written = c.write_handoff.ensures s to ready copied place taken (pages_left s m.state m.still) in
    let lists = c.move_lists.ensures s to ready (c.moved_heads-moved.ensures s to ready heads) written in
    moved_memory s to c.args.course.now c.move_hobs.new.memory ready
    (c.move_hobs.ensures s to (lists_done s) ready (lists_pages s) lists (end_at s to c.args.course.now c.args.place ready place))

pub returns-clause-heads : goal.returns-clause-heads
returns-clause-heads c s to m is heads place taken =
    c.moved_heads-moved.ensures s to (ready_for s to c.args.memory.now c.args.course.now m is) heads
