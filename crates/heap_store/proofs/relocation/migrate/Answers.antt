use Rattle.std.proofs.Common.{◌≡◌, ℕ, ap, ◌∙◌, refl}
use Rattle.pi_base.specs.declared.span.Span.{Span}
use Rattle.store_model.specs.StoreState.{StoreState, range_of}
use Rattle.phys_mem.specs.declared.memory.PhysMem.{PhysMem}
use Rattle.pei_heap.specs.{declared.heap.Heap.Heap, HeapMemory.IsHeapOf}
use Rattle.heap_store.specs.{declared.course.Course.Course, Due.IsDue, Ready.IsMoving, Ready.course_of}
use Rattle.heap_store.proofs.Readiness.{after, is_ready, pages_left}
use Rattle.heap_store.proofs.Relocated.{relocated}
use Rattle.heap_store.proofs.relocation.migrate.Goals as goal

course_is : (s : StoreState) (memory : PhysMem) (heap : Heap) (pages : Span) (early : ℕ) (to : Span) → IsHeapOf heap memory s → IsDue s pages early to
    → (let c : Course = record { from = heap.span.base; len = heap.span.len; pages = pages.len; to = to.base; room = to.len } in c) ≡ course_of s (range_of to)
course_is s memory heap pages early to is h =
    ap (λ n. let c : Course = record { from = n; len = heap.span.len; pages = pages.len; to = to.base; room = to.len } in c) is.image.base
    ∙ ap (λ n. let c : Course = record { from = s.base; len = n; pages = pages.len; to = to.base; room = to.len } in c) is.image.len
    ∙ ap (λ n. let c : Course = record { from = s.base; len = s.len; pages = n; to = to.base; room = to.len } in c) h.pages_are

moving : (s : StoreState) (memory : PhysMem) (heap : Heap) (pages : Span) (early : ℕ) (to : Span) → IsHeapOf heap memory s → IsDue s pages early to → IsMoving s (range_of to) memory
moving s memory heap pages early to is h = record { state = is.state; still = h.still; planned = h.planned; memory_is = record { image = is.image.has } }

pub end_place-place-requires : goal.end_place-place-requires
end_place-place-requires c = (c.requires.0, c.requires.1.heap_is)

pub move_heap-requires : goal.move_heap-requires
move_heap-requires c =
    let s = c.requires.0 in
    let is = c.requires.1 in
    let h = c.requires.2 in
    record {
      due = (
        s,
        range_of c.args.to,
        moving s c.args.memory.now c.args.heap.now c.args.pages c.args.early c.args.to is.heap_is h,
        course_is s c.args.memory.now c.args.heap.now c.args.pages c.args.early c.args.to is.heap_is h,
        is.heads_are,
        c.end_place-place.ensures s is.heap_is,
        h.early_is,
      );
    }

pub returns-clause-linked : goal.returns-clause-linked
returns-clause-linked c s is h =
    let to = range_of c.args.to in
    let due = moving s c.args.memory.now c.args.heap.now c.args.pages c.args.early c.args.to is.heap_is h in
    let way = course_is s c.args.memory.now c.args.heap.now c.args.pages c.args.early c.args.to is.heap_is h in
    let place = c.end_place-place.ensures s is.heap_is in
    let memory = c.move_heap.ensures.memory s to due way is.heads_are place h.early_is in
    record {
      heap_is = record { state = after s to is.heap_is.state h.still h.planned; image = record { base = refl; len = refl; has = memory.image } };
      heads_are = c.move_heap.ensures.heads s to due way is.heads_are place h.early_is;
    }

pub returns-clause-relocated : goal.returns-clause-relocated
returns-clause-relocated c s is h =
    let to = range_of c.args.to in
    let due = moving s c.args.memory.now c.args.heap.now c.args.pages c.args.early c.args.to is.heap_is h in
    relocated c.little_endian.ensures.read s to (course_of s to) (is_ready s to c.args.memory.now due) (pages_left s due.state due.still)
