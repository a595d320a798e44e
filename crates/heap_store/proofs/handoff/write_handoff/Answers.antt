use Rattle.std.proofs.Common.{◌≡◌, ◌+◌, ◌-◌, ◌≤◌, ℕ, List, arith, ap, subst, ◌∙◌}
use Rattle.phys_mem.specs.{Region.replaced, declared.memory.PhysMem.PhysMem}
use Rattle.store_model.specs.{StoreState.Range, StoreState.StoreState, Migration.migrated_to}
use Rattle.store_laws.specs.Mapped.{layout_of, HasHeap}
use Rattle.heap_store.specs.{declared.words.Words.Words, WordBytes.words_bytes, Copied.copied_image}
use Rattle.heap_store.proofs.Handoffs.{low_words, high_words, handoff_written, low_is, high_is, front_room}
use Rattle.heap_store.proofs.handoff.write_handoff.Goals as goal

-- the heap after a write at a place
put_at : (s : StoreState) (to : Range) (heap : List ℕ) (k at : ℕ) (code words : Words) (memory : PhysMem) → at ≡ k → code ≡ words → HasHeap (layout_of (migrated_to s to)) (replaced heap at (words_bytes code)) memory → HasHeap (layout_of (migrated_to s to)) (replaced heap k (words_bytes words)) memory
put_at s to heap k at code words memory e w h = subst (λ (x : List ℕ). HasHeap (layout_of (migrated_to s to)) x memory) (ap (λ n. replaced heap n (words_bytes code)) e ∙ ap (λ (x : Words). replaced heap k (words_bytes x)) w) h

short : 16 + 24 ≤ 56
short = omega arith

long : 32 + 24 ≤ 56
long = omega arith

pub put_words-requires-2 : goal.put_words-requires-2
put_words-requires-2 c =
    let r = c.requires.copied in
    let s = r.0 in
    let to = r.1 in
    let course = c.args.course.now in
    let first = front_room s to course 16 r.2 short in
    let second = front_room s to course 32 r.2 long in
    let has = put_at s to (copied_image s to) 16 (course.to + 16 - to.base) _ (low_words s to) c.put_words.new.memory first.2 (low_is s to course c.args.taken r.2 r.5) (c.put_words.ensures (layout_of (migrated_to s to)) (copied_image s to) r.3 first.0 first.1) in
    record { heap = (layout_of (migrated_to s to), replaced (copied_image s to) 16 (words_bytes (low_words s to)), has, second.0, second.1) }

pub returns : goal.returns
returns c s to ready copied place taken few =
    let course = c.args.course.now in
    let l = layout_of (migrated_to s to) in
    let first = front_room s to course 16 ready short in
    let second = front_room s to course 32 ready long in
    let heap : List ℕ = replaced (copied_image s to) 16 (words_bytes (low_words s to)) in
    let has : HasHeap l heap c.put_words.new.memory = put_at s to (copied_image s to) 16 (course.to + 16 - to.base) _ (low_words s to) c.put_words.new.memory first.2 (low_is s to course c.args.taken ready taken) (c.put_words.ensures l (copied_image s to) copied first.0 first.1) in
    let both = put_at s to heap 32 (course.to + 32 - to.base) _ (high_words s to) c.put_words-2.new.memory second.2 (high_is s to course c.args.place c.args.taken ready place taken) (c.put_words-2.ensures l heap has second.0 second.1) in
    subst (λ (x : List ℕ). HasHeap l x c.put_words-2.new.memory) (handoff_written s to course ready) both
