-- The hand-off HOB of the old heap, and the one of the new.
use Rattle.std.proofs.Common.{◌≡◌, ℕ, ◌+◌, ◌-◌, ◌≤◌, List, ◌++◌, arith, ap, refl, sym, ◌∙◌, append_assoc}
use Rattle.phys_mem.specs.Region.{replaced}
use Rattle.hob_codec.specs.{declared.kind.TheConstants.HANDOFF, HobValue.HandoffHob, HobBytes.fields_of, HobBytes.joined}
use Rattle.store_model.specs.StoreState.{Range, StoreState, end_place, page_bytes}
use Rattle.store_model.specs.{HeapImage.header_bytes, Migration.migrated_to}
use Rattle.store_laws.specs.{Growing.front_bytes, Spelling.spelled, Moving.half}
use Rattle.heap_store.specs.{declared.course.Course.Course, declared.words.Words.Words, WordBytes.words_bytes, Copied.copied_image}
use Rattle.heap_store.specs.Half.{half_image, behind, none_done}
use Rattle.heap_store.specs.Ready.{IsReady}
use Rattle.heap_store.proofs.MovedBodies.{same_words}
use Rattle.store_laws.proofs.Moved.{sum_moved}

-- the front by its numbers
abbrev front_by : ℕ → ℕ → ℕ → ℕ → ℕ → ℕ → List ℕ
front_by mode top bottom free_top free_bottom end =
    header_bytes HANDOFF 56 ++ joined (fields_of (HandoffHob (record { boot_mode = mode; top = top; bottom = bottom; free_top = free_top; free_bottom = free_bottom; end = end })))

-- two writes make the new front
abbrev pub low_words : StoreState → Range → Words
low_words s to = record { first = to.base + to.len; second = to.base; third = to.base + to.len - s.taken }

abbrev pub high_words : StoreState → Range → Words
high_words s to = record { first = to.base + to.len - s.taken; second = to.base + end_place s + 8; third = to.base + end_place s }

written_on : (mode a b c d e top bottom free_top free_bottom end : ℕ) (rest : List ℕ)
    → replaced (replaced (front_by mode a b c d e ++ rest) 16 (words_bytes (record { first = top; second = bottom; third = free_top }))) 32 (words_bytes (record { first = free_top; second = free_bottom; third = end }))
    ≡ front_by mode top bottom free_top free_bottom end ++ rest
unfolding words_bytes
written_on mode a b c d e top bottom free_top free_bottom end rest = refl

same_end : (s : StoreState) (to : Range) (course : Course) → IsReady s to course → end_place (migrated_to s to) ≡ end_place s
same_end s to course h = ap (λ n. 56 + n) (sum_moved s to s.hobs 56 h.state.board h.state.hobs)

pub handoff_written : (s : StoreState) (to : Range) (course : Course) → IsReady s to course → replaced (replaced (copied_image s to) 16 (words_bytes (low_words s to))) 32 (words_bytes (high_words s to)) ≡ half_image s to none_done
unfolding copied_image half_image
handoff_written s to course h =
    let bodies : List ℕ = spelled (half s to none_done) 56 s.hobs in
    let tail : List ℕ = behind s to in
    let top : ℕ = to.base + to.len in
    let end : ℕ = end_place s in
    ap (λ x. replaced (replaced x 16 (words_bytes (low_words s to))) 32 (words_bytes (high_words s to))) (append_assoc (front_bytes s) bodies tail)
    ∙ written_on s.boot_mode (s.base + s.len) s.base (s.base + s.len - page_bytes s.moved s.taken) (s.base + end_place s + 8) (s.base + end_place s) top to.base (top - s.taken) (to.base + end + 8) (to.base + end) (bodies ++ tail)
    ∙ ap (λ n. front_by s.boot_mode top to.base (top - s.taken) (to.base + n + 8) (to.base + n) ++ (bodies ++ tail)) (sym (same_end s to course h))
    ∙ sym (append_assoc (front_bytes (migrated_to s to)) bodies tail)

-- the words as the code has them
pub low_is : (s : StoreState) (to : Range) (course : Course) (taken : ℕ) → IsReady s to course → taken ≡ s.taken → (let w : Words = record { first = course.to + course.room; second = course.to; third = course.to + course.room - taken } in w) ≡ low_words s to
low_is s to course taken h e =
    let base = h.way.to_base in
    let room = h.way.room in
    same_words (course.to + course.room) course.to (course.to + course.room - taken) (to.base + to.len) to.base (to.base + to.len - s.taken) (omega (arith, base, room)) base (omega (arith, base, room, e))

pub high_is : (s : StoreState) (to : Range) (course : Course) (place taken : ℕ) → IsReady s to course → place ≡ end_place s → taken ≡ s.taken
    → (let w : Words = record { first = course.to + course.room - taken; second = course.to + place + 8; third = course.to + place } in w) ≡ high_words s to
high_is s to course place taken h p e =
    let base = h.way.to_base in
    let room = h.way.room in
    same_words (course.to + course.room - taken) (course.to + place + 8) (course.to + place) (to.base + to.len - s.taken) (to.base + end_place s + 8) (to.base + end_place s)
    (omega (arith, base, room, e)) (omega (arith, base, p)) (omega (arith, base, p))

-- the room for it
pub front_room : (s : StoreState) (to : Range) (course : Course) (k : ℕ) → IsReady s to course → k + 24 ≤ 56 → (to.base ≤ course.to + k) × (course.to + k + 24 ≤ to.base + to.len) × (course.to + k - to.base ≡ k)
front_room s to course k h le =
    let base = h.way.to_base in
    let fits = h.way.fits in
    let room = h.room in
    (omega (arith, base), omega (arith, base, fits, room, le), omega (arith, base))
