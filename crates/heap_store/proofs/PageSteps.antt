-- Pages, moved.
use Rattle.std.proofs.Common.{◌≡◌, ℕ, ◌+◌, ◌-◌, false, cond, List, ◌++◌, take, drop, arith, ap, refl, ◌∙◌, Some, replicate}
use Rattle.pi_base.specs.Field.{little_bytes}
use Rattle.phys_mem.specs.Region.{replaced}
use Rattle.store_model.specs.{declared.state.AllocationBody.AllocationBody, declared.state.Body.TheVariants.Allocation}
use Rattle.store_model.specs.StoreState.{Range, StoreState, body_at}
use Rattle.store_model.specs.HeapImage.{allocation_bytes}
use Rattle.store_laws.specs.{Spelling.spelled, Moving.Done, Moving.half}
use Rattle.store_laws.proofs.Moving.{pages_are_moved}
use Rattle.heap_store.specs.{declared.course.Course.Course, declared.words.Words.Words, WordBytes.words_bytes, Half.half_image}
use Rattle.heap_store.specs.{Pages.with_pages, Ready.IsReady}
use Rattle.heap_store.proofs.Steps.{step_read, step_written, half_spelt}

-- a zero name, and a base
abbrev pub page_words : ℕ → Words
page_words base = record { first = 0; second = 0; third = base }

abbrev pub page_rest : AllocationBody → List ℕ
page_rest a = little_bytes 8 a.len ++ little_bytes 4 a.memory_type ++ replicate 4 0

spelt_pages : (page_end : ℕ) (a : AllocationBody) → allocation_bytes page_end a ≡ words_bytes (page_words (page_end - a.below)) ++ page_rest a
unfolding words_bytes
spelt_pages page_end a = refl

pages_old : (s : StoreState) (to : Range) (done : Done) (p : ℕ) (a : AllocationBody) → done.pages p ≡ false → half s to done p (Allocation a) ≡ words_bytes (page_words (s.page_end - a.below)) ++ page_rest a
pages_old s to done p a e = ap (λ b. cond b (allocation_bytes (to.base + to.len) a) (allocation_bytes s.page_end a)) e ∙ spelt_pages s.page_end a

pub pages_read : (s : StoreState) (to : Range) (course : Course) (done : Done) (p : ℕ) (a : AllocationBody) → IsReady s to course → body_at s p ≡ Some (Allocation a) → done.pages p ≡ false
    → take 24 (drop p (half_image s to done)) ≡ words_bytes (page_words (s.page_end - a.below))
pages_read s to course done p a h found e = step_read s to done p (Allocation a) (page_words (s.page_end - a.below)) (page_rest a) h.bodies found (pages_old s to done p a e) (omega arith)

pub pages_written : (s : StoreState) (to : Range) (course : Course) (done : Done) (p : ℕ) (a : AllocationBody) → IsReady s to course → body_at s p ≡ Some (Allocation a) → done.pages p ≡ false
    → half_image s to (with_pages done p (Allocation a)) ≡ replaced (half_image s to done) p (words_bytes (page_words (to.base + to.len - a.below)))
pages_written s to course done p a h found e =
    step_written s to done (with_pages done p (Allocation a)) p (Allocation a) (page_words (s.page_end - a.below)) (page_words (to.base + to.len - a.below)) (page_rest a)
    h.bodies found (pages_old s to done p a e) refl
    (pages_are_moved s to done s.hobs 56 p a (half_spelt s to done s.hobs h.bodies) found ∙ ap (replaced (spelled (half s to done) 56 s.hobs) (p - 56)) (spelt_pages (to.base + to.len) a))
