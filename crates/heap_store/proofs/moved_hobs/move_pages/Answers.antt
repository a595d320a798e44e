use Rattle.std.proofs.Common.{◌≡◌, ◌+◌, ◌-◌, ◌≤◌, ◌<◌, ◌^◌, ℕ, List, take, drop, arith, ap, ◌∙◌}
use Rattle.store_model.specs.{declared.state.Body.TheVariants.Allocation, Migration.migrated_to}
use Rattle.store_laws.specs.Mapped.{layout_of}
use Rattle.heap_store.specs.{declared.words.Words.Words, Half.half_image, Pages.with_pages, WordBytes.words_bytes}
use Rattle.heap_store.proofs.MovedBodies.{in_new, written_half}
use Rattle.heap_store.proofs.PageSteps.{page_words, pages_read, pages_written}
use Rattle.heap_store.proofs.moved_hobs.move_pages.Goals as goal

long : 24 ≤ 40
long = omega arith

null : 0 < 256 ^ 8
null = omega arith

pub words_at-words-requires : goal.words_at-words-requires
words_at-words-requires c =
    let h = c.requires.there in
    let range = in_new h.0 h.1 c.args.course.now h.3 c.args.at (Allocation h.4) h.5 h.6 long h.10 in
    record { heap = (layout_of (migrated_to h.0 h.1), half_image h.0 h.1 h.2, h.9, range.0, range.1) }

pub put_words-requires : goal.put_words-requires
put_words-requires c =
    let h = c.requires.there in
    let range = in_new h.0 h.1 c.args.course.now h.3 c.args.at (Allocation h.4) h.5 h.6 long h.10 in
    record { heap = (layout_of (migrated_to h.0 h.1), half_image h.0 h.1 h.2, h.9, range.0, range.1) }

pub moved_pages-moved-requires : goal.moved_pages-moved-requires
moved_pages-moved-requires c =
    let h = c.requires.there in
    let s = h.0 in
    let to = h.1 in
    let p = h.3 in
    let a = h.4 in
    let heap : List ℕ = half_image s to h.2 in
    let range = in_new s to c.args.course.now p c.args.at (Allocation a) h.5 h.6 long h.10 in
    let place : c.args.at - to.base ≡ p = omega (arith, h.10) in
    let there : take 24 (drop (c.args.at - to.base) heap) ≡ words_bytes (page_words (s.page_end - a.below)) = ap (λ n. take 24 (drop n heap)) place ∙ pages_read s to c.args.course.now h.2 p a h.5 h.6 h.8 in
    let low : s.page_end - a.below < 256 ^ 8 = let most = h.5.way.low in omega (arith, most) in
    let read : c.words_at-words.result ≡ page_words (s.page_end - a.below) = c.words_at-words.ensures (layout_of (migrated_to s to)) heap (page_words (s.page_end - a.below)) h.9 range.0 range.1 there null null low in
    record { pages = (s, to, a, h.5, h.7, ap (λ (w : Words). w.third) read) }

pub returns : goal.returns
returns c s to done p a ready found below fresh has is =
    let course = c.args.course.now in
    let heap : List ℕ = half_image s to done in
    let range = in_new s to course p c.args.at (Allocation a) ready found long is in
    let place : c.args.at - to.base ≡ p = omega (arith, is) in
    let there : take 24 (drop (c.args.at - to.base) heap) ≡ words_bytes (page_words (s.page_end - a.below)) = ap (λ n. take 24 (drop n heap)) place ∙ pages_read s to course done p a ready found fresh in
    let low : s.page_end - a.below < 256 ^ 8 = let most = ready.way.low in omega (arith, most) in
    let read : c.words_at-words.result ≡ page_words (s.page_end - a.below) = c.words_at-words.ensures (layout_of (migrated_to s to)) heap (page_words (s.page_end - a.below)) has range.0 range.1 there null null low in
    let moved : c.moved_pages-moved.result ≡ page_words (to.base + to.len - a.below) =
    c.moved_pages-moved.ensures s to a ready below (ap (λ (w : Words). w.third) read) ∙ ap (λ (w : Words). let x : Words = record { first = w.first; second = w.second; third = to.base + to.len - a.below } in x) read in
    written_half s to (with_pages done p (Allocation a)) heap (words_bytes c.moved_pages-moved.result) (words_bytes (page_words (to.base + to.len - a.below))) (c.args.at - to.base) p c.put_words.new.memory
    (c.put_words.ensures (layout_of (migrated_to s to)) heap has range.0 range.1) place (ap words_bytes moved) (pages_written s to course done p a ready found fresh)
