use Rattle.std.proofs.Common.{◌≡◌, ◌-◌, ℕ, List, take, drop, arith, ap, ◌∙◌}
use Rattle.store_model.specs.{declared.state.Body.TheVariants.Descriptor, Migration.migrated_to, Migration.moved_descriptor}
use Rattle.store_laws.specs.{Mapped.layout_of, Moving.with_descriptor}
use Rattle.heap_store.specs.Half.{half_image}
use Rattle.heap_store.specs.WordBytes.{words_bytes, descriptor_words, shifted_descriptor}
use Rattle.heap_store.proofs.MovedBodies.{in_new, descriptor_long, written_half}
use Rattle.heap_store.proofs.DescriptorMoves.{descriptor_now, descriptor_read, descriptor_written, now_flags, now_shifted, now_low}
use Rattle.heap_store.proofs.moved_descriptor.move_descriptor.Goals as goal

pub words_at-words-requires : goal.words_at-words-requires
words_at-words-requires c =
    let h = c.requires.there in
    let found = h.5 in
    let range = in_new h.0 h.1 c.args.course.now h.3 c.args.at (Descriptor found.0) h.4 found.1 (descriptor_long found.0) h.7 in
    record { heap = (layout_of (migrated_to h.0 h.1), half_image h.0 h.1 h.2, h.6, range.0, range.1) }

pub put_words-requires : goal.put_words-requires
put_words-requires c =
    let h = c.requires.there in
    let found = h.5 in
    let range = in_new h.0 h.1 c.args.course.now h.3 c.args.at (Descriptor found.0) h.4 found.1 (descriptor_long found.0) h.7 in
    record { heap = (layout_of (migrated_to h.0 h.1), half_image h.0 h.1 h.2, h.6, range.0, range.1) }

pub returns : goal.returns
returns c s to done p ready found has is =
    let d = found.0 in
    let b = done.descriptors p in
    let course = c.args.course.now in
    let range = in_new s to course p c.args.at (Descriptor d) ready found.1 (descriptor_long d) is in
    let place : c.args.at - to.base ≡ p = omega (arith, is) in
    let l = layout_of (migrated_to s to) in
    let heap : List ℕ = half_image s to done in
    let there : take 24 (drop (c.args.at - to.base) heap) ≡ words_bytes (descriptor_now s to p d b) = ap (λ n. take 24 (drop n heap)) place ∙ descriptor_read s to course done p d ready found.1 in
    let low = now_low s to course p d b ready found.1 in
    let read : c.words_at-words.result ≡ descriptor_now s to p d b = c.words_at-words.ensures l heap (descriptor_now s to p d b) has range.0 range.1 there low.0 low.1 low.2 in
    let moved : c.moved_words-moved.result ≡ descriptor_words to.base p (moved_descriptor s to d) =
    c.moved_words-moved.ensures s to d.kind ready.way (now_flags s to p d b c.words_at-words.result read) ∙ ap (shifted_descriptor s to d.kind) read ∙ now_shifted s to course p d b ready found.1 in
    written_half s to (with_descriptor done p) heap (words_bytes c.moved_words-moved.result) (words_bytes (descriptor_words to.base p (moved_descriptor s to d))) (c.args.at - to.base) p c.put_words.new.memory
    (c.put_words.ensures l heap has range.0 range.1) place (ap words_bytes moved) (descriptor_written s to course done p d ready found.1)
