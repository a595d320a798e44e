-- A descriptor, moved: the numbers that are read are the old or the new, and what is written are the new.
use Rattle.std.proofs.Common.{◌≡◌, ℕ, ◌+◌, ◌-◌, Bool, true, false, cond, length, take, drop, arith, ap, refl, sym, ◌∙◌, Some}
use Rattle.phys_mem.specs.Region.{replaced}
use Rattle.store_model.specs.{declared.state.Body.TheVariants.Descriptor, declared.state.DescriptorBody.DescriptorBody}
use Rattle.store_model.specs.StoreState.{Range, StoreState, body_at, body_len}
use Rattle.store_model.specs.HeapImage.{kind_flags, guid_behind, guid_address, body_bytes}
use Rattle.store_model.specs.Migration.{moved_descriptor, moved_value, moved_number}
use Rattle.store_laws.specs.Moving.{Done, half, with_descriptor}
use Rattle.store_laws.specs.Spelling.{spelled}
use Rattle.store_laws.proofs.Moving.{descriptors_are_moved}
use Rattle.heap_store.specs.{declared.course.Course.Course, declared.words.Words.Words, Half.half_image, Ready.IsReady}
use Rattle.heap_store.specs.WordBytes.{words_bytes, descriptor_words, shifted_descriptor}
use Rattle.heap_store.proofs.Numbers.{guid_moves, guid_stays, value_once, value_low, flags_low, guid_low}
use Rattle.heap_store.proofs.Steps.{step_read, step_written, half_spelt, descriptor_is, spelt_descriptor}
use Rattle.heap_store.proofs.MovedBodies.{inside, descriptor_long, same_words, AreLow, old_low, new_low, spelt_at}

-- the numbers of a descriptor
abbrev pub descriptor_now : StoreState → Range → ℕ → DescriptorBody → Bool → Words
descriptor_now s to p d b = cond b (descriptor_words to.base p (moved_descriptor s to d)) (descriptor_words s.base p d)

pub now_flags : (s : StoreState) (to : Range) (p : ℕ) (d : DescriptorBody) (b : Bool) (words : Words) → words ≡ descriptor_now s to p d b → words.first ≡ kind_flags d.kind
now_flags s to p d true words e = ap (λ (w : Words). w.first) e
now_flags s to p d false words e = ap (λ (w : Words). w.first) e

pub now_shifted : (s : StoreState) (to : Range) (course : Course) (p : ℕ) (d : DescriptorBody) (b : Bool) → IsReady s to course → body_at s p ≡ Some (Descriptor d)
    → shifted_descriptor s to d.kind (descriptor_now s to p d b) ≡ descriptor_words to.base p (moved_descriptor s to d)
now_shifted s to course p d true h found =
    same_words (kind_flags d.kind) (moved_number s to (guid_address to.base p d.stands)) (moved_value s to d.kind (moved_value s to d.kind d.number)) (kind_flags d.kind) (guid_address to.base p d.stands) (moved_value s to d.kind d.number)
    refl (guid_stays s to course p d.stands h.way (h.descriptors p d found).guid (inside s to course p (Descriptor d) h found)) (value_once s to course d.kind d.number h.way)
now_shifted s to course p d false h found =
    same_words (kind_flags d.kind) (moved_number s to (guid_address s.base p d.stands)) (moved_value s to d.kind d.number) (kind_flags d.kind) (guid_address to.base p d.stands) (moved_value s to d.kind d.number)
    refl (guid_moves s to course p d.stands h.way (h.descriptors p d found).guid (inside s to course p (Descriptor d) h found)) refl

pub now_low : (s : StoreState) (to : Range) (course : Course) (p : ℕ) (d : DescriptorBody) (b : Bool) → IsReady s to course → body_at s p ≡ Some (Descriptor d) → AreLow (descriptor_now s to p d b)
now_low s to course p d true h found =
    let m = h.descriptors p d found in
    (flags_low d.kind, guid_low s to course to.base p d.stands (new_low s to course h) m.low (inside s to course p (Descriptor d) h found), value_low s to course d.kind d.number h.way m.number)
now_low s to course p d false h found =
    let m = h.descriptors p d found in
    (flags_low d.kind, guid_low s to course s.base p d.stands (old_low s to course h) m.low (inside s to course p (Descriptor d) h found), m.number)

pub descriptor_read : (s : StoreState) (to : Range) (course : Course) (done : Done) (p : ℕ) (d : DescriptorBody) → IsReady s to course → body_at s p ≡ Some (Descriptor d)
    → take 24 (drop p (half_image s to done)) ≡ words_bytes (descriptor_now s to p d (done.descriptors p))
descriptor_read s to course done p d h found =
    step_read s to done p (Descriptor d) (descriptor_now s to p d (done.descriptors p)) (guid_behind d d.stands) h.bodies found (descriptor_is s to done p d (done.descriptors p) refl) (descriptor_long d)

pub descriptor_behind : (s : StoreState) (p : ℕ) (d : DescriptorBody) → length (body_bytes s p (Descriptor d)) ≡ body_len (Descriptor d) → body_len (Descriptor d) ≡ 24 + length (guid_behind d d.stands)
descriptor_behind s p d h = sym h ∙ omega arith

pub descriptor_written : (s : StoreState) (to : Range) (course : Course) (done : Done) (p : ℕ) (d : DescriptorBody) → IsReady s to course → body_at s p ≡ Some (Descriptor d)
    → half_image s to (with_descriptor done p) ≡ replaced (half_image s to done) p (words_bytes (descriptor_words to.base p (moved_descriptor s to d)))
descriptor_written s to course done p d h found =
    let len = spelt_at (body_bytes s) s.hobs 56 p (Descriptor d) h.bodies found in
    step_written s to done (with_descriptor done p) p (Descriptor d) (descriptor_now s to p d (done.descriptors p)) (descriptor_words to.base p (moved_descriptor s to d)) (guid_behind d d.stands)
    h.bodies found (descriptor_is s to done p d (done.descriptors p) refl) (descriptor_behind s p d len)
    (descriptors_are_moved s to done s.hobs 56 p d (half_spelt s to done s.hobs h.bodies) found len ∙ ap (replaced (spelled (half s to done) 56 s.hobs) (p - 56)) (spelt_descriptor to.base p (moved_descriptor s to d)))
