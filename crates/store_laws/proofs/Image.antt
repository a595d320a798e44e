-- The image by its parts, and a body of it written.
use Rattle.std.proofs.Common.{◌≡◌, ℕ, ◌+◌, ◌-◌, ◌≤◌, List, ◌++◌, length, arith, ap, refl, sym, ◌∙◌, append_assoc, length-append, replicate}
use Rattle.phys_mem.specs.Region.{replaced}
use Rattle.hob_codec.specs.declared.kind.TheConstants.{END}
use Rattle.store_model.specs.StoreState.{StoreState, end_place}
use Rattle.store_model.specs.HeapImage.{header_bytes, body_bytes, hobs_bytes, heap_image}
use Rattle.store_laws.specs.{Spelling.spelled, Spelling.AreSpelled, Growing.front_bytes}
use Rattle.store_laws.proofs.{HeapBodies.is_spelled, Mapped.replaced_middle, Facts.bodies_len, Growing.spelled_len, Parts.replaced_len}

-- the end HOB and the zeros behind it
abbrev tail_bytes : ℕ → ℕ → List ℕ
tail_bytes len end = header_bytes END 8 ++ replicate (len - (end + 8)) 0

by_parts : (front bodies end : List ℕ) (len n : ℕ) → length front ≡ 56 → length end ≡ 8 → 56 + length bodies ≡ n
    → front ++ bodies ++ end ++ replicate (len - length (front ++ bodies ++ end)) 0 ≡ front ++ bodies ++ (end ++ replicate (len - (n + 8)) 0)
by_parts front bodies end len n f e b =
    let size : length (front ++ bodies ++ end) ≡ n + 8 = length-append (front ++ bodies) end ∙ ap (λ k. k + length end) (length-append front bodies) ∙ omega (arith, f, e, b) in
    ap (λ k. front ++ bodies ++ end ++ replicate (len - k) 0) size ∙ append_assoc (front ++ bodies) end (replicate (len - (n + 8)) 0)

image_parts : (s : StoreState) → AreSpelled (body_bytes s) s.hobs → heap_image s ≡ front_bytes s ++ spelled (body_bytes s) 56 s.hobs ++ tail_bytes s.len (end_place s)
image_parts s spelt =
    by_parts (front_bytes s) (hobs_bytes s 56 s.hobs) (header_bytes END 8) s.len (end_place s) refl refl (bodies_len s spelt)
    ∙ ap (λ x. front_bytes s ++ x ++ tail_bytes s.len (end_place s)) (is_spelled s 56 s.hobs)

-- a text written among the bodies
among_bodies : (front bodies rest text : List ℕ) (p : ℕ) → length front ≡ 56 → 56 ≤ p → p + length text ≤ 56 + length bodies → front ++ replaced bodies (p - 56) text ++ rest ≡ replaced (front ++ bodies ++ rest) p text
among_bodies front bodies rest text p f le fits =
    let place : length front + (p - 56) ≡ p = omega (arith, f, le) in
    sym (replaced_middle front bodies rest text (p - 56) (omega (arith, le, fits))) ∙ ap (λ n. replaced (front ++ bodies ++ rest) n text) place

-- a state that has another's bytes but for a text
pub image_written : (s t : StoreState) (p : ℕ) (text : List ℕ) → AreSpelled (body_bytes s) s.hobs → AreSpelled (body_bytes t) t.hobs → front_bytes t ≡ front_bytes s → t.len ≡ s.len → end_place t ≡ end_place s
    → 56 ≤ p → p + length text ≤ end_place s → spelled (body_bytes t) 56 t.hobs ≡ replaced (spelled (body_bytes s) 56 s.hobs) (p - 56) text → heap_image t ≡ replaced (heap_image s) p text
image_written s t p text spelt spelt_then front len end le fits bytes =
    let bodies = spelled (body_bytes s) 56 s.hobs in
    let rest = tail_bytes s.len (end_place s) in
    let size : 56 + length bodies ≡ end_place s = ap (λ n. 56 + n) (spelled_len (body_bytes s) 56 s.hobs spelt) in
    image_parts t spelt_then ∙ ap (λ n. front_bytes t ++ spelled (body_bytes t) 56 t.hobs ++ tail_bytes n (end_place t)) len
    ∙ ap (λ n. front_bytes t ++ spelled (body_bytes t) 56 t.hobs ++ tail_bytes s.len n) end
    ∙ ap (λ x. x ++ spelled (body_bytes t) 56 t.hobs ++ rest) front ∙ ap (λ x. front_bytes s ++ x ++ rest) bytes
    ∙ among_bodies (front_bytes s) bodies rest text p refl le (omega (arith, fits, size)) ∙ ap (λ x. replaced x p text) (sym (image_parts s spelt))

-- and but for two texts
pub image_written_twice : (s t : StoreState) (p q : ℕ) (text other : List ℕ) → AreSpelled (body_bytes s) s.hobs → AreSpelled (body_bytes t) t.hobs → front_bytes t ≡ front_bytes s → t.len ≡ s.len → end_place t ≡ end_place s
    → 56 ≤ p → p + length text ≤ end_place s → 56 ≤ q → q + length other ≤ end_place s
    → spelled (body_bytes t) 56 t.hobs ≡ replaced (replaced (spelled (body_bytes s) 56 s.hobs) (p - 56) text) (q - 56) other → heap_image t ≡ replaced (replaced (heap_image s) p text) q other
image_written_twice s t p q text other spelt spelt_then front len end le fits lq fq bytes =
    let bodies = spelled (body_bytes s) 56 s.hobs in
    let rest = tail_bytes s.len (end_place s) in
    let size : 56 + length bodies ≡ end_place s = ap (λ n. 56 + n) (spelled_len (body_bytes s) 56 s.hobs spelt) in
    let inner : p - 56 + length text ≤ length bodies = omega (arith, le, fits, size) in
    let same : length (replaced bodies (p - 56) text) ≡ length bodies = replaced_len bodies text (p - 56) inner in
    image_parts t spelt_then ∙ ap (λ n. front_bytes t ++ spelled (body_bytes t) 56 t.hobs ++ tail_bytes n (end_place t)) len
    ∙ ap (λ n. front_bytes t ++ spelled (body_bytes t) 56 t.hobs ++ tail_bytes s.len n) end
    ∙ ap (λ x. x ++ spelled (body_bytes t) 56 t.hobs ++ rest) front ∙ ap (λ x. front_bytes s ++ x ++ rest) bytes
    ∙ among_bodies (front_bytes s) (replaced bodies (p - 56) text) rest other q refl lq (omega (arith, fq, size, same))
    ∙ ap (λ x. replaced x q other) (among_bodies (front_bytes s) bodies rest text p refl le (omega (arith, fits, size)) ∙ ap (λ x. replaced x p text) (sym (image_parts s spelt)))
