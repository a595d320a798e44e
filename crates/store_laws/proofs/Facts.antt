-- What the facts of a state say of its image.
use Rattle.std.proofs.Common.{◌≡◌, ℕ, ◌+◌, ◌-◌, ◌≤◌, List, ◌++◌, length, arith, ap, refl, ◌∙◌, Option, Some, None, length-append, replicate}
use Rattle.std.proofs.lemmas.List.{length-replicate}
use Rattle.hob_codec.specs.declared.kind.TheConstants.{END}
use Rattle.boot_plan.specs.declared.limits.TheConstants.{MOST_END}
use Rattle.store_model.specs.{declared.state.Body.Body, StateFacts.IsStoreState}
use Rattle.store_model.specs.StoreState.{StoreState, end_place, body_at, body_len}
use Rattle.store_model.specs.HeapImage.{header_bytes, body_bytes, hobs_bytes, heap_image, links_bytes, Links}
use Rattle.store_laws.proofs.{Fits.all_fit, Growing.spelled_len}
use Rattle.store_laws.specs.{Spelling.AreSpelled, Growing.front_bytes, Facts.ImagesFill}
use Rattle.store_laws.proofs.HeapBodies.{is_spelled, body_behind, body_inside}

pub node_is_32 : (links : Option Links) → length (links_bytes links) ≡ 32
node_is_32 None = refl
node_is_32 (Some links) = refl

pub bodies_are_spelled : (s : StoreState) → IsStoreState s → AreSpelled (body_bytes s) s.hobs
bodies_are_spelled s h = all_fit.bodies s h

pub places_are_inside : (s : StoreState) (place : ℕ) (body : Body) → body_at s place ≡ Some body → (64 ≤ place) × (place + body_len body ≤ end_place s)
places_are_inside s place body found = (body_behind s.hobs 56 place body found, body_inside s.hobs 56 place body found)

whole_len : (front bodies end : List ℕ) (len n : ℕ) → length front ≡ 56 → length end ≡ 8 → 56 + length bodies ≡ n → n + 8 ≤ len
    → length (front ++ bodies ++ end ++ replicate (len - length (front ++ bodies ++ end)) 0) ≡ len
whole_len front bodies end len n f e b le =
    let list = front ++ bodies ++ end in
    let size : length list ≡ n + 8 = length-append (front ++ bodies) end ∙ ap (λ k. k + length end) (length-append front bodies) ∙ omega (arith, f, e, b) in
    let zeros : List ℕ = replicate (len - length list) 0 in
    let more : length zeros ≡ len - length list = length-replicate (len - length list) 0 in
    length-append list zeros ∙ omega (arith, size, more, le)

pub bodies_len : (s : StoreState) → AreSpelled (body_bytes s) s.hobs → 56 + length (hobs_bytes s 56 s.hobs) ≡ end_place s
bodies_len s spelt = ap (λ n. 56 + n) (ap length (is_spelled s 56 s.hobs) ∙ spelled_len (body_bytes s) 56 s.hobs spelt)

pub image_len : (s : StoreState) → AreSpelled (body_bytes s) s.hobs → end_place s + 8 ≤ s.len → length (heap_image s) ≡ s.len
image_len s spelt room = whole_len (front_bytes s) (hobs_bytes s 56 s.hobs) (header_bytes END 8) s.len (end_place s) refl refl (bodies_len s spelt) room

pub has_room : (s : StoreState) → IsStoreState s → end_place s + 8 ≤ s.len
has_room s h = let room = h.room in omega (arith, room)

pub images_fill : ImagesFill
images_fill s h = image_len s (bodies_are_spelled s h) (has_room s h)

pub heaps_are_low : (s : StoreState) → IsStoreState s → s.base + s.len ≤ MOST_END
heaps_are_low s h = (all_fit.heap s h).end
