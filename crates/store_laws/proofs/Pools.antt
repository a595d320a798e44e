-- Bytes written into a pool.
use Rattle.std.proofs.Common.{◌≡◌, ℕ, List, length, arith, refl, ◌∙◌}
use Rattle.phys_mem.specs.Region.{replaced}
use Rattle.store_model.specs.{declared.state.Body.Body, StoreState.StoreState, StoreState.body_len}
use Rattle.store_model.specs.declared.state.Body.TheVariants.{Bytes, Descriptor, Node, Allocation}
use Rattle.store_model.specs.{HeapImage.body_bytes, HeapImage.heap_image, Service.Pool.written}
use Rattle.store_laws.specs.Changes.{PoolsAreWritten}
use Rattle.store_laws.proofs.Facts.{bodies_are_spelled, places_are_inside, images_fill, has_room}
use Rattle.store_laws.proofs.{Parts.part_replaced, Parts.replaced_len, Reading.image_at, Rebodied.rebodied, Rebodied.body_written}

written_len : (s : StoreState) (at : ℕ) (bytes : List ℕ) (body : Body) → ((place : ℕ) → length (body_bytes s place body) ≡ body_len body) → (place : ℕ) → length (body_bytes s place (written at bytes body)) ≡ body_len (written at bytes body)
written_len s at bytes (Bytes old) h place = refl
written_len s at bytes (Descriptor d) h place = h place
written_len s at bytes Node h place = h place
written_len s at bytes (Allocation a) h place = h place

pub pools_are_written : PoolsAreWritten
pools_are_written s place at old bytes h found fits =
    let image = heap_image s in
    let t = rebodied s s.ppis s.pendings (written at bytes) place in
    let size : length (replaced old at bytes) ≡ length old = replaced_len old bytes at fits in
    let inside = places_are_inside s place (Bytes old) found in
    let full = images_fill s h in
    let room = has_room s h in
    body_written s s.ppis s.pendings (written at bytes) place (Bytes old) h found size size (λ p n. refl) (written_len t at bytes)
    ∙ part_replaced image old bytes place at (image_at s place (Bytes old) (bodies_are_spelled s h) found) (omega (arith, inside.1, full, room)) fits
