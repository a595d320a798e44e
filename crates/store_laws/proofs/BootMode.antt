-- The hand-off HOB changed alone.
use Rattle.std.proofs.Common.{◌≡◌, ℕ, ◌+◌, ◌-◌, ◌≤◌, List, ◌++◌, length, arith, ap, refl, sym, ◌∙◌, append_assoc, length-append, replicate}
use Rattle.pi_base.specs.Field.{little_bytes}
use Rattle.phys_mem.specs.Region.{replaced}
use Rattle.hob_codec.specs.declared.kind.TheConstants.{END}
use Rattle.store_model.specs.{declared.state.Body.Body, declared.state.HobEntry.HobEntry, StoreState.StoreState}
use Rattle.store_model.specs.declared.state.Body.TheVariants.{Bytes, Descriptor, Node, Allocation}
use Rattle.store_model.specs.HeapImage.{header_bytes, hobs_bytes, body_bytes}
use Rattle.store_model.specs.Service.Memory.{with_boot_mode}
use Rattle.store_laws.specs.{Growing.front_bytes, Changes.BootModesAreWritten}
use Rattle.store_laws.proofs.{HeapBodies.is_spelled, Mapped.replaced_front, Parts.replaced_len, Growing.same_spelled}

fronted : (old new hobs end text : List ℕ) (len at : ℕ) → new ≡ replaced old at text → at + length text ≤ length old
    → new ++ hobs ++ end ++ replicate (len - length (new ++ hobs ++ end)) 0 ≡ replaced (old ++ hobs ++ end ++ replicate (len - length (old ++ hobs ++ end)) 0) at text
fronted old new hobs end text len at e le =
    let size : length new ≡ length old = ap length e ∙ replaced_len old text at le in
    let a : length (new ++ hobs ++ end) ≡ length new + length hobs + length end = length-append (new ++ hobs) end ∙ ap (λ n. n + length end) (length-append new hobs) in
    let b : length (old ++ hobs ++ end) ≡ length old + length hobs + length end = length-append (old ++ hobs) end ∙ ap (λ n. n + length end) (length-append old hobs) in
    let same : length (new ++ hobs ++ end) ≡ length (old ++ hobs ++ end) = omega (arith, a, b, size) in
    let zeros : List ℕ = replicate (len - length (old ++ hobs ++ end)) 0 in
    let shape : (xs : List ℕ) → xs ++ hobs ++ end ++ zeros ≡ xs ++ (hobs ++ (end ++ zeros)) = λ xs. append_assoc (xs ++ hobs) end zeros ∙ append_assoc xs hobs (end ++ zeros) in
    ap (λ n. new ++ hobs ++ end ++ replicate (len - n) 0) same ∙ shape new ∙ ap (λ x. x ++ (hobs ++ (end ++ zeros))) e
    ∙ sym (replaced_front old (hobs ++ (end ++ zeros)) text at le) ∙ ap (λ x. replaced x at text) (sym (shape old))

mode_same : (s : StoreState) (mode place : ℕ) (body : Body) → body_bytes (with_boot_mode s mode) place body ≡ body_bytes s place body
mode_same s mode place (Bytes bytes) = refl
mode_same s mode place (Descriptor d) = refl
mode_same s mode place Node = refl
mode_same s mode place (Allocation a) = refl

mode_bytes : (s : StoreState) (mode at : ℕ) (hobs : List HobEntry) → hobs_bytes (with_boot_mode s mode) at hobs ≡ hobs_bytes s at hobs
mode_bytes s mode at hobs = is_spelled (with_boot_mode s mode) at hobs ∙ same_spelled (body_bytes s) (body_bytes (with_boot_mode s mode)) at hobs (mode_same s mode) ∙ sym (is_spelled s at hobs)

mode_replaced : (s : StoreState) (mode : ℕ) → front_bytes (with_boot_mode s mode) ≡ replaced (front_bytes s) 12 (little_bytes 4 mode)
mode_replaced s mode = refl

pub boot_modes_are_written : BootModesAreWritten
boot_modes_are_written s mode =
    let t = with_boot_mode s mode in
    ap (λ x. front_bytes t ++ x ++ header_bytes END 8 ++ replicate (s.len - length (front_bytes t ++ x ++ header_bytes END 8)) 0) (mode_bytes s mode 56 s.hobs)
    ∙ fronted (front_bytes s) (front_bytes t) (hobs_bytes s 56 s.hobs) (header_bytes END 8) (little_bytes 4 mode) s.len 12 (mode_replaced s mode) (omega arith)
