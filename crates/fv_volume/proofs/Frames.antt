-- The frame of a volume, step by step.
use Rattle.std.proofs.Common.{◌≡◌, ℕ, ◌+◌, ◌≤◌, List, length, Option, Some, None, Result, ap, ◌∙◌, arith, IfSome}
use Rattle.std.proofs.lemmas.Bool.{cond_above}
use Rattle.fv_volume.specs.{declared.volume_header.VolumeHeader.VolumeHeader, declared.extended_header.ExtendedHeader.ExtendedHeader}
use Rattle.fv_volume.specs.{declared.frame.Frame.Frame, declared.fault.VolFault.VolFault}
use Rattle.fv_volume.specs.{VolumeHeader.volume_header, VolumeHeader.header_fault, ExtendedHeader.extended_header}
use Rattle.fv_volume.specs.Frame.{frame_with, frame_or_fault, frame_of}

-- the frame by the header, its fault and the extended header
pub framed : (bytes : List ℕ) (header : VolumeHeader) (fault : Option VolFault) (extended : Result (Option ExtendedHeader) VolFault) (r : Result Frame VolFault)
    → 64 ≤ length bytes → header ≡ volume_header bytes → fault ≡ header_fault bytes header → extended ≡ extended_header bytes header
    → r ≡ frame_or_fault header fault extended → r ≡ frame_of bytes
framed bytes header fault extended r long h f e is =
    cond_above (length bytes) 64 _ _ r long
    (is ∙ ap (λ x. frame_or_fault header x extended) f ∙ ap (λ x. frame_or_fault header (header_fault bytes header) x) e
    ∙ ap (λ x. frame_or_fault x (header_fault bytes x) (extended_header bytes x)) h)

-- the extended header leaves room to round up
pub extended_room : (extended : Option ExtendedHeader) (n most : ℕ) → IfSome extended (λ found. found.end ≤ n) → n + 8 ≤ most → IfSome extended (λ found. found.end + 8 ≤ most)
extended_room None n most within room = tt
extended_room (Some found) n most within room = omega arith

-- the search begins at most where the volume ends, rounded up
pub framed_within : (header : VolumeHeader) (extended : Option ExtendedHeader) (frame : Frame) (n : ℕ) → frame ≡ frame_with header extended
    → header.len ≤ n → header.header_len ≤ header.len → IfSome extended (λ found. found.end ≤ header.len) → (frame.len ≤ n) × (frame.start ≤ frame.len + 7)
framed_within header None frame n is long least within =
    let len = ap (λ f. f.len) is in
    let start = ap (λ f. f.start) is in
    (omega arith, omega arith)
framed_within header (Some found) frame n is long least within =
    let len = ap (λ f. f.len) is in
    let start = ap (λ f. f.start) is in
    (omega arith, omega arith)
