-- Where the files of a volume stand.
use Rattle.std.proofs.Common.{◌≡◌, ℕ, ◌+◌, ◌<◌, ◌≤◌, Bool, true, false, cond, List, [], ◌∷◌, ◌++◌, length, Option, Some, None, Result, Ok, Err, refl, sym, ap, arith, subst, All, length-take}
use Rattle.std.proofs.{lemmas.Bool.Decides.nat_tests, lemmas.List.Concat.flat_map-cons, lemmas.List.Elements.All-cons}
use Rattle.std.proofs.lemmas.List.Kept.{AllPairs-cons}
use Rattle.fv_volume.specs.{declared.item.Item.Item, declared.item.ItemKind.ItemKind, declared.file.FfsFile.FfsFile}
use Rattle.fv_volume.specs.declared.item.ItemKind.TheVariants.{Dead, Skipped, Pad, Listed}
use Rattle.fv_volume.specs.{declared.frame.Frame.Frame, declared.volume.Volume.Volume, declared.volume_header.Format.Format}
use Rattle.fv_volume.specs.{declared.volume_header.VolumeHeader.VolumeHeader, declared.extended_header.ExtendedHeader.ExtendedHeader}
use Rattle.fv_volume.specs.{declared.fault.VolFault.VolFault, VolumeHeader.volume_header, VolumeHeader.header_fault}
use Rattle.fv_volume.specs.{ExtendedHeader.extended_header, Item.listed_of, Search.Leads, Search.files_of, Volume.image_of, Volume.IsVolume}
use Rattle.fv_volume.specs.Frame.{aligned, frame_with, frame_or_fault, frame_of}
use Rattle.fv_volume.specs.Places.{AreInside, AreWithin, AreInOrder}
use Rattle.fv_volume.proofs.Items.{FileLies, item_lies}

-- files that stand from a place on up to an end
record Stand (from to : ℕ) (files : List FfsFile) : Type 0 where
  pub each : All (λ file. (from ≤ file.at) × (file.at < file.body_at) × (file.body_at + file.body_len ≤ to)) files
  pub order : AreInOrder files

lower : (from next to : ℕ) (files : List FfsFile) → from ≤ next → Stand next to files → Stand from to files
lower from next to files below s = record {
  each = λ k d within. let f = s.each k d within in (omega (arith, f.0), f.1, f.2);
  order = s.order;
}

stand_listed : (from next to : ℕ) (file : FfsFile) (files : List FfsFile) → file.at ≡ from → from < file.body_at → file.body_at + file.body_len ≤ next → file.body_at + file.body_len ≤ to
    → Stand next to files → Stand from to (file ∷ files)
stand_listed from next to file files here header before inside s = record {
  each = All-cons (λ f. (from ≤ f.at) × (f.at < f.body_at) × (f.body_at + f.body_len ≤ to)) file files (omega (arith, here), omega (arith, here), inside)
      (lower from next to files (omega arith) s).each;
  order = AllPairs-cons (λ a b. (a.at < b.at) × (a.body_at + a.body_len ≤ b.at)) file files
      (λ k d within. let f = s.each k d within in (omega (arith, f.0, here), omega (arith, f.0))) s.order;
}

stand_kind : (from next to end : ℕ) (kind : ItemKind) (files : List FfsFile) → FileLies from end kind → from ≤ end → end ≤ next → end ≤ to
    → Stand next to files → Stand from to (listed_of kind ++ files)
stand_kind from next to end (Listed file) files lies up before inside s = stand_listed from next to file files lies.0 lies.1 (omega (arith, lies.2)) (omega (arith, lies.2)) s
stand_kind from next to end Dead files lies up before inside s = lower from next to files (omega arith) s
stand_kind from next to end Skipped files lies up before inside s = lower from next to files (omega arith) s
stand_kind from next to end Pad files lies up before inside s = lower from next to files (omega arith) s

files_stand : (image : List ℕ) (format : Format) (from : ℕ) (items : List Item) (to : ℕ) → Leads image format from items to → Stand from (length image) (files_of items)
files_stand image format from [] to path = record { each = λ k d within. absurd (omega arith); order = λ i j d below within. absurd (omega arith) }
files_stand image format from (item ∷ rest) to path =
    let lies = item_lies image format from item path.0 path.1 in
    let behind = files_stand image format (aligned item.end) rest to path.2 in
    rw (flat_map-cons (λ i. listed_of i.kind) item rest)
    (stand_kind from (aligned item.end) (length image) item.end item.kind (files_of rest) lies.file (omega (arith, lies.begins)) (omega arith) lies.ends behind)

same_frame : (a b : Frame) → ◌≡◌ {A = Result Frame VolFault} (Ok a) (Ok b) → a ≡ b
same_frame a b e = cc

frame_len : (header : VolumeHeader) (fault : Option VolFault) (extended : Result (Option ExtendedHeader) VolFault) (frame : Frame)
    → frame_or_fault header fault extended ≡ Ok frame → (fault ≡ None) × (frame.len ≡ header.len)
frame_len header (Some fault) extended frame e = absurd cc
frame_len header None (Err fault) frame e = absurd cc
frame_len header None (Ok None) frame e = (refl, sym (ap (λ f. f.len) (same_frame (frame_with header None) frame e)))
frame_len header None (Ok (Some extended)) frame e = (refl, sym (ap (λ f. f.len) (same_frame (frame_with header (Some extended)) frame e)))

header_len : (bytes : List ℕ) (header : VolumeHeader) → header_fault bytes header ≡ None → header.len ≤ length bytes
header_len bytes header e = grind (arith, nat_tests)

header_some : (bytes : List ℕ) (header : VolumeHeader) → header_fault bytes header ≡ None → 0 < header.len
header_some bytes header e = grind (arith, nat_tests)

kept : (short : Bool) (fault : VolFault) (other : Result Frame VolFault) (frame : Frame) → cond short (Err fault) other ≡ Ok frame → other ≡ Ok frame
kept true fault other frame e = absurd cc
kept false fault other frame e = e

pub volume_len : (bytes : List ℕ) (frame : Frame) → frame_of bytes ≡ Ok frame → frame.len ≤ length bytes
volume_len bytes frame e =
    let header = volume_header bytes in
    let there = kept _ _ (frame_or_fault header (header_fault bytes header) (extended_header bytes header)) frame e in
    let f = frame_len header (header_fault bytes header) (extended_header bytes header) frame there in
    omega (arith, header_len bytes header f.0, f.1)

pub volume_some : (bytes : List ℕ) (frame : Frame) → frame_of bytes ≡ Ok frame → 0 < frame.len
volume_some bytes frame e =
    let header = volume_header bytes in
    let there = kept _ _ (frame_or_fault header (header_fault bytes header) (extended_header bytes header)) frame e in
    let f = frame_len header (header_fault bytes header) (extended_header bytes header) frame there in
    omega (arith, header_some bytes header f.0, f.1)

image_len : (bytes : List ℕ) (frame : Frame) → (length (image_of bytes frame) ≤ length bytes) × (length (image_of bytes frame) ≤ frame.len)
image_len bytes frame = (omega (arith, length-take frame.len bytes), omega (arith, length-take frame.len bytes))

volume_stands : (bytes : List ℕ) (volume : Volume) → IsVolume bytes volume → (from : ℕ) × (to : ℕ) × ((to ≤ length bytes) × (to ≤ volume.len)) × Stand from to volume.files
volume_stands bytes volume v =
    let frame = v.0 in
    let image = image_of bytes frame in
    let s = files_stand image frame.format frame.start v.4.0 v.4.1 v.4.2 in
    (frame.start, length image, ((image_len bytes frame).0, omega (arith, (image_len bytes frame).1, v.2)), subst (λ files. Stand frame.start (length image) files) (sym v.4.4) s)

pub volume_inside : (bytes : List ℕ) (volume : Volume) → IsVolume bytes volume → AreInside bytes volume.files
volume_inside bytes volume v = let s = volume_stands bytes volume v in λ k d within. let f = s.3.each k d within in (f.1, omega (arith, f.2, s.2.0))

pub volume_within : (bytes : List ℕ) (volume : Volume) → IsVolume bytes volume → AreWithin volume.len volume.files
volume_within bytes volume v = let s = volume_stands bytes volume v in λ k d within. let f = s.3.each k d within in omega (arith, f.2, s.2.1)

pub volume_in_order : (bytes : List ℕ) (volume : Volume) → IsVolume bytes volume → AreInOrder volume.files
volume_in_order bytes volume v = (volume_stands bytes volume v).3.order
