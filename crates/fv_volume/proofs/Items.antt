-- Where a sound item lies.
use Rattle.std.proofs.Common.{◌≡◌, ℕ, ◌+◌, ◌-◌, ◌<◌, ◌≤◌, Bool, true, false, cond, List, length, Option, Some, None, Result, Ok, Err, refl, arith, subst, take, drop, slice_index, not, ◌==◌}
use Rattle.std.proofs.lemmas.Bool.Decides.{nat_tests}
use Rattle.fv_volume.specs.{declared.item.Item.Item, declared.item.ItemKind.ItemKind, declared.file_header.FileHeader.FileHeader}
use Rattle.fv_volume.specs.declared.item.ItemKind.TheVariants.{Dead, Skipped, Pad, Listed}
use Rattle.fv_volume.specs.{declared.file_state.FileState.FileState, declared.volume_header.Format.Format, declared.fault.VolCause.VolCause}
use Rattle.fv_volume.specs.declared.fault.VolCause.TheVariants.{FileSum, FileSize, DataSum}
use Rattle.fv_volume.specs.{declared.file_type.TheConstants.PAD, Search.ends_at}
use Rattle.fv_volume.specs.FileState.{file_state, is_dead, is_whole}
use Rattle.fv_volume.specs.FileHeader.{file_header, header_sum, size_is_wrong, data_is_wrong}
use Rattle.fv_volume.specs.Item.{file_of, body_of, sound_item, item_of, item_or_cause, item_at}

-- the file of an item stands at its place and fills it
abbrev pub FileLies : ℕ → ℕ → ItemKind → Type 0
FileLies at end (Listed file) = (file.at ≡ at) × (at < file.body_at) × (file.body_at + file.body_len ≡ end)
FileLies at end _ = Unit {0}

-- an item lies in the bytes from its place on
pub record Lies (image : List ℕ) (at : ℕ) (item : Item) : Type 0 where
  pub begins : at + 24 ≤ item.end
  pub ends : item.end ≤ length image
  pub file : FileLies at item.end item.kind

-- where the search goes on a header has room
pub has_room : (image : List ℕ) (format : Format) (at : ℕ) → ends_at image format at ≡ false → at + 24 ≤ length image
has_room image format at on = grind (arith, nat_tests)

-- a choice of an item that is no fault
failed : (b : Bool) (cause : VolCause) (other : Result Item VolCause) (item : Item) → cond b (Err cause) other ≡ Ok item → (b ≡ false) × (other ≡ Ok item)
failed true cause other item e = absurd cc
failed false cause other item e = (refl, e)

same_item : (a b : Item) (P : Item → Type 0) → ◌≡◌ {A = Result Item VolCause} (Ok a) (Ok b) → P a → P b
same_item a b P e p = let s : a ≡ b = cc in subst P s p

pub size_fits : (format : Format) (room : ℕ) (header : FileHeader) → size_is_wrong format room header ≡ false → (header.len ≤ header.size) × (header.size ≤ room)
size_fits format room header e =
    let fits : header.size ≤ room = grind (arith, nat_tests) in
    let least : header.len ≤ header.size = grind (arith, nat_tests) in
    (least, fits)

header_fits : (image : List ℕ) (format : Format) (at : ℕ) (header : FileHeader) → file_header image format at ≡ Some header → 24 ≤ header.len
header_fits image format at header e = grind (arith, nat_tests)

-- the item of a header, by whether it is whole, wrong or a pad
sound_lies : (image : List ℕ) (at : ℕ) (header : FileHeader) (item : Item) (whole wrong pad : Bool)
    → 24 ≤ header.len → header.len ≤ header.size → at + header.size ≤ length image
    → cond (not whole) (Ok (record { kind = Skipped; end = at + header.size })) (cond wrong (Err DataSum)
    (cond pad (Ok (record { kind = Pad; end = at + header.size })) (Ok (record { kind = Listed (file_of at header); end = at + header.size })))) ≡ Ok item
    → Lies image at item
sound_lies image at header item false wrong pad least fits room e = same_item _ item (Lies image at) e (record { begins = omega arith; ends = room; file = tt })
sound_lies image at header item true true pad least fits room e = absurd cc
sound_lies image at header item true false true least fits room e = same_item _ item (Lies image at) e (record { begins = omega arith; ends = room; file = tt })
sound_lies image at header item true false false least fits room e = same_item _ item (Lies image at) e (record { begins = omega arith; ends = room; file = (refl, omega arith, omega arith) })

lies_of : (image : List ℕ) (format : Format) (at : ℕ) (state : FileState) (header : FileHeader) (item : Item)
    → at + 24 ≤ length image → 24 ≤ header.len → item_of image format at state header ≡ Ok item → Lies image at item
lies_of image format at state header item room least e =
    let wrong = size_is_wrong format (length image - at) header in
    let summed = failed (not (header_sum (take header.len (drop at image)) == 0)) FileSum (cond wrong (Err FileSize) (sound_item image at state header)) item e in
    let sized = failed wrong FileSize (sound_item image at state header) item summed.1 in
    let fits = size_fits format (length image - at) header sized.0 in
    sound_lies image at header item (is_whole state) (data_is_wrong header (body_of image at header)) (header.kind == PAD) least fits.0 (omega (arith, fits.1)) sized.1

by_header : (image : List ℕ) (format : Format) (at : ℕ) (state : FileState) (header : Option FileHeader) (item : Item)
    → at + 24 ≤ length image → ((h : FileHeader) → header ≡ Some h → 24 ≤ h.len) → item_or_cause image format at state header ≡ Ok item → Lies image at item
by_header image format at state None item room least e = absurd cc
by_header image format at state (Some header) item room least e = lies_of image format at state header item room (least header refl) e

by_state : (image : List ℕ) (at : ℕ) (dead : Bool) (other : Result Item VolCause) (item : Item) → at + 24 ≤ length image → (other ≡ Ok item → Lies image at item)
    → cond dead (Ok (record { kind = Dead; end = at + 24 })) other ≡ Ok item → Lies image at item
by_state image at true other item room go e = same_item _ item (Lies image at) e (record { begins = omega arith; ends = room; file = tt })
by_state image at false other item room go e = go e

pub item_lies : (image : List ℕ) (format : Format) (at : ℕ) (item : Item) → ends_at image format at ≡ false → item_at image format at ≡ Ok item → Lies image at item
item_lies image format at item on e =
    let room = has_room image format at on in
    let state = file_state format.erased (slice_index image (at + 23)) in
    by_state image at (is_dead state) (item_or_cause image format at state (file_header image format at)) item room
    (by_header image format at state (file_header image format at) item room (header_fits image format at)) e
