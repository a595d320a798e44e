-- What a reader lists of bytes: files at multiples of 8, none of them a pad, with names, types and bodies of bytes.
use Rattle.std.proofs.Common.{◌≡◌, ℕ, ◌+◌, ◌-◌, ◌%◌, ◌<◌, ◌≤◌, Bool, true, false, cond, List, [], ◌∷◌, ◌++◌, length, take, drop, Option, Some, None, Result, Ok, Err, refl, sym, ap, ◌∙◌, subst, arith, slice_index, not, ◌==◌, nat_lt}
use Rattle.std.specs.List.{AllByRecursion}
use Rattle.std.proofs.{lemmas.Bool.Decides.nat_tests, lemmas.List.Concat.flat_map-cons}
use Rattle.hex.specs.Hex.{IsBytes}
use Rattle.pi_base.specs.{Field.little_number, Guids.guid_at}
use Rattle.line_words.specs.PrintedWords.{IsGuid}
use Rattle.fv_volume.specs.{declared.file.FfsFile.FfsFile, declared.volume.Volume.Volume, declared.fault.VolCause.VolCause}
use Rattle.fv_volume.specs.declared.fault.VolCause.TheVariants.{FileSum, FileSize}
use Rattle.fv_volume.specs.{declared.fault.VolFault.VolFault, VolumeHeader.volume_header, VolumeHeader.header_fault}
use Rattle.fv_volume.specs.FileState.{file_state, is_dead, is_whole}
use Rattle.fv_volume.specs.FileHeader.{is_large, fields_at, file_header, header_sum, size_is_wrong, data_is_wrong}
use Rattle.fv_volume.specs.Item.{body_of, sound_item, item_of, item_or_cause, item_at, listed_of}
use Rattle.fv_volume.specs.{ExtendedHeader.extended_header, Volume.IsVolume}
use Rattle.fv_volume.specs.Frame.{aligned, frame_with, frame_or_fault, frame_of}
use Rattle.fv_volume.specs.Search.{ends_at, Leads, files_of}
use Rattle.fv_volume.proofs.{Items.has_room, Spelled.ones}
use Rattle.volume_again.proofs.{ByteRuns.taken_bytes, ByteRuns.guid_there, StandAgain.IsListedFile}

-- the types of values that have no public name
abbrev pub TypeOf : {A : Type 0} → A → Type 0
TypeOf {A} x = A

abbrev pub TypeIn : {A E : Type 0} → Result A E → Type 0
TypeIn {A} r = A

abbrev TypeSome : {A : Type 0} → Option A → Type 0
TypeSome {A} o = A

abbrev pub TypeInSome : {A E : Type 0} → Result (Option A) E → Type 0
TypeInSome {A} r = A

abbrev Format : Type 0
Format = TypeOf (ones true)

abbrev Item : Type 0
Item = TypeIn (item_at [] (ones true) 0)

abbrev FileHeader : Type 0
FileHeader = TypeSome (file_header [] (ones true) 0)

abbrev FileState : Type 0
FileState = TypeOf (file_state 0 0)

abbrev pub VolumeHeader : Type 0
VolumeHeader = TypeOf (volume_header [])

abbrev pub ExtendedHeader : Type 0
ExtendedHeader = TypeInSome (extended_header [] (volume_header []))

abbrev pub Frame : Type 0
Frame = TypeIn (frame_of [])

-- a header's name and type
record HasFields (image : List ℕ) (at : ℕ) (header : FileHeader) : Type 0 where
  name : header.name ≡ guid_at image at
  kind : header.kind ≡ slice_index image (at + 18)

same_header : (a b : FileHeader) (P : FileHeader → Type 0) → ◌≡◌ {A = Option FileHeader} (Some a) (Some b) → P a → P b
same_header a b P e p = let s : a ≡ b = cc in subst P s p

one_of_two : (P : FileHeader → Type 0) (large passes : Bool) (short long header : FileHeader) → P short → P long → cond (not large) (Some short) (cond passes None (Some long)) ≡ Some header → P header
one_of_two P false passes short long header p q e = same_header short header P e p
one_of_two P true true short long header p q e = absurd cc
one_of_two P true false short long header p q e = same_header long header P e q

header_fields : (image : List ℕ) (format : Format) (at : ℕ) (header : FileHeader) → file_header image format at ≡ Some header → HasFields image at header
header_fields image format at header e =
    one_of_two (HasFields image at) (is_large image format at) (nat_lt (length image) (at + 32)) (fields_at image at 24 (little_number 3 (drop (at + 20) image)))
    (fields_at image at 32 (little_number 8 (drop (at + 24) image))) header (record { name = refl; kind = refl }) (record { name = refl; kind = refl }) e

-- what is listed at a place
abbrev IsGoodItem : Item → Type 0
IsGoodItem item = AllByRecursion IsListedFile (listed_of item.kind)

failed : {A : Type 0} (b : Bool) (cause : VolCause) (other : Result A VolCause) (item : A) → cond b (Err cause) other ≡ Ok item → other ≡ Ok item
failed true cause other item e = absurd cc
failed false cause other item e = e

same_ok : {A : Type 0} (a b : A) (P : A → Type 0) → ◌≡◌ {A = Result A VolCause} (Ok a) (Ok b) → P a → P b
same_ok {A} a b P e p = let s : a ≡ b = cc in subst P s p

sound_good : (image : List ℕ) (at : ℕ) (state : FileState) (header : FileHeader) (item : Item) (whole wrong pad : Bool) → is_whole state ≡ whole
    → data_is_wrong header (body_of image at header) ≡ wrong → (header.kind == 240) ≡ pad → at % 8 ≡ 0 → header.kind < 256 → IsGuid header.name
    → sound_item image at state header ≡ Ok item → IsGoodItem item
sound_good image at state header item false wrong pad p q r even fits name e = same_ok _ item IsGoodItem (rw p at e) tt
sound_good image at state header item true true pad p q r even fits name e = absurd (let e2 = rw (p, q) at e in cc)
sound_good image at state header item true false true p q r even fits name e = same_ok _ item IsGoodItem (rw (p, q, r) at e) tt
sound_good image at state header item true false false p q r even fits name e =
    same_ok _ item IsGoodItem (rw (p, q, r) at e) (record { even = even; no_pad = r; kind = fits; name = name }, tt)

good_of : (image : List ℕ) (format : Format) (at : ℕ) (state : FileState) (header : FileHeader) (item : Item) → at % 8 ≡ 0 → header.kind < 256 → IsGuid header.name
    → item_of image format at state header ≡ Ok item → IsGoodItem item
good_of image format at state header item even fits name e =
    let wrong = size_is_wrong format (length image - at) header in
    let summed = failed (not (header_sum (take header.len (drop at image)) == 0)) FileSum (cond wrong (Err FileSize) (sound_item image at state header)) item e in
    let sized = failed wrong FileSize (sound_item image at state header) item summed in
    sound_good image at state header item (is_whole state) (data_is_wrong header (body_of image at header)) (header.kind == 240) refl refl refl even fits name sized

by_header : (image : List ℕ) (format : Format) (at : ℕ) (state : FileState) (header : Option FileHeader) (item : Item) → at % 8 ≡ 0 → IsBytes image → at + 24 ≤ length image
    → ((h : FileHeader) → header ≡ Some h → HasFields image at h) → item_or_cause image format at state header ≡ Ok item → IsGoodItem item
by_header image format at state None item even bytes room fields e = absurd cc
by_header image format at state (Some header) item even bytes room fields e =
    let f = fields header refl in
    let byte : slice_index image (at + 18) < 256 = bytes (at + 18) in
    good_of image format at state header item even (omega (arith, f.kind, byte)) (subst IsGuid (sym f.name) (guid_there image at bytes (omega (arith, room)))) e

by_state : (image : List ℕ) (format : Format) (at : ℕ) (item : Item) (dead : Bool) → is_dead (file_state format.erased (slice_index image (at + 23))) ≡ dead
    → (item_or_cause image format at (file_state format.erased (slice_index image (at + 23))) (file_header image format at) ≡ Ok item → IsGoodItem item)
    → item_at image format at ≡ Ok item → IsGoodItem item
by_state image format at item true p go e = same_ok _ item IsGoodItem (rw p at e) tt
by_state image format at item false p go e = go (rw p at e)

item_good : (image : List ℕ) (format : Format) (at : ℕ) (item : Item) → at % 8 ≡ 0 → IsBytes image → ends_at image format at ≡ false → item_at image format at ≡ Ok item → IsGoodItem item
item_good image format at item even bytes on e =
    let state = file_state format.erased (slice_index image (at + 23)) in
    by_state image format at item (is_dead state) refl
    (by_header image format at state (file_header image format at) item even bytes (has_room image format at on) (header_fields image format at)) e

all_then : (xs ys : List FfsFile) → AllByRecursion IsListedFile xs → AllByRecursion IsListedFile ys → AllByRecursion IsListedFile (xs ++ ys)
all_then [] ys a b = b
all_then (x ∷ xs) ys a b = (a.0, all_then xs ys a.1 b)

files_good : (image : List ℕ) (format : Format) (from : ℕ) (items : List Item) (to : ℕ) → IsBytes image → from % 8 ≡ 0 → Leads image format from items to → AllByRecursion IsListedFile (files_of items)
files_good image format from [] to bytes even path = tt
files_good image format from (item ∷ rest) to bytes even path =
    let behind = files_good image format (aligned item.end) rest to bytes (omega arith) path.2 in
    rw (flat_map-cons (λ (i : Item). listed_of i.kind) item rest) (all_then (listed_of item.kind) (files_of rest) (item_good image format from item even bytes path.0 path.1) behind)

-- the frame of a volume
same_frame : (a b : Frame) → ◌≡◌ {A = Result Frame VolFault} (Ok a) (Ok b) → a ≡ b
same_frame a b e = cc

pub record IsGoodFrame (bytes : List ℕ) (header : VolumeHeader) (extended : Result (Option ExtendedHeader) VolFault) (frame : Frame) : Type 0 where
  pub even : frame.start % 8 ≡ 0
  pub sound : header_fault bytes header ≡ None
  pub within : header.len ≤ length bytes
  pub found : Option ExtendedHeader
  pub is : extended ≡ Ok found
  pub same : frame ≡ frame_with header found

start_even : (header : VolumeHeader) (found : Option ExtendedHeader) → (frame_with header found).start % 8 ≡ 0
start_even header None = omega arith
start_even header (Some extended) = omega arith

header_within : (bytes : List ℕ) (header : VolumeHeader) → header_fault bytes header ≡ None → header.len ≤ length bytes
header_within bytes header e = grind (arith, nat_tests)

good_frame : (bytes : List ℕ) (header : VolumeHeader) (fault : Option VolFault) (extended : Result (Option ExtendedHeader) VolFault) (frame : Frame) → header_fault bytes header ≡ fault
    → frame_or_fault header fault extended ≡ Ok frame → IsGoodFrame bytes header extended frame
good_frame bytes header (Some fault) extended frame is e = absurd cc
good_frame bytes header None (Err fault) frame is e = absurd cc
good_frame bytes header None (Ok found) frame is e =
    let same : frame ≡ frame_with header found = sym (same_frame (frame_with header found) frame e) in
    record { even = ap (λ f. f.start % 8) same ∙ start_even header found; sound = is; within = header_within bytes header is; found = found; is = refl; same = same }

pub kept : (short : Bool) (fault : VolFault) (other : Result Frame VolFault) (frame : Frame) → cond short (Err fault) other ≡ Ok frame → other ≡ Ok frame
kept true fault other frame e = absurd cc
kept false fault other frame e = e

pub frame_good : (bytes : List ℕ) (frame : Frame) → frame_of bytes ≡ Ok frame → IsGoodFrame bytes (volume_header bytes) (extended_header bytes (volume_header bytes)) frame
frame_good bytes frame e =
    let header = volume_header bytes in
    let there = kept _ _ (frame_or_fault header (header_fault bytes header) (extended_header bytes header)) frame e in
    good_frame bytes header (header_fault bytes header) (extended_header bytes header) frame refl there

-- the files of a volume
pub volume_good : (bytes : List ℕ) (volume : Volume) → IsBytes bytes → IsVolume bytes volume → AllByRecursion IsListedFile volume.files
volume_good bytes volume fit v =
    let frame = v.0 in
    subst (AllByRecursion IsListedFile) (sym v.4.4)
    (files_good (take frame.len bytes) frame.format frame.start v.4.0 v.4.1 (taken_bytes frame.len bytes fit) (frame_good bytes frame v.1).even v.4.2)
