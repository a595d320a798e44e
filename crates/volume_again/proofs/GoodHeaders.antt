-- What a reader takes of a volume's headers, a line of its text can tell: its header's length, and its name with its place.
use Rattle.std.proofs.Common.{◌≡◌, ℕ, ◌+◌, ◌%◌, ◌<◌, ◌≤◌, ◌^◌, Bool, true, false, cond, List, length, drop, Option, Some, None, Result, Ok, Err, refl, sym, ap, ◌∙◌, subst, arith, ◌==◌, ◌&&◌, nat_lt, nat_le}
use Rattle.std.proofs.lemmas.Bool.Decides.{nat_tests}
use Rattle.hex.specs.Hex.{IsBytes}
use Rattle.pi_base.specs.{declared.guid.Guid.Guid, Field.little_number, Guids.guid_at}
use Rattle.pi_base.proofs.FieldLaws.{little_number-lt}
use Rattle.line_words.specs.PrintedWords.{IsGuid}
use Rattle.fv_volume.specs.{declared.volume.Volume.Volume, declared.fault.VolFault.VolFault}
use Rattle.fv_volume.specs.{VolumeHeader.volume_header, VolumeHeader.header_fault, ExtendedHeader.misplaced, ExtendedHeader.extended_header}
use Rattle.fv_volume.specs.{Frame.frame_with, Frame.frame_or_fault, Volume.IsVolume, declared.build.file_system.FileSystem.TheVariants.Ffs2}
use Rattle.fv_volume.specs.{declared.build.volume_header.VolumeForm.VolumeForm, declared.build.volume_name.VolumeName.VolumeName}
use Rattle.fv_volume.specs.{Header.plain, Front.is_placed, Reading.guid_of}
use Rattle.volume_text.specs.Words.{is_header}
use Rattle.volume_print.specs.Description.{file_system_in, told_attributes, form_in, name_at, name_in}
use Rattle.volume_again.specs.Again.{IsNameOfBytes}
use Rattle.volume_again.proofs.ListedFiles.{VolumeHeader, ExtendedHeader, Frame, frame_good}
use Rattle.volume_again.proofs.ByteRuns.{left_bytes, guid_there}

-- the tests of a header
even_length : (bytes : List ℕ) (header : VolumeHeader) → header_fault bytes header ≡ None → header.header_len % 2 ≡ 0
even_length bytes header e = grind (arith, nat_tests)

least_length : (bytes : List ℕ) (header : VolumeHeader) → header_fault bytes header ≡ None → 64 ≤ header.header_len
least_length bytes header e = grind (arith, nat_tests)

length_within : (bytes : List ℕ) (header : VolumeHeader) → header_fault bytes header ≡ None → header.header_len ≤ header.len
length_within bytes header e = grind (arith, nat_tests)

is_header_by : (len header_len : ℕ) → header_len % 2 ≡ 0 → 64 ≤ header_len → header_len < 2 ^ 16 → header_len ≤ len → is_header len header_len ≡ true
is_header_by len header_len even least short within =
    let a : nat_le 64 header_len ≡ true = grind (arith, nat_tests) in
    let b : (header_len % 2 == 0) ≡ true = ap (λ n. n == 0) even in
    let c : nat_lt header_len 65536 ≡ true = grind (arith, nat_tests) in
    let d : nat_le header_len len ≡ true = grind (arith, nat_tests) in
    ap (λ x. (x && ((header_len % 2 == 0) && nat_lt header_len 65536)) && nat_le header_len len) a
    ∙ ap (λ x. (x && nat_lt header_len 65536) && nat_le header_len len) b ∙ ap (λ x. x && nat_le header_len len) c ∙ d

-- the bytes are no fewer than the least header
least_bytes : (short : Bool) (bytes : List ℕ) (fault : VolFault) (other : Result Frame VolFault) (frame : Frame) → nat_lt (length bytes) 64 ≡ short → cond short (Err fault) other ≡ Ok frame → 64 ≤ length bytes
least_bytes true bytes fault other frame is e = absurd cc
least_bytes false bytes fault other frame is e = grind (arith, nat_tests)

-- where an extended header is found, its tests have passed
record IsFound (header_len at len size : ℕ) (one found : ExtendedHeader) : Type 0 where
  behind : header_len ≤ at
  room : at + 20 ≤ len
  least : 20 ≤ size
  all : at + size ≤ len
  same : one ≡ found

found_there : (header_len at len size : ℕ) (a b c d f : Bool) (one found : ExtendedHeader) → nat_lt at header_len ≡ b → nat_lt len (at + 20) ≡ c → nat_lt size 20 ≡ d → nat_lt len (at + size) ≡ f
    → cond a (Ok None) (cond b misplaced (cond c misplaced (cond d misplaced (cond f misplaced (Ok (Some one)))))) ≡ Ok (Some found) → IsFound header_len at len size one found
found_there header_len at len size true b c d f one found p q r s e = absurd cc
found_there header_len at len size false true c d f one found p q r s e = absurd cc
found_there header_len at len size false false true d f one found p q r s e = absurd cc
found_there header_len at len size false false false true f one found p q r s e = absurd cc
found_there header_len at len size false false false false true one found p q r s e = absurd cc
found_there header_len at len size false false false false false one found p q r s e =
    record { behind = grind (arith, nat_tests); room = grind (arith, nat_tests); least = grind (arith, nat_tests); all = grind (arith, nat_tests); same = cc }

-- the name of a volume, as its header says it
pub record IsGoodName (image : List ℕ) (header_len : ℕ) (called : Option Guid) : Type 0 where
  pub placed : is_placed header_len (name_in image called) ≡ true
  pub fits : IsNameOfBytes (name_in image called)
  pub same : guid_of (name_in image called) ≡ called

pub there_by : (image : List ℕ) (guid : Guid) (at : ℕ) → 64 ≤ length image → little_number 2 (drop 52 image) ≡ at → at + 20 ≤ length image
    → name_in image (Some guid) ≡ Some (record { guid = guid; at = at; size = little_number 4 (drop (at + 16) image) })
there_by image guid at long is room =
    let a : nat_lt (length image) 56 ≡ false = grind (arith, nat_tests) in
    let b : nat_lt (length image) (at + 20) ≡ false = grind (arith, nat_tests) in
    ap (λ t. cond t None (name_at image guid (little_number 2 (drop 52 image)))) a ∙ ap (name_at image guid) is
    ∙ ap (λ t. cond t None (Some (record { guid = guid; at = at; size = little_number 4 (drop (at + 16) image) }))) b

placed_by : (header_len : ℕ) (name : VolumeName) → header_len ≤ name.at → 20 ≤ name.size → is_placed header_len (Some name) ≡ true
placed_by header_len name behind least =
    let a : nat_le header_len name.at ≡ true = grind (arith, nat_tests) in
    let b : nat_le 20 name.size ≡ true = grind (arith, nat_tests) in
    ap (λ x. x && nat_le 20 name.size) a ∙ b

good_name : (image : List ℕ) (header : VolumeHeader) (found : Option ExtendedHeader) → IsBytes image → header.len ≤ length image → 64 ≤ length image
    → header.ext_header_at ≡ little_number 2 (drop 52 image) → extended_header image header ≡ Ok found → IsGoodName image header.header_len (frame_with header found).name
good_name image header None bytes within long place e = record { placed = refl; fits = tt; same = refl }
good_name image header (Some extended) bytes within long place e =
    let at = header.ext_header_at in
    let size = little_number 4 (drop (at + 16) image) in
    let one : ExtendedHeader = record { name = guid_at image at; end = at + size } in
    let f = found_there header.header_len at header.len size (at == 0) (nat_lt at header.header_len) (nat_lt header.len (at + 20)) (nat_lt size 20) (nat_lt header.len (at + size)) one extended
    refl refl refl refl e in
    let guid : guid_at image at ≡ extended.name = ap (λ (x : ExtendedHeader). x.name) f.same in
    let name : VolumeName = record { guid = extended.name; at = at; size = size } in
    let is : name_in image (Some extended.name) ≡ Some name = there_by image extended.name at long (sym place) (omega (arith, f.room, within)) in
    let small : little_number 2 (drop 52 image) < 2 ^ 16 = little_number-lt 2 (drop 52 image) (left_bytes 52 image bytes) in
    let near : at < 2 ^ 16 = omega (arith, place, small) in
    let fits : IsNameOfBytes (Some name) =
    (subst IsGuid guid (guid_there image at bytes (omega (arith, f.room, within))), near, little_number-lt 4 (drop (at + 16) image) (left_bytes (at + 16) image bytes)) in
    record {
      placed = ap (is_placed header.header_len) is ∙ placed_by header.header_len name f.behind f.least;
      fits = subst IsNameOfBytes (sym is) fits;
      same = ap guid_of is;
    }

-- the headers of a volume
pub record IsGoodHead (image : List ℕ) (volume : Volume) : Type 0 where
  pub header : is_header volume.len (form_in image).header_len ≡ true
  pub short : (form_in image).header_len < 2 ^ 16
  pub name : IsGoodName image (form_in image).header_len volume.name
  pub least : 64 ≤ volume.len

header_told : (image : List ℕ) → 64 ≤ length image → (form_in image).header_len ≡ little_number 2 (drop 48 image)
header_told image long =
    let a : nat_lt (length image) 56 ≡ false = grind (arith, nat_tests) in
    ap (λ t. (cond t (plain Ffs2) (let f : VolumeForm = record { file_system = file_system_in image; attributes = told_attributes (little_number 4 (drop 44 image)); header_len = little_number 2 (drop 48 image) } in f)).header_len) a

pub head_good : (image : List ℕ) (volume : Volume) → IsBytes image → IsVolume image volume → IsGoodHead image volume
head_good image volume bytes v =
    let header = volume_header image in
    let frame = v.0 in
    let f = frame_good image frame v.1 in
    let long = least_bytes (nat_lt (length image) 64) image _ (frame_or_fault header (header_fault image header) (extended_header image header)) frame refl v.1 in
    let told = header_told image long in
    let short : little_number 2 (drop 48 image) < 2 ^ 16 = little_number-lt 2 (drop 48 image) (left_bytes 48 image bytes) in
    let len : volume.len ≡ header.len = v.2 ∙ ap (λ (x : Frame). x.len) f.same ∙ same_len header f.found in
    let called : volume.name ≡ (frame_with header f.found).name = v.3 ∙ ap (λ (x : Frame). x.name) f.same in
    let name : IsGoodName image header.header_len (frame_with header f.found).name = good_name image header f.found bytes f.within long refl f.is in
    let least = least_length image header f.sound in
    let within = length_within image header f.sound in
    record {
      header = ap (λ n. is_header n (form_in image).header_len) len ∙ ap (is_header header.len) told
          ∙ is_header_by header.len header.header_len (even_length image header f.sound) least short within;
      short = omega (arith, told, short);
      name = subst (λ n. IsGoodName image n volume.name) (sym told) (subst (λ (o : Option Guid). IsGoodName image header.header_len o) (sym called) name);
      least = omega (arith, len, least, within);
    }
  where
    same_len : (header : VolumeHeader) (found : Option ExtendedHeader) → (frame_with header found).len ≡ header.len
    same_len header None = refl
    same_len header (Some extended) = refl
