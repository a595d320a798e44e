-- The form of a volume that is built again is the one that its text says.
use Rattle.std.proofs.Common.{◌≡◌, inl, inr, ℕ, ◌+◌, ◌-◌, ◌*◌, ◌<◌, ◌≤◌, ◌^◌, Bool, true, false, cond, List, ◌++◌, length, drop, replicate, Option, Some, None, refl, sym, ap, ◌∙◌, arith, append_assoc, nat_lt, nat_le, bit_and, bit_or, bit_xor, ◌==◌}
use Rattle.std.proofs.{lemmas.Bool.and_parts, lemmas.Bool.cases_lt, lemmas.List.length-replicate, lemmas.Bool.Decides.nat_tests}
use Rattle.std.proofs.lemmas.Nat.{and_or_self, or_lt}
use Rattle.std.specs.Int.{bit_at}
use Rattle.std.proofs.lemmas.Nat.Bits.{bit_at_or, bit_at_xor, bit_at-lt, bit_at-pow_same, bit_at-pow_other, and_pow, same_from_bits}
use Rattle.pi_base.specs.Field.{little_number, little_bytes}
use Rattle.pi_base.proofs.FieldLaws.{little_number-little_bytes}
use Rattle.fv_volume.specs.declared.build.file_system.FileSystem.{FileSystem}
use Rattle.fv_volume.specs.declared.build.file_system.FileSystem.TheVariants.{Ffs2, Ffs3}
use Rattle.fv_volume.specs.{declared.build.new_file.NewFile.NewFile, declared.build.volume_header.VolumeForm.VolumeForm}
use Rattle.fv_volume.specs.{Checksum.checksum16, declared.build.volume_name.VolumeName.VolumeName}
use Rattle.fv_volume.specs.Header.{plain, head_of, header_with, volume_header}
use Rattle.fv_volume.specs.Front.{ext_at, extended_bytes, name_part, front_len, is_placed}
use Rattle.fv_volume.specs.{Building.filled_from, Building.volume_bytes, Reading.IsWhole, Reading.guid_of}
use Rattle.fv_volume.proofs.{Parts.drop_behind, Parts.drop_text, VolumesRead.length-header}
use Rattle.volume_print.specs.Description.{file_system_in, told_attributes, form_in, name_in}
use Rattle.volume_again.proofs.GoodHeaders.{there_by}

-- a bit that is set may be taken out and put back
set_there : (n i : ℕ) → i ≡ 11 → bit_at n 11 ≡ 1 → bit_at (bit_or (bit_xor n 2048) 2048) i ≡ bit_at n i
set_there n i same set =
    let here : bit_at 2048 i ≡ 1 = ap (bit_at 2048) same ∙ bit_at-pow_same 11 in
    let one : bit_at n i ≡ 1 = ap (bit_at n) same ∙ set in
    omega (arith, bit_at_or (bit_xor n 2048) 2048 i, here, one, bit_at-lt (bit_xor n 2048) i)

set_other : (n i : ℕ) → (i ≡ 11 → ⊥) → bit_at (bit_or (bit_xor n 2048) 2048) i ≡ bit_at n i
set_other n i other =
    let none : bit_at 2048 i ≡ 0 = bit_at-pow_other 11 i other in
    omega (arith, bit_at_or (bit_xor n 2048) 2048 i, bit_at_xor n 2048 i, none, bit_at-lt n i)

by_place : (n i : ℕ) → bit_at n 11 ≡ 1 → bit_at (bit_or (bit_xor n 2048) 2048) i ≡ bit_at n i
by_place n i set =
    elim (cases_lt i 11) [
      | inl below ↦ set_other n i (λ e. absurd (omega (arith, e, below)))
      | inr least ↦ elim (cases_lt 11 i) [ inl above ↦ set_other n i (λ e. absurd (omega (arith, e, above))) | inr most ↦ set_there n i (omega (arith, least, most)) set ]
    ]

put_back : (n : ℕ) → (bit_and n 2048 == 0) ≡ false → bit_or (bit_xor n 2048) 2048 ≡ n
put_back n some =
    let bit : bit_and n 2048 ≡ bit_at n 11 * 2048 = and_pow n 11 in
    let set : bit_at n 11 ≡ 1 = grind (arith, nat_tests, bit_at-lt) in
    same_from_bits (bit_or (bit_xor n 2048) 2048) n (λ i. by_place n i set)

-- attributes that are told are told again
pub record IsTold (attributes : ℕ) : Type 0 where
  pub same : bit_xor (bit_or attributes 2048) 2048 ≡ attributes
  pub fits : attributes < 2 ^ 32

told_same : (test : Bool) (n : ℕ) → (bit_and n 2048 == 0) ≡ test → bit_xor (bit_or (cond test 0 (bit_xor n 2048)) 2048) 2048 ≡ cond test 0 (bit_xor n 2048)
told_same true n is = refl
told_same false n is = ap (λ k. bit_xor k 2048) (put_back n is)

form_same : (short : Bool) (none form : VolumeForm) → bit_xor (bit_or none.attributes 2048) 2048 ≡ none.attributes → bit_xor (bit_or form.attributes 2048) 2048 ≡ form.attributes
    → bit_xor (bit_or (cond short none form).attributes 2048) 2048 ≡ (cond short none form).attributes
form_same true none form p q = p
form_same false none form p q = q

pub is_told : (image : List ℕ) → (form_in image).attributes < 2 ^ 32 → IsTold (form_in image).attributes
is_told image fits =
    let n = little_number 4 (drop 44 image) in
    record {
      same = form_same (nat_lt (length image) 56) (plain Ffs2) (record { file_system = file_system_in image; attributes = told_attributes n; header_len = little_number 2 (drop 48 image) }) refl (told_same (bit_and n 2048 == 0) n refl);
      fits = fits;
    }

-- what the header of a built volume says
abbrev of : FileSystem → ℕ → ℕ → VolumeForm
of file_system attributes header_len = record { file_system = file_system; attributes = attributes; header_len = header_len }

abbrev front_bytes : VolumeForm → ℕ → ℕ → ℕ → List ℕ
front_bytes form at len checksum = header_with (head_of form at len) checksum

header_says : (file_system : FileSystem) (attributes header_len at len checksum : ℕ) (rest : List ℕ) → nat_lt (length (front_bytes (of file_system attributes header_len) at len checksum ++ rest)) 56 ≡ false
    → attributes < 2 ^ 32 → header_len < 2 ^ 16
    → form_in (front_bytes (of file_system attributes header_len) at len checksum ++ rest) ≡ of file_system (told_attributes (bit_or attributes 2048)) header_len
header_says Ffs2 attributes header_len at len checksum rest long fits short =
    let bytes = front_bytes (of Ffs2 attributes header_len) at len checksum ++ rest in
    let number : little_number 4 (drop 44 bytes) ≡ bit_or attributes 2048 = little_number-little_bytes 4 (bit_or attributes 2048) (drop 48 bytes) (or_lt 32 attributes 2048 fits (omega arith)) in
    let size : little_number 2 (drop 48 bytes) ≡ header_len = little_number-little_bytes 2 header_len (drop 50 bytes) short in
    ap (λ b. cond b (plain Ffs2) (of (file_system_in bytes) (told_attributes (little_number 4 (drop 44 bytes))) (little_number 2 (drop 48 bytes)))) long
    ∙ ap (λ n. of Ffs2 (told_attributes n) (little_number 2 (drop 48 bytes))) number ∙ ap (of Ffs2 (told_attributes (bit_or attributes 2048))) size
header_says Ffs3 attributes header_len at len checksum rest long fits short =
    let bytes = front_bytes (of Ffs3 attributes header_len) at len checksum ++ rest in
    let number : little_number 4 (drop 44 bytes) ≡ bit_or attributes 2048 = little_number-little_bytes 4 (bit_or attributes 2048) (drop 48 bytes) (or_lt 32 attributes 2048 fits (omega arith)) in
    let size : little_number 2 (drop 48 bytes) ≡ header_len = little_number-little_bytes 2 header_len (drop 50 bytes) short in
    ap (λ b. cond b (plain Ffs2) (of (file_system_in bytes) (told_attributes (little_number 4 (drop 44 bytes))) (little_number 2 (drop 48 bytes)))) long
    ∙ ap (λ n. of Ffs3 (told_attributes n) (little_number 2 (drop 48 bytes))) number ∙ ap (of Ffs3 (told_attributes (bit_or attributes 2048))) size

told_back : (attributes : ℕ) → IsTold attributes → told_attributes (bit_or attributes 2048) ≡ attributes
told_back attributes is =
    let set : (bit_and (bit_or attributes 2048) 2048 == 0) ≡ false = ap (λ n. n == 0) (and_or_self 2048 attributes) in
    ap (λ b. cond b 0 (bit_xor (bit_or attributes 2048) 2048)) set ∙ is.same

-- a built volume has its form
pub form_again : (form : VolumeForm) (called : Option VolumeName) (files : List NewFile) (len : ℕ) → length (volume_bytes form called files len) ≡ len → 64 ≤ len → form.header_len < 2 ^ 16
    → IsTold form.attributes → form_in (volume_bytes form called files len) ≡ form
form_again form called files len long least short is =
    let some : nat_lt (length (volume_bytes form called files len)) 56 ≡ false = grind (arith, nat_tests) in
    header_says form.file_system form.attributes form.header_len (ext_at called) len (checksum16 (header_with (head_of form (ext_at called) len) 0))
    (name_part form.header_len called ++ filled_from form.file_system (front_len form called) files len) some is.fits short
    ∙ ap (λ n. of form.file_system n form.header_len) (told_back form.attributes is)

-- and its name, at its place
place_says : (file_system : FileSystem) (attributes header_len at len checksum : ℕ) (rest : List ℕ) → at < 2 ^ 16
    → little_number 2 (drop 52 (front_bytes (of file_system attributes header_len) at len checksum ++ rest)) ≡ at
place_says Ffs2 attributes header_len at len checksum rest near = little_number-little_bytes 2 at (drop 54 (front_bytes (of Ffs2 attributes header_len) at len checksum ++ rest)) near
place_says Ffs3 attributes header_len at len checksum rest near = little_number-little_bytes 2 at (drop 54 (front_bytes (of Ffs3 attributes header_len) at len checksum ++ rest)) near

size_says : (name : VolumeName) (rest bytes : List ℕ) → length name.guid.0 ≡ 16 → name.size < 2 ^ 32 → drop name.at bytes ≡ extended_bytes name ++ rest → little_number 4 (drop (name.at + 16) bytes) ≡ name.size
size_says name rest bytes whole fits here =
    let entries : List ℕ = replicate (name.size - 20) 255 in
    let behind = little_bytes 4 name.size ++ entries in
    ap (little_number 4) (drop_behind 16 name.at bytes _ (here ∙ append_assoc name.guid.0 behind rest) ∙ drop_text 16 name.guid.0 (behind ++ rest) (sym whole)
    ∙ append_assoc (little_bytes 4 name.size) entries rest)
    ∙ little_number-little_bytes 4 name.size (entries ++ rest) fits

extended_here : (form : VolumeForm) (name : VolumeName) (header rest : List ℕ) → form.header_len ≤ name.at → length header ≡ form.header_len
    → drop name.at (header ++ (name_part form.header_len (Some name) ++ rest)) ≡ extended_bytes name ++ rest
extended_here form name header rest placed long =
    let g = name.at - form.header_len in
    let before : List ℕ = replicate g 255 in
    let bytes = header ++ (name_part form.header_len (Some name) ++ rest) in
    let place : form.header_len + g ≡ name.at = omega (arith, placed) in
    ap (λ n. drop n bytes) (sym place)
    ∙ drop_behind g form.header_len bytes _ (drop_text form.header_len header (name_part form.header_len (Some name) ++ rest) (sym long))
    ∙ ap (drop g) (append_assoc before (extended_bytes name) rest) ∙ drop_text g before (extended_bytes name ++ rest) (sym (length-replicate {A = ℕ} g 255))

pub name_again : (form : VolumeForm) (called : Option VolumeName) (files : List NewFile) (len : ℕ) → length (volume_bytes form called files len) ≡ len → 64 ≤ len → 64 ≤ form.header_len
    → is_placed form.header_len called ≡ true → IsWhole called → front_len form called ≤ len → len < 2 ^ 32
    → name_in (volume_bytes form called files len) (guid_of called) ≡ called
name_again form None files len long least header placed whole room below = refl
name_again form (Some name) files len long least header placed whole room below =
    let rest = filled_from form.file_system (front_len form (Some name)) files len in
    let bytes = volume_bytes form (Some name) files len in
    let both = and_parts (nat_le form.header_len name.at) (nat_le 20 name.size) placed in
    let a = both.0 in
    let b = both.1 in
    let behind : form.header_len ≤ name.at = grind (arith, nat_tests) in
    let fields : 20 ≤ name.size = grind (arith, nat_tests) in
    let place : little_number 2 (drop 52 bytes) ≡ name.at =
    place_says form.file_system form.attributes form.header_len name.at len (checksum16 (header_with (head_of form name.at len) 0)) (name_part form.header_len (Some name) ++ rest) whole.1 in
    let here = extended_here form name (volume_header (head_of form name.at len)) rest behind (length-header form.file_system form.attributes form.header_len name.at len header) in
    let size : little_number 4 (drop (name.at + 16) bytes) ≡ name.size = size_says name rest bytes whole.0 (omega (arith, room, below)) here in
    there_by bytes name.guid name.at (omega (arith, long, least)) place (omega (arith, long, room, fields))
    ∙ ap (λ n. let v : VolumeName = record { guid = name.guid; at = name.at; size = n } in Some v) size
