-- The header and the extended header of a built volume are read as themselves, and the volume with them.
use Rattle.std.proofs.Common.{◌≡◌, ℕ, ◌+◌, ◌-◌, ◌%◌, ◌<◌, ◌≤◌, ◌^◌, Bool, true, false, cond, List, [], ◌∷◌, ◌++◌, length, take, drop, sum, replicate, Option, Some, None, Ok, Err, refl, sym, ap, ◌∙◌, arith, append_assoc, subst, bit_and, nat_lt, ◌==◌, not}
use Rattle.std.proofs.{lemmas.Bool.Decides.nat_tests, Math.Seq.take-length}
use Rattle.std.specs.Prelude.{⊤}
use Rattle.pi_base.specs.{declared.guid.Guid.Guid, Guids.guid_at}
use Rattle.pi_base.specs.Field.{little_number, little_bytes, words_of}
use Rattle.pi_base.proofs.FieldLaws.{little_number-little_bytes}
use Rattle.fv_volume.specs.declared.fault.VolCause.TheVariants.{Short, Length, HeaderLength, HeaderSum}
use Rattle.fv_volume.specs.{declared.file.FfsFile.FfsFile, Search.IsListing, Volume.IsVolume}
use Rattle.fv_volume.specs.declared.volume_header.TheConstants as constant
use Rattle.fv_volume.specs.VolumeHeader.{volume_header, file_system_at, fault_at, header_fault}
use Rattle.fv_volume.specs.ExtendedHeader.{misplaced, extended_with, extended_header}
use Rattle.fv_volume.specs.Frame.{aligned, frame_or_fault, frame_of}
use Rattle.fv_volume.proofs.{Spelled.ones, Spelled.Lists, SpelledHeaders.guid_of as system_guid}
use Rattle.fv_volume.specs.{declared.build.volume_name.VolumeName.VolumeName, Front.ext_at, Front.extended_bytes, Reading.guid_of}
use Rattle.fv_volume.proofs.Parts.{drop_behind, drop_text, take_text}

-- the header's fields of a volume that is erased to ones, and what stands behind them
abbrev pub begins : Bool → ℕ → ℕ → ℕ → ℕ → ℕ → List ℕ → List ℕ
begins large attributes header_len ext len checksum rest =
    replicate 16 0 ++ (system_guid large ++ (little_bytes 8 len ++ (little_bytes 4 constant.SIGNATURE ++ (little_bytes 4 attributes
    ++ (little_bytes 2 header_len ++ (little_bytes 2 checksum ++ (little_bytes 2 ext
    ++ (0 ∷ (constant.REVISION ∷ (little_bytes 4 1 ++ (little_bytes 4 len ++ rest)))))))))))

-- the type of a value that has no public name
abbrev TypeOf : {A : Type 0} → A → Type 0
TypeOf {A} x = A

-- what they say
abbrev said : Bool → ℕ → ℕ → ℕ → ℕ → TypeOf (volume_header [])
said large attributes header_len ext len = record {
  file_system = file_system_at (replicate 16 0 ++ system_guid large);
  len = len;
  signature = constant.SIGNATURE;
  attributes = attributes;
  header_len = header_len;
  ext_header_at = ext;
  revision = constant.REVISION;
}

header_read : (large : Bool) (attributes header_len ext len checksum : ℕ) (rest : List ℕ) → attributes < 2 ^ 32 → header_len < 2 ^ 16 → ext < 2 ^ 16 → len < 2 ^ 64
    → volume_header (begins large attributes header_len ext len checksum rest) ≡ said large attributes header_len ext len
header_read large attributes header_len ext len checksum rest small short near fits =
    by_system large
    ∙ ap (λ n. said large (little_number 4 (little_bytes 4 attributes ++ behind_attributes)) (little_number 2 (little_bytes 2 header_len ++ behind_length)) (little_number 2 (little_bytes 2 ext ++ behind_place)) n)
    (little_number-little_bytes 8 len (little_bytes 4 constant.SIGNATURE ++ (little_bytes 4 attributes ++ behind_attributes)) fits)
    ∙ ap (λ n. said large n (little_number 2 (little_bytes 2 header_len ++ behind_length)) (little_number 2 (little_bytes 2 ext ++ behind_place)) len)
    (little_number-little_bytes 4 attributes behind_attributes small)
    ∙ ap (λ n. said large attributes n (little_number 2 (little_bytes 2 ext ++ behind_place)) len) (little_number-little_bytes 2 header_len behind_length short)
    ∙ ap (λ n. said large attributes header_len n len) (little_number-little_bytes 2 ext behind_place near)
  where
    behind_place : List ℕ
    behind_place = 0 ∷ (constant.REVISION ∷ (little_bytes 4 1 ++ (little_bytes 4 len ++ rest)))

    behind_length : List ℕ
    behind_length = little_bytes 2 checksum ++ (little_bytes 2 ext ++ behind_place)

    behind_attributes : List ℕ
    behind_attributes = little_bytes 2 header_len ++ behind_length

    by_system : (large' : Bool) → volume_header (begins large' attributes header_len ext len checksum rest)
        ≡ said large' (little_number 4 (little_bytes 4 attributes ++ behind_attributes)) (little_number 2 (little_bytes 2 header_len ++ behind_length))
        (little_number 2 (little_bytes 2 ext ++ behind_place)) (little_number 8 (little_bytes 8 len ++ (little_bytes 4 constant.SIGNATURE ++ (little_bytes 4 attributes ++ behind_attributes))))
    by_system true = refl
    by_system false = refl

-- nothing is wrong with them
sound_header : (large : Bool) (attributes header_len ext len : ℕ) (bytes : List ℕ) → length bytes ≡ len → header_len % 2 ≡ 0 → 64 ≤ header_len → header_len ≤ len
    → sum (words_of (take header_len bytes)) % 65536 ≡ 0 → header_fault bytes (said large attributes header_len ext len) ≡ None
sound_header large attributes header_len ext len bytes long even least within zero_sum = by_system large
  where
    a : nat_lt (length bytes) len ≡ false
    a = grind (arith, nat_tests)

    b : nat_lt header_len 64 ≡ false
    b = grind (arith, nat_tests)

    c : nat_lt len header_len ≡ false
    c = grind (arith, nat_tests)

    tests : cond (nat_lt (length bytes) len) (fault_at 32 Length) (cond (not (header_len % 2 == 0)) (fault_at 48 HeaderLength) (cond (nat_lt header_len 64) (fault_at 48 HeaderLength)
        (cond (nat_lt len header_len) (fault_at 48 HeaderLength) (cond (not (sum (words_of (take header_len bytes)) % 65536 == 0)) (fault_at 50 HeaderSum) None)))) ≡ None
    tests = rw (a, even, b, c, zero_sum) refl

    by_system : (large' : Bool) → header_fault bytes (said large' attributes header_len ext len) ≡ None
    by_system true = tests
    by_system false = tests

-- an extended header stands where a volume's header says, and its name and its place are whole
abbrev pub IsExtended : ℕ → ℕ → Option VolumeName → List ℕ → Type 0
IsExtended header_len len None bytes = ⊤
IsExtended header_len len (Some name) bytes =
    ((rest : List ℕ) × (drop name.at bytes ≡ extended_bytes name ++ rest))
    × (length name.guid.0 ≡ 16) × (header_len ≤ name.at) × (20 ≤ name.size) × (name.at + name.size ≤ len)

-- bytes that begin with such a header, and have such a name
pub record IsFront (large : Bool) (attributes header_len len checksum : ℕ) (name : Option VolumeName) (bytes : List ℕ) : Type 0 where
  pub rest : List ℕ
  pub spelled : bytes ≡ begins large attributes header_len (ext_at name) len checksum rest
  pub extended : IsExtended header_len len name bytes
  pub near : ext_at name < 2 ^ 16
  pub long : length bytes ≡ len
  pub small : attributes < 2 ^ 32
  pub ones_first : (bit_and attributes 2048 == 0) ≡ false
  pub even : header_len % 2 ≡ 0
  pub least : 64 ≤ header_len
  pub short : header_len < 2 ^ 16
  pub within : header_len ≤ len
  pub fits : len < 2 ^ 32
  pub zero_sum : sum (words_of (take header_len bytes)) % 65536 ≡ 0

-- where the search for files begins
abbrev pub start_of : ℕ → Option VolumeName → ℕ
start_of header_len None = header_len
start_of header_len (Some name) = name.at + name.size

abbrev found_of : Option VolumeName → TypeOf (extended_header [] (volume_header []))
found_of None = Ok None
found_of (Some name) = Ok (Some (record { name = name.guid; end = name.at + name.size }))

abbrev found_as : Guid → ℕ → TypeOf (extended_header [] (volume_header []))
found_as guid end = Ok (Some (record { name = guid; end = end }))

-- where no test passes
no_test : {A : Type 0} (a b c d e : Bool) (none bad good : A) → a ≡ false → b ≡ false → c ≡ false → d ≡ false → e ≡ false
    → cond a none (cond b bad (cond c bad (cond d bad (cond e bad good)))) ≡ good
no_test a b c d e none bad good p q r s t = rw (p, q, r, s, t) refl

-- the extended header
extended_read : (large : Bool) (attributes header_len len : ℕ) (name : Option VolumeName) (bytes : List ℕ) → 64 ≤ header_len → len < 2 ^ 32 → IsExtended header_len len name bytes
    → extended_header bytes (said large attributes header_len (ext_at name) len) ≡ found_of name
extended_read large attributes header_len len None bytes least fits e = refl
extended_read large attributes header_len len (Some name) bytes least fits e =
    let says = said large attributes header_len name.at len in
    let rest = e.0.0 in
    let here : drop name.at bytes ≡ name.guid.0 ++ ((little_bytes 4 name.size ++ replicate (name.size - 20) 255) ++ rest) =
    e.0.1 ∙ append_assoc name.guid.0 (little_bytes 4 name.size ++ replicate (name.size - 20) 255) rest in
    let whole = e.1 in
    let behind = e.2 in
    let least_size = e.3 in
    let room = e.4 in
    let size : little_number 4 (drop (name.at + 16) bytes) ≡ name.size =
    ap (little_number 4) (drop_behind 16 name.at bytes _ here ∙ drop_text 16 name.guid.0 ((little_bytes 4 name.size ++ replicate (name.size - 20) 255) ++ rest) (sym whole)
    ∙ append_assoc (little_bytes 4 name.size) (replicate (name.size - 20) 255) rest)
    ∙ little_number-little_bytes 4 name.size (replicate (name.size - 20) 255 ++ rest) (omega (arith, room, fits)) in
    let is : guid_at bytes name.at ≡ name.guid =
    ap (λ xs. let g : Guid = record { 0 = xs } in g) (ap (take 16) here ∙ take_text 16 name.guid.0 ((little_bytes 4 name.size ++ replicate (name.size - 20) 255) ++ rest) (sym whole)) in
    let a : (name.at == 0) ≡ false = grind (arith, nat_tests) in
    let b : nat_lt name.at header_len ≡ false = grind (arith, nat_tests) in
    let c : nat_lt len (name.at + 20) ≡ false = grind (arith, nat_tests) in
    let d : nat_lt name.size 20 ≡ false = grind (arith, nat_tests) in
    let f : nat_lt len (name.at + name.size) ≡ false = grind (arith, nat_tests) in
    ap (λ n. extended_with bytes says name.at n) size
    ∙ no_test (name.at == 0) (nat_lt name.at header_len) (nat_lt len (name.at + 20)) (nat_lt name.size 20) (nat_lt len (name.at + name.size)) (Ok None) misplaced
    (found_as (guid_at bytes name.at) (name.at + name.size)) a b c d f
    ∙ ap (λ g. found_as g (name.at + name.size)) is

-- the frame
frame_read : (large : Bool) (attributes header_len len checksum : ℕ) (name : Option VolumeName) (bytes : List ℕ) → IsFront large attributes header_len len checksum name bytes
    → frame_of bytes ≡ Ok (record { len = len; name = guid_of name; start = aligned (start_of header_len name); format = ones large })
frame_read large attributes header_len len checksum name bytes b =
    let says = said large attributes header_len (ext_at name) len in
    let least = b.least in
    let within = b.within in
    let long = b.long in
    let header : volume_header bytes ≡ says = ap volume_header b.spelled ∙ header_read large attributes header_len (ext_at name) len checksum b.rest b.small b.short b.near (omega (arith, b.fits)) in
    let room : nat_lt (length bytes) 64 ≡ false = grind (arith, nat_tests) in
    ap (λ h. cond (nat_lt (length bytes) 64) (Err (record { at = 0; cause = Short })) (frame_or_fault h (header_fault bytes h) (extended_header bytes h))) header
    ∙ ap (λ t. cond t (Err (record { at = 0; cause = Short })) (frame_or_fault says (header_fault bytes says) (extended_header bytes says))) room
    ∙ ap (λ f. frame_or_fault says f (extended_header bytes says)) (sound_header large attributes header_len (ext_at name) len bytes long b.even least within b.zero_sum)
    ∙ ap (λ e. frame_or_fault says None e) (extended_read large attributes header_len len name bytes least b.fits b.extended)
    ∙ by_form large name
  where
    by_form : (large' : Bool) (name' : Option VolumeName) → frame_or_fault (said large' attributes header_len (ext_at name') len) None (found_of name')
        ≡ Ok (record { len = len; name = guid_of name'; start = aligned (start_of header_len name'); format = ones large' })
    by_form true None = ap (λ t. cond false (frame_of []) (Ok (record { len = len; name = None; start = aligned header_len; format = record { large_files = true; erased = cond t 0 0xff } }))) b.ones_first
    by_form false None = ap (λ t. cond false (frame_of []) (Ok (record { len = len; name = None; start = aligned header_len; format = record { large_files = false; erased = cond t 0 0xff } }))) b.ones_first
    by_form true (Some one) = ap (λ t. cond false (frame_of []) (Ok (record { len = len; name = Some one.guid; start = aligned (one.at + one.size); format = record { large_files = true; erased = cond t 0 0xff } }))) b.ones_first
    by_form false (Some one) = ap (λ t. cond false (frame_of []) (Ok (record { len = len; name = Some one.guid; start = aligned (one.at + one.size); format = record { large_files = false; erased = cond t 0 0xff } }))) b.ones_first

-- the volume with this name and these files
pub volume_read : (large : Bool) (attributes header_len len checksum : ℕ) (name : Option VolumeName) (bytes : List ℕ) (files : List FfsFile) → IsFront large attributes header_len len checksum name bytes
    → Lists bytes large (aligned (start_of header_len name)) files → length files ≤ 16384 → IsVolume bytes (record { len = len; name = guid_of name; files = files })
volume_read large attributes header_len len checksum name bytes files b lists few =
    let start = aligned (start_of header_len name) in
    let whole : bytes ≡ take len bytes = sym (ap (λ n. take n bytes) (sym b.long) ∙ take-length bytes) in
    let listing : IsListing bytes (record { len = len; name = guid_of name; start = start; format = ones large }) files = (lists.items, lists.to, lists.leads, lists.ends, lists.are, few) in (
      record { len = len; name = guid_of name; start = start; format = ones large },
      frame_read large attributes header_len len checksum name bytes b,
      refl,
      refl,
      subst (λ xs. IsListing xs (record { len = len; name = guid_of name; start = start; format = ones large }) files) whole listing,
    )
