-- The files that are told of bytes are of bytes.
use Rattle.std.proofs.Common.{◌≡◌, ℕ, ◌+◌, ◌<◌, ◌^◌, Bool, true, false, cond, List, [], ◌∷◌, length, map, take, drop, Option, Some, None, Ok, Err, refl, sym, ap, ◌∙◌, subst, arith, slice_index, All, ◌==◌, nat_lt, bit_and, bit_xor}
use Rattle.std.specs.List.{AllByRecursion}
use Rattle.std.proofs.{lemmas.List.Elements.All-nil, lemmas.List.Elements.All-cons, lemmas.Nat.xor_lt}
use Rattle.hex.specs.Hex.{IsBytes}
use Rattle.pi_base.specs.Field.{little_number}
use Rattle.pi_base.proofs.FieldLaws.{little_number-lt}
use Rattle.line_words.specs.PrintedWords.{IsGuid}
use Rattle.fv_volume.specs.{declared.sections.section.Section.Section, SectionHeader.header_at, SectionHeader.section_of}
use Rattle.fv_volume.specs.declared.sections.fault.SecCause.TheVariants.{Size, Compressed, GuidDefined}
use Rattle.fv_volume.specs.{Stream.place_after, Stream.Leads, declared.file.FfsFile.FfsFile}
use Rattle.fv_volume.specs.{declared.build.file_system.FileSystem.FileSystem, declared.build.new_file.Body.Body}
use Rattle.fv_volume.specs.declared.build.new_file.Body.TheVariants.{Sections, Bytes}
use Rattle.fv_volume.specs.{declared.build.new_file.NewFile.NewFile, declared.build.volume_header.VolumeForm.VolumeForm, Reading.AreEach}
use Rattle.volume_print.specs.Description.{section_in, IsBodyIn, IsFileIn, form_in}
use Rattle.volume_again.specs.Again.{IsOfBytes, IsBodyOfBytes, IsFileOfBytes}
use Rattle.volume_again.proofs.{ByteRuns.taken_bytes, ByteRuns.left_bytes, StandAgain.IsListedFile}

-- the type of a header, which has no public name
abbrev TypeSome : {A : Type 0} → Option A → Type 0
TypeSome {A} o = A

abbrev SectionHeader : Type 0
SectionHeader = TypeSome (header_at [] 0)

-- the type of a section
abbrev HasByte : List ℕ → ℕ → Option SectionHeader → Type 0
HasByte stream at None = Unit {0}
HasByte stream at (Some header) = header.kind ≡ slice_index stream (at + 3)

extended_byte : (stream : List ℕ) (at : ℕ) (short : Bool) (header : SectionHeader) → header.kind ≡ slice_index stream (at + 3) → HasByte stream at (cond short None (Some header))
extended_byte stream at true header is = tt
extended_byte stream at false header is = is

header_byte : (stream : List ℕ) (at : ℕ) (extended short : Bool) (long plain : SectionHeader) → long.kind ≡ slice_index stream (at + 3) → plain.kind ≡ slice_index stream (at + 3)
    → HasByte stream at (cond extended (cond short None (Some long)) (Some plain))
header_byte stream at true short long plain p q = extended_byte stream at short long p
header_byte stream at false short long plain p q = q

there_byte : (stream : List ℕ) (at : ℕ) → HasByte stream at (header_at stream at)
there_byte stream at =
    header_byte stream at (little_number 3 (drop at stream) == 16777215) (nat_lt (length stream) (at + 8))
    (record { kind = slice_index stream (at + 3); len = 8; size = little_number 4 (drop (at + 4) stream) })
    (record { kind = slice_index stream (at + 3); len = 4; size = little_number 3 (drop at stream) }) refl refl

sound_kind : (a b c d : Bool) (one section : Section) → cond a (Err Size) (cond b (Err Size) (cond c (Err Compressed) (cond d (Err GuidDefined) (Ok one)))) ≡ Ok section → section.kind ≡ one.kind
sound_kind true b c d one section e = absurd cc
sound_kind false true c d one section e = absurd cc
sound_kind false false true d one section e = absurd cc
sound_kind false false false true one section e = absurd cc
sound_kind false false false false one section e = let s : one ≡ section = cc in ap (λ (x : Section). x.kind) (sym s)

section_kind : (stream : List ℕ) (at : ℕ) (header : Option SectionHeader) (section : Section) → HasByte stream at header → section_of stream at header ≡ Ok section
    → section.kind ≡ slice_index stream (at + 3)
section_kind stream at None section has e = absurd cc
section_kind stream at (Some header) section has e =
    sound_kind (nat_lt header.size header.len) (nat_lt (length stream) (at + header.size)) (header.kind == 1) (header.kind == 2) _ section e ∙ has

sections_of_bytes : (stream : List ℕ) (from : ℕ) (read : List Section) (to : ℕ) → IsBytes stream → Leads stream from read to → All IsOfBytes (map (section_in stream) read)
sections_of_bytes stream from [] to bytes path = All-nil IsOfBytes
sections_of_bytes stream from (section ∷ read) to bytes path =
    let kind = section_kind stream from (header_at stream from) section (there_byte stream from) path.1 in
    let byte : slice_index stream (from + 3) < 256 = bytes (from + 3) in
    All-cons IsOfBytes (section_in stream section) (map (section_in stream) read)
    (omega (arith, kind, byte), taken_bytes section.body_len (drop section.body_at stream) (left_bytes section.body_at stream bytes))
    (sections_of_bytes stream (place_after section) read to bytes path.2)

body_of_bytes : (file_system : FileSystem) (kind : ℕ) (stream : List ℕ) (body : Body) → IsBytes stream → IsBodyIn file_system kind stream body → IsBodyOfBytes body
body_of_bytes file_system kind stream (Sections sections) bytes is =
    subst (All IsOfBytes) (sym is.1.3) (sections_of_bytes stream 0 is.1.0 is.1.1.0 bytes is.1.1.1)
body_of_bytes file_system kind stream (Bytes body) bytes is = subst IsBytes (sym is.0) bytes

-- the files of a volume
pub files_of_bytes : (file_system : FileSystem) (image : List ℕ) (found : List FfsFile) (files : List NewFile) → IsBytes image → AllByRecursion IsListedFile found → AreEach (IsFileIn file_system image) found files → All IsFileOfBytes files
files_of_bytes file_system image [] [] bytes good are = All-nil IsFileOfBytes
files_of_bytes file_system image [] (file ∷ files) bytes good are = absurd are
files_of_bytes file_system image (one ∷ found) [] bytes good are = absurd are
files_of_bytes file_system image (one ∷ found) (file ∷ files) bytes good are =
    All-cons IsFileOfBytes file files
    (record {
      kind = omega (arith, good.0.kind, are.0.kind);
      name = subst IsGuid (sym are.0.name) good.0.name;
      body = body_of_bytes file_system one.kind (take one.body_len (drop one.body_at image)) file.body (taken_bytes one.body_len (drop one.body_at image) (left_bytes one.body_at image bytes)) are.0.body;
    })
    (files_of_bytes file_system image found files bytes good.1 are.1)

-- its attributes
told_by : (test : Bool) (attributes : ℕ) → attributes < 2 ^ 32 → cond test 0 (bit_xor attributes 2048) < 2 ^ 32
told_by true attributes fits = omega arith
told_by false attributes fits = xor_lt 32 attributes 2048 fits (omega arith)

form_by : (test : Bool) (plain form : VolumeForm) → plain.attributes ≡ 0 → form.attributes < 2 ^ 32 → (cond test plain form).attributes < 2 ^ 32
form_by true plain form none fits = omega (arith, none)
form_by false plain form none fits = fits

pub attributes_fit : (image : List ℕ) → IsBytes image → (form_in image).attributes < 2 ^ 32
attributes_fit image bytes =
    let number = little_number 4 (drop 44 image) in
    form_by (nat_lt (length image) 56) _ _ refl (told_by (bit_and number 2048 == 0) number (little_number-lt 4 (drop 44 image) (left_bytes 44 image bytes)))
