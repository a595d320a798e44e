-- The words of a line, each as the value that it shows, and the words behind it (own).
use Rattle.std.specs.Prelude.{ℕ, ◌^◌, Bool, true, false, nat_le, nat_lt, bytes_eq, codes, if◌then◌else◌, ◌&&◌, List, [], ◌∷◌, Result, Ok, Err}
use Rattle.pi_base.specs.{declared.guid.Guid.Guid, declared.phase.Phase.Phase}
use Rattle.fv_volume.specs.{declared.build.attributes.Alignment.Alignment, declared.build.attributes.Alignment.TheVariants.Byte}
use Rattle.fv_volume.specs.{declared.build.attributes.FileAttributes.FileAttributes, Attributes.alignment_of}
use Rattle.fv_volume.specs.{declared.volume_header.TheConstants.LEAST_HEADER_LEN, declared.build.volume_header.TheConstants.HEADER_LEN}
use Rattle.fv_volume.specs.declared.build.volume_name.TheConstants.{EXT_AT, EXT_HEADER_LEN}
use Rattle.fv_volume.specs.{declared.build.volume.TheConstants.MOST_LEN, Header.is_header_length}
use Rattle.line_words.specs.Number.{number_of}
use Rattle.source_words.specs.GuidWord.{guid_of}
use Rattle.volume_text.specs.{declared.word.TheConstants.MOST_PAD, declared.fault.Cause.Cause, UserInterface.is_ui_name}
use Rattle.volume_text.specs.declared.fault.Cause.TheVariants as cause
use Rattle.fv_volume.specs.{declared.build.file_system.FileSystem.FileSystem, declared.build.file_system.FileSystem.TheVariants.Ffs2}
use Rattle.volume_text.specs.Keywords.{phase_of, system_of, file_type_of, byte_of}
use Rattle.volume_text.specs.Reading.{◌>>=◌, only_if, there}

-- the first word, and the others
abbrev pub word_at : List (List ℕ) → Result (List ℕ × List (List ℕ)) Cause
word_at [] = Err cause.Missing
word_at (word ∷ words) = Ok (word, words)

abbrev pub none_left : List (List ℕ) → Result (Unit {0}) Cause
none_left [] = Ok tt
none_left (word ∷ words) = Err cause.Extra

unfoldable pub guid_at : List (List ℕ) → Result (Guid × List (List ℕ)) Cause
guid_at words = do
  w ← word_at words
  guid ← there cause.Guid (guid_of w.0)
  Ok (guid, w.1)

unfoldable pub phase_at : List (List ℕ) → Result (Phase × List (List ℕ)) Cause
phase_at words = do
  w ← word_at words
  phase ← there cause.Word (phase_of w.0)
  Ok (phase, w.1)

-- a volume has a length from that of the least header to 64 MiB
abbrev pub is_length : ℕ → Bool
is_length len = nat_le LEAST_HEADER_LEN len && nat_le len MOST_LEN

unfoldable pub length_at : List (List ℕ) → Result (ℕ × List (List ℕ)) Cause
length_at words = do
  w ← word_at words
  len ← there cause.Number (number_of w.0)
  only_if (is_length len) cause.Range (len, w.1)

-- the body of a pad file is as long as FFS2 lets it be
abbrev pub is_pad_length : ℕ → Bool
is_pad_length len = nat_le len MOST_PAD

unfoldable pub pad_length_at : List (List ℕ) → Result (ℕ × List (List ℕ)) Cause
pad_length_at words = do
  w ← word_at words
  len ← there cause.Number (number_of w.0)
  only_if (is_pad_length len) cause.Range (len, w.1)

-- the file system that the first word names, FFS2 where there is none
unfoldable pub system_at : List (List ℕ) → Result (FileSystem × List (List ℕ)) Cause
system_at [] = Ok (Ffs2, [])
system_at (word ∷ words) = there cause.Word (system_of word) >>= (λ system. Ok (system, words))

-- a number, and the words behind it
unfoldable pub number_at : List (List ℕ) → Result (ℕ × List (List ℕ)) Cause
number_at words = do
  w ← word_at words
  n ← there cause.Number (number_of w.0)
  Ok (n, w.1)

-- the number behind a word where that stands first, and else the usual one; and the words behind it
unfoldable pub told_at : List ℕ → ℕ → List (List ℕ) → Result (ℕ × List (List ℕ)) Cause
told_at key usual [] = Ok (usual, [])
told_at key usual (word ∷ words) = if bytes_eq word key then number_at words else Ok (usual, word ∷ words)

-- a volume of this length may have a header of so many bytes
abbrev pub is_header : ℕ → ℕ → Bool
is_header len header_len = is_header_length header_len && nat_le header_len len

-- HeaderLength in a volume of this length, behind the word `header`, and the usual one where it is not there
unfoldable pub header_at : ℕ → List (List ℕ) → Result (ℕ × List (List ℕ)) Cause
header_at len words = told_at (codes "header") HEADER_LEN words >>= (λ header. only_if (is_header len header.0) cause.Range header)

-- ExtHeaderOffset, a number of 16 bits, behind the word `at`, and the usual one where it is not there
unfoldable pub place_at : List (List ℕ) → Result (ℕ × List (List ℕ)) Cause
place_at words = told_at (codes "at") EXT_AT words >>= (λ place. only_if (nat_lt place.0 (2 ^ 16)) cause.Range place)

-- an extended header has its fields, and a size of 32 bits
abbrev pub is_size : ℕ → Bool
is_size size = nat_le EXT_HEADER_LEN size && nat_lt size (2 ^ 32)

-- ExtHeaderSize behind the word `size`, and that of an extended header without entries where it is not there
unfoldable pub size_at : List (List ℕ) → Result (ℕ × List (List ℕ)) Cause
size_at words = told_at (codes "size") EXT_HEADER_LEN words >>= (λ size. only_if (is_size size.0) cause.Range size)

-- a number of 32 bits, and no more
unfoldable pub last_number : List (List ℕ) → Result ℕ Cause
last_number words = do
  w ← word_at words
  n ← there cause.Number (number_of w.0)
  fits ← only_if (nat_lt n (2 ^ 32)) cause.Range n
  _ ← none_left w.1
  Ok fits

-- the attributes of a volume behind the word `attributes`, and none where it is not there
unfoldable pub attributes_at : List (List ℕ) → Result ℕ Cause
attributes_at [] = Ok 0
attributes_at (word ∷ words) = if bytes_eq word (codes "attributes") then last_number words else Err cause.Extra

-- whether the word `fixed` stands first, and the words behind it
unfoldable pub fixed_at : List (List ℕ) → Bool × List (List ℕ)
fixed_at [] = (false, [])
fixed_at (word ∷ words) = if bytes_eq word (codes "fixed") then (true, words) else (false, word ∷ words)

-- an alignment by its number of bytes, and no more
unfoldable pub last_alignment : List (List ℕ) → Result Alignment Cause
last_alignment words = do
  w ← word_at words
  n ← there cause.Number (number_of w.0)
  alignment ← there cause.Range (alignment_of n)
  _ ← none_left w.1
  Ok alignment

-- the alignment behind the word `align`, and a byte where it is not there
unfoldable pub alignment_at : List (List ℕ) → Result Alignment Cause
alignment_at [] = Ok Byte
alignment_at (word ∷ words) = if bytes_eq word (codes "align") then last_alignment words else Err cause.Extra

-- the attributes of a file: `fixed`, and `align` with a number, or one of them or none
unfoldable pub chosen_at : List (List ℕ) → Result FileAttributes Cause
chosen_at words = alignment_at (fixed_at words).1 >>= (λ alignment. Ok (record { fixed = (fixed_at words).0; alignment = alignment }))

unfoldable pub file_type_at : List (List ℕ) → Result (ℕ × List (List ℕ)) Cause
file_type_at words = do
  w ← word_at words
  kind ← there cause.FileType (file_type_of w.0)
  Ok (kind, w.1)

unfoldable pub section_type_at : List (List ℕ) → Result (ℕ × List (List ℕ)) Cause
section_type_at words = do
  w ← word_at words
  kind ← there cause.SectionType (byte_of w.0)
  Ok (kind, w.1)

-- a name in a user interface section
unfoldable pub ui_name_at : List (List ℕ) → Result (List ℕ × List (List ℕ)) Cause
ui_name_at words = do
  w ← word_at words
  only_if (is_ui_name w.0) cause.Word w
