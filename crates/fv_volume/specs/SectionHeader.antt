-- The header of a section, and what is at a place of a stream.
-- (PI 1.8, volume 3, `EFI_COMMON_SECTION_HEADER` and `EFI_COMMON_SECTION_HEADER2`.)
use Rattle.std.specs.Prelude.{ℕ, ◌+◌, ◌-◌, List, length, drop, slice_index, Option, Some, None, Result, Ok, Err, if◌then◌else◌, ◌==◌, nat_lt}
use Rattle.pi_base.specs.Field.{little_number}
use Rattle.fv_volume.specs.declared.sections.section_header.TheConstants.{HEADER_LEN, EXTENDED_HEADER_LEN, EXTENDED, EXTENDED_SIZE_AT, TYPE_AT}
use Rattle.fv_volume.specs.declared.sections.section_type.TheConstants.{COMPRESSION, GUID_DEFINED}
use Rattle.fv_volume.specs.{declared.sections.section_header.SectionHeader.SectionHeader, declared.sections.section.Section.Section}
use Rattle.fv_volume.specs.declared.sections.fault.SecCause.{SecCause}
use Rattle.fv_volume.specs.declared.sections.fault.SecCause.TheVariants.{Size, Compressed, GuidDefined}

-- the header of an extended section, none if it passes the end
abbrev pub extended_header_at : List ℕ → ℕ → ℕ → Option SectionHeader
extended_header_at bytes at kind =
    if nat_lt (length bytes) (at + EXTENDED_HEADER_LEN) then None
    else Some (record { kind = kind; len = EXTENDED_HEADER_LEN; size = little_number 4 (drop (at + EXTENDED_SIZE_AT) bytes) })

-- the header at a place, none if it passes the end: an extended section has its size in the field ExtendedSize
abbrev pub header_at : List ℕ → ℕ → Option SectionHeader
header_at bytes at =
    let kind = slice_index bytes (at + TYPE_AT) in
    let size = little_number 3 (drop at bytes) in
    if size == EXTENDED then extended_header_at bytes at kind
    else Some (record { kind = kind; len = HEADER_LEN; size = size })

-- the section with this header at a place, or the first cause
abbrev pub section_of : List ℕ → ℕ → Option SectionHeader → Result Section SecCause
section_of bytes at None = Err Size
section_of bytes at (Some header) =
    if nat_lt header.size header.len then Err Size
    else if nat_lt (length bytes) (at + header.size) then Err Size
    else if header.kind == COMPRESSION then Err Compressed
    else if header.kind == GUID_DEFINED then Err GuidDefined
    else Ok (record { kind = header.kind; body_at = at + header.len; body_len = header.size - header.len })

abbrev pub section_at : List ℕ → ℕ → Result Section SecCause
section_at bytes at = section_of bytes at (header_at bytes at)
