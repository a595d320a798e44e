-- The header of a volume, and the first thing that is wrong with it. (PI 1.8, volume 3, `EFI_FIRMWARE_VOLUME_HEADER`.)
use Rattle.std.specs.Prelude.{ℕ, ◌%◌, List, length, take, drop, sum, slice_index, Bool, true, false, Option, Some, None, if◌then◌else◌, not, ◌==◌, nat_lt, nat_eq, bit_and}
use Rattle.std.specs.List.{starts_with}
use Rattle.pi_base.specs.{Field.little_number, Field.words_of, declared.guid.TheConstants.GUID_LEN}
use Rattle.fv_volume.specs.declared.volume_header.TheConstants.{LEAST_HEADER_LEN, FILE_SYSTEM_AT, LENGTH_AT, SIGNATURE_AT, ATTRIBUTES_AT, HEADER_LENGTH_AT, CHECKSUM_AT, EXT_HEADER_OFFSET_AT, REVISION_AT, SIGNATURE, REVISION, ERASE_POLARITY, FFS2, FFS3}
use Rattle.fv_volume.specs.{declared.volume_header.VolumeHeader.VolumeHeader, declared.volume_header.Format.Format}
use Rattle.fv_volume.specs.{declared.volume_header.FileSystem.FileSystem, declared.fault.VolFault.VolFault}
use Rattle.fv_volume.specs.declared.volume_header.FileSystem.TheVariants.{Ffs2, Ffs3, Unknown}
use Rattle.fv_volume.specs.declared.fault.VolCause.{VolCause}
use Rattle.fv_volume.specs.declared.fault.VolCause.TheVariants.{Signature, Revision, FileSystem as UnknownFileSystem, Length, HeaderLength, HeaderSum}

-- the file system whose GUID is in the header
abbrev pub file_system_at : List ℕ → FileSystem
file_system_at bytes =
    let guid = take GUID_LEN (drop FILE_SYSTEM_AT bytes) in
    if starts_with nat_eq guid FFS2 then Ffs2
    else if starts_with nat_eq guid FFS3 then Ffs3
    else Unknown

-- the fields of the header
abbrev pub volume_header : List ℕ → VolumeHeader
volume_header bytes = record {
  file_system = file_system_at bytes;
  len = little_number 8 (drop LENGTH_AT bytes);
  signature = little_number 4 (drop SIGNATURE_AT bytes);
  attributes = little_number 4 (drop ATTRIBUTES_AT bytes);
  header_len = little_number 2 (drop HEADER_LENGTH_AT bytes);
  ext_header_at = little_number 2 (drop EXT_HEADER_OFFSET_AT bytes);
  revision = slice_index bytes REVISION_AT;
}

abbrev pub is_unknown : FileSystem → Bool
is_unknown Ffs2 = false
is_unknown Ffs3 = false
is_unknown Unknown = true

-- a fault at the offset of a field
abbrev pub fault_at : ℕ → VolCause → Option VolFault
fault_at at cause = Some (record { at = at; cause = cause })

-- the first test that fails, in this order
abbrev pub header_fault : List ℕ → VolumeHeader → Option VolFault
header_fault bytes header =
    if not (header.signature == SIGNATURE) then fault_at SIGNATURE_AT Signature
    else if not (header.revision == REVISION) then fault_at REVISION_AT Revision
    else if is_unknown header.file_system then fault_at FILE_SYSTEM_AT UnknownFileSystem
    else if nat_lt (length bytes) header.len then fault_at LENGTH_AT Length
    else if not (header.header_len % 2 == 0) then fault_at HEADER_LENGTH_AT HeaderLength
    else if nat_lt header.header_len LEAST_HEADER_LEN then fault_at HEADER_LENGTH_AT HeaderLength
    else if nat_lt header.len header.header_len then fault_at HEADER_LENGTH_AT HeaderLength
    else if not (sum (words_of (take header.header_len bytes)) % 65536 == 0) then fault_at CHECKSUM_AT HeaderSum
    else None

-- whether the volume may have large files
abbrev pub has_large_files : FileSystem → Bool
has_large_files Ffs2 = false
has_large_files Ffs3 = true
has_large_files Unknown = false

-- how files are stored: polarity 1 erases to ones, polarity 0 to zeros
abbrev pub format_of : VolumeHeader → Format
format_of header = record {
  large_files = has_large_files header.file_system;
  erased = if bit_and header.attributes ERASE_POLARITY == 0 then 0x00 else 0xff;
}
