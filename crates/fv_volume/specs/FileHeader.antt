-- The header of a file. (PI 1.8, volume 3, `EFI_FFS_FILE_HEADER` and `EFI_FFS_FILE_HEADER2`.)
use Rattle.std.specs.Prelude.{ℕ, ◌+◌, ◌-◌, ◌%◌, List, length, take, drop, sum, slice_index, Bool, Option, Some, None, if◌then◌else◌, not, ◌&&◌, ◌||◌, ◌==◌, nat_lt}
use Rattle.pi_base.specs.{Field.little_number, Guids.guid_at}
use Rattle.fv_volume.specs.declared.file_header.TheConstants.{HEADER_LEN, LARGE_HEADER_LEN, FILE_CHECKSUM_AT, TYPE_AT, ATTRIBUTES_AT, SIZE_AT, STATE_AT, EXTENDED_SIZE_AT, LARGE_FILE, CHECKSUM, FIXED_CHECKSUM}
use Rattle.fv_volume.specs.{declared.file_header.FileHeader.FileHeader, declared.volume_header.Format.Format, Bits.is_set}

-- the fields at a place, with a length of the header and a size
abbrev pub fields_at : List ℕ → ℕ → ℕ → ℕ → FileHeader
fields_at image at len size = record {
  name = guid_at image at;
  checksum = slice_index image (at + FILE_CHECKSUM_AT);
  kind = slice_index image (at + TYPE_AT);
  attributes = slice_index image (at + ATTRIBUTES_AT);
  len = len;
  size = size;
}

-- whether a large file's header is at a place: only FFS3 has them
abbrev pub is_large : List ℕ → Format → ℕ → Bool
is_large image format at = format.large_files && is_set (slice_index image (at + ATTRIBUTES_AT)) LARGE_FILE

-- the file header at an offset, none if it passes the end; a large file has its size in ExtendedSize
abbrev pub file_header : List ℕ → Format → ℕ → Option FileHeader
file_header image format at =
    if not (is_large image format at) then Some (fields_at image at HEADER_LEN (little_number 3 (drop (at + SIZE_AT) image)))
    else if nat_lt (length image) (at + LARGE_HEADER_LEN) then None
    else Some (fields_at image at LARGE_HEADER_LEN (little_number 8 (drop (at + EXTENDED_SIZE_AT) image)))

-- the sum of a header's bytes, the file checksum and the State taken as 0
abbrev pub header_sum : List ℕ → ℕ
header_sum header =
    (sum (take FILE_CHECKSUM_AT header) + sum (take (STATE_AT - TYPE_AT) (drop TYPE_AT header)) + sum (drop HEADER_LEN header)) % 256

-- whether the size is not that of a file of this format with so many bytes from the header on
abbrev pub size_is_wrong : Format → ℕ → FileHeader → Bool
size_is_wrong format room header =
    (not format.large_files && is_set header.attributes LARGE_FILE) || nat_lt header.size header.len || nat_lt room header.size

-- whether a body does not agree with the file checksum
abbrev pub data_is_wrong : FileHeader → List ℕ → Bool
data_is_wrong header body =
    if is_set header.attributes CHECKSUM then not ((sum body + header.checksum) % 256 == 0)
    else not (header.checksum == FIXED_CHECKSUM)
