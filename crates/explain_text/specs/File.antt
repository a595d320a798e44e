-- The file whose header stands at the front of some bytes.
-- PI 1.8, volume 3, `EFI_FFS_FILE_HEADER` and `EFI_FFS_FILE_HEADER2`.
use Rattle.std.specs.Prelude.{ℕ, ◌-◌, Bool, List, length, take, drop, slice_index, Option, Some, None, if◌then◌else◌, ◌||◌, nat_lt}
use Rattle.pi_base.specs.Field.{little_number}
use Rattle.fv_volume.specs.Bits.{is_set}
use Rattle.fv_volume.specs.declared.file_header.TheConstants.{HEADER_LEN, LARGE_HEADER_LEN, ATTRIBUTES_AT, SIZE_AT, EXTENDED_SIZE_AT, LARGE_FILE}

-- whether it is a large file: only volumes that may have large files have one with the attribute
abbrev pub is_large : List ℕ → Bool
is_large bytes = is_set (slice_index bytes ATTRIBUTES_AT) LARGE_FILE

-- the length of its header
abbrev pub header_len : List ℕ → ℕ
header_len bytes = if is_large bytes then LARGE_HEADER_LEN else HEADER_LEN

-- its size, with its header
abbrev pub file_size : List ℕ → ℕ
file_size bytes = if is_large bytes then little_number 8 (drop EXTENDED_SIZE_AT bytes) else little_number 3 (drop SIZE_AT bytes)

-- whether the header or the file passes the end of the bytes
abbrev pub passes_end : List ℕ → Bool
passes_end bytes =
    nat_lt (length bytes) HEADER_LEN || nat_lt (length bytes) (header_len bytes) || nat_lt (file_size bytes) (header_len bytes)
    || nat_lt (length bytes) (file_size bytes)

-- its body, none where it passes the end
abbrev pub file_body : List ℕ → Option (List ℕ)
file_body bytes = if passes_end bytes then None else Some (take (file_size bytes - header_len bytes) (drop (header_len bytes) bytes))
