-- The bytes of files. (PI 1.8, volume 3, `EFI_FFS_FILE_HEADER` and `EFI_FFS_FILE_HEADER2`.)
use Rattle.std.specs.Prelude.{◌≡◌, ℕ, ◌+◌, List, [], ◌∷◌, ◌++◌, length, Bool, false, if◌then◌else◌, nat_lt, ◌||◌}
use Rattle.std.specs.List.{list_any}
use Rattle.pi_base.specs.Field.{little_bytes}
use Rattle.fv_volume.specs.declared.file_header.TheConstants.{HEADER_LEN, LARGE_HEADER_LEN, FIXED_CHECKSUM}
use Rattle.fv_volume.specs.{declared.build.file_system.TheConstants.MOST_SIZE, declared.build.file_header.TheConstants.WRITTEN}
use Rattle.fv_volume.specs.{declared.build.file_header.FileHead.FileHead, declared.build.new_file.NewFile.NewFile}
use Rattle.fv_volume.specs.declared.build.new_file.Body.{Body}
use Rattle.fv_volume.specs.declared.build.new_file.Body.TheVariants.{Sections, Bytes}
use Rattle.fv_volume.specs.FileSystems.{FileSystem, Ffs2, Ffs3}
use Rattle.fv_volume.specs.{Attributes.attributes_byte, Checksum.checksum8, Sections.body_bytes, Sections.is_section_too_long}

-- a file with so many bytes of body is large in FFS3 if its size does not fit the Size field
abbrev pub is_large : FileSystem → ℕ → Bool
is_large Ffs2 body_len = false
is_large Ffs3 body_len = nat_lt MOST_SIZE (HEADER_LEN + body_len)

-- the size of a file, its header in it
abbrev pub file_size : FileSystem → ℕ → ℕ
file_size file_system body_len = (if is_large file_system body_len then LARGE_HEADER_LEN else HEADER_LEN) + body_len

-- the eight bytes after the name: header checksum, file checksum, Type, Attributes, Size and State
abbrev pub short_fields : FileHead → ℕ → ℕ → ℕ → List ℕ
short_fields head header_checksum file_checksum state =
    header_checksum ∷ (file_checksum ∷ (head.kind ∷ (attributes_byte head.attributes head.large ∷ (little_bytes 3 (if head.large then 0 else head.size) ++ state ∷ []))))

-- ExtendedSize
abbrev pub extended_size : FileHead → List ℕ
extended_size head = if head.large then little_bytes 8 head.size else []

-- the header with these checksums and State
abbrev pub header_with : FileHead → ℕ → ℕ → ℕ → List ℕ
header_with head header_checksum file_checksum state = head.name.0 ++ (short_fields head header_checksum file_checksum state ++ extended_size head)

-- the header: its bytes sum to 0 if the file checksum and the State count as 0
abbrev pub file_header : FileHead → List ℕ
file_header head = header_with head (checksum8 (header_with head 0 0 0)) FIXED_CHECKSUM WRITTEN

-- what the header of a file with so many bytes of body says
abbrev pub head_of : FileSystem → NewFile → ℕ → FileHead
head_of file_system file body_len =
    record { name = file.name; kind = file.kind; attributes = file.attributes; large = is_large file_system body_len; size = file_size file_system body_len }

-- a file with this body
abbrev pub file_with : FileSystem → NewFile → List ℕ → List ℕ
file_with file_system file body = file_header (head_of file_system file (length body)) ++ body

-- what is after a file's header
abbrev pub bytes_in : FileSystem → Body → List ℕ
bytes_in file_system (Sections sections) = body_bytes file_system sections
bytes_in file_system (Bytes bytes) = bytes

-- a file: its header and its body
abbrev pub file_bytes : FileSystem → NewFile → List ℕ
file_bytes file_system file = file_with file_system file (bytes_in file_system file.body)

-- a name has sixteen bytes
abbrev pub HasWholeName : NewFile → Type 0
HasWholeName file = length file.name.0 ≡ 16

-- FFS2 has no field for a longer file's size
abbrev pub is_past_size : FileSystem → ℕ → Bool
is_past_size Ffs2 body_len = nat_lt MOST_SIZE (HEADER_LEN + body_len)
is_past_size Ffs3 body_len = false

-- one of the sections is too long for its size fields
abbrev pub has_long_section : FileSystem → Body → Bool
has_long_section file_system (Sections sections) = list_any (is_section_too_long file_system) sections
has_long_section file_system (Bytes bytes) = false

-- one of the sections, or the file, is too long for its size fields
abbrev pub is_file_too_long : FileSystem → NewFile → Bool
is_file_too_long file_system file = has_long_section file_system file.body || is_past_size file_system (length (bytes_in file_system file.body))
