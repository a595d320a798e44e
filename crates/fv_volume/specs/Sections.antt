-- The bytes of sections. (PI 1.8, volume 3, `EFI_COMMON_SECTION_HEADER` and `EFI_COMMON_SECTION_HEADER2`.)
use Rattle.std.specs.Prelude.{ℕ, ◌+◌, List, [], ◌∷◌, ◌++◌, length, map, Bool, false, if◌then◌else◌, nat_lt}
use Rattle.pi_base.specs.Field.{little_bytes}
use Rattle.fv_volume.specs.declared.sections.section_header.TheConstants.{HEADER_LEN, EXTENDED_HEADER_LEN, EXTENDED}
use Rattle.fv_volume.specs.{declared.sections.stream.TheConstants.ALIGNMENT, declared.build.file_system.TheConstants.MOST_SIZE}
use Rattle.fv_volume.specs.{declared.build.new_file.NewSection.NewSection, Placing.laid}
use Rattle.fv_volume.specs.FileSystems.{FileSystem, Ffs2, Ffs3, most_section}

-- a section with so many bytes of body is extended in FFS3 if its size does not fit the Size field
abbrev pub is_extended : FileSystem → ℕ → Bool
is_extended Ffs2 body_len = false
is_extended Ffs3 body_len = nat_lt MOST_SIZE (HEADER_LEN + body_len)

-- the size of a section, its header in it
abbrev pub section_size : FileSystem → ℕ → ℕ
section_size file_system body_len = (if is_extended file_system body_len then EXTENDED_HEADER_LEN else HEADER_LEN) + body_len

-- a section's header: Size and Type, or in an extended section 0xFFFFFF, Type and ExtendedSize
abbrev pub section_header : FileSystem → ℕ → ℕ → List ℕ
section_header file_system kind body_len =
    if is_extended file_system body_len then little_bytes 3 EXTENDED ++ kind ∷ little_bytes 4 (section_size file_system body_len)
    else little_bytes 3 (section_size file_system body_len) ++ kind ∷ []

-- a section: its header and its body
abbrev pub section_bytes : FileSystem → NewSection → List ℕ
section_bytes file_system section = section_header file_system section.kind (length section.body) ++ section.body

-- the body of a file: its sections, each at the next multiple of 4, with zeros between
abbrev pub body_bytes : FileSystem → List NewSection → List ℕ
body_bytes file_system sections = laid ALIGNMENT 0 0 (map (section_bytes file_system) sections)

-- a section is too long for its size fields
abbrev pub is_section_too_long : FileSystem → NewSection → Bool
is_section_too_long file_system section = nat_lt (most_section file_system) (section_size file_system (length section.body))
