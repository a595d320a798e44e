-- What is before the files of a built volume: its header, and its name if it has one.
-- (PI 1.8, volume 3, `EFI_FIRMWARE_VOLUME_HEADER` and `EFI_FIRMWARE_VOLUME_EXT_HEADER`; the usual place is own.)
use Rattle.std.specs.Prelude.{ℕ, ◌+◌, ◌-◌, Bool, true, nat_le, ◌&&◌, List, [], ◌++◌, replicate, Option, Some, None}
use Rattle.pi_base.specs.{declared.guid.Guid.Guid, Field.little_bytes}
use Rattle.fv_volume.specs.{Frame.aligned, declared.build.volume_header.TheConstants.ERASED}
use Rattle.fv_volume.specs.declared.build.volume_header.VolumeForm.{VolumeForm}
use Rattle.fv_volume.specs.declared.build.volume_name.TheConstants.{EXT_AT, EXT_HEADER_LEN}
use Rattle.fv_volume.specs.declared.build.volume_name.VolumeName.{VolumeName}

-- a name at the usual place, without entries
abbrev pub usual_name : Guid → VolumeName
usual_name guid = record { guid = guid; at = EXT_AT; size = EXT_HEADER_LEN }

-- a name is after a header of so many bytes, and has all of its fields
abbrev pub is_placed : ℕ → Option VolumeName → Bool
is_placed header_len None = true
is_placed header_len (Some name) = nat_le header_len name.at && nat_le EXT_HEADER_LEN name.size

-- ExtHeaderOffset, 0 if there is no name
abbrev pub ext_at : Option VolumeName → ℕ
ext_at None = 0
ext_at (Some name) = name.at

-- the extended header: FvName, ExtHeaderSize, and erased bytes in the place of entries
abbrev pub extended_bytes : VolumeName → List ℕ
extended_bytes name = name.guid.0 ++ (little_bytes 4 name.size ++ replicate (name.size - EXT_HEADER_LEN) ERASED)

-- what is between a header of so many bytes and the end of the extended header: erased bytes up to its place, and it
abbrev pub name_part : ℕ → Option VolumeName → List ℕ
name_part header_len None = []
name_part header_len (Some name) = replicate (name.at - header_len) ERASED ++ extended_bytes name

-- the bytes before the files
abbrev pub front_len : VolumeForm → Option VolumeName → ℕ
front_len form None = form.header_len
front_len form (Some name) = name.at + name.size

-- the offset of the first file
abbrev pub first_place : VolumeForm → Option VolumeName → ℕ
first_place form name = aligned (front_len form name)
