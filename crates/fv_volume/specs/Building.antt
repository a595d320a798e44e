-- A built volume, and why one cannot be built. (PI 1.8, volume 3, firmware volumes.)
use Rattle.std.specs.Prelude.{◌≡◌, ℕ, ◌+◌, ◌-◌, ◌^◌, List, ◌++◌, length, map, replicate, min, Option, Some, None, if◌then◌else◌, nat_lt}
use Rattle.std.specs.List.{list_any}
use Rattle.fv_volume.specs.{declared.frame.TheConstants.ALIGNMENT, declared.search.TheConstants.MOST_FILES}
use Rattle.fv_volume.specs.{declared.build.volume_header.TheConstants.ERASED, declared.build.fault.BuildFault.BuildFault}
use Rattle.fv_volume.specs.declared.build.fault.BuildFault.TheVariants.{TooMany, Size, NoRoom, Memory}
use Rattle.fv_volume.specs.{declared.build.new_file.NewFile.NewFile, declared.build.volume_name.VolumeName.VolumeName}
use Rattle.fv_volume.specs.{FileSystems.FileSystem, Placing.laid, Files.file_bytes, Files.is_file_too_long}
use Rattle.fv_volume.specs.declared.build.volume_header.VolumeForm.{VolumeForm}
use Rattle.fv_volume.specs.Header.{head_of, plain, volume_header}
use Rattle.fv_volume.specs.Front.{ext_at, name_part, front_len}

-- the files after so many bytes, each at the next multiple of 8, with erased bytes between
abbrev pub files_bytes : FileSystem → ℕ → List NewFile → List ℕ
files_bytes file_system from files = laid ALIGNMENT ERASED from (map (file_bytes file_system) files)

-- the bytes up to the end of the last file
abbrev pub need : FileSystem → ℕ → List NewFile → ℕ
need file_system from files = from + length (files_bytes file_system from files)

-- the files after so many bytes of a volume of this length, and erased bytes after them
abbrev pub filled_from : FileSystem → ℕ → List NewFile → ℕ → List ℕ
filled_from file_system from files len = files_bytes file_system from files ++ replicate (len - need file_system from files) ERASED

-- a volume of this form and length, with this name or with none: its header, its name, its files and erased bytes
abbrev pub volume_bytes : VolumeForm → Option VolumeName → List NewFile → ℕ → List ℕ
volume_bytes form name files len =
    volume_header (head_of form (ext_at name) len)
    ++ (name_part form.header_len name ++ filled_from form.file_system (front_len form name) files len)

-- a volume without a name
abbrev pub built_as : VolumeForm → List NewFile → ℕ → List ℕ
built_as form files len = volume_bytes form None files len

-- a volume with the usual header, with no attributes but its erase polarity
abbrev pub built : FileSystem → List NewFile → ℕ → List ℕ
built file_system files len = built_as (plain file_system) files len

-- the first reason why files cannot be laid after so many bytes of a volume of this length, in this order; nothing if they have room
abbrev pub fault_from : FileSystem → ℕ → List NewFile → ℕ → Option BuildFault
fault_from file_system from files len =
    if nat_lt MOST_FILES (length files) then Some TooMany
    else if list_any (is_file_too_long file_system) files then Some Size
    else if nat_lt len (need file_system from files) then Some (NoRoom (min (need file_system from files) (2 ^ 64 - 1)) len)
    else None

-- the first reason why a volume cannot be built; nothing if it can
abbrev pub volume_fault : VolumeForm → Option VolumeName → List NewFile → ℕ → Option BuildFault
volume_fault form name files len = fault_from form.file_system (front_len form name) files len

-- a refusal gives the reason why the volume cannot be built; memory runs out only if there is no such reason
abbrev pub IsRefusal : VolumeForm → Option VolumeName → List NewFile → ℕ → BuildFault → Type 0
IsRefusal form name files len Memory = volume_fault form name files len ≡ None
IsRefusal form name files len fault = volume_fault form name files len ≡ Some fault
