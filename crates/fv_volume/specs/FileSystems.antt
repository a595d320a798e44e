-- The two file systems, and the sizes that their fields can hold. (PI 1.8, volume 3.)
use Rattle.std.specs.Prelude.{ℕ, List}
use Rattle.fv_volume.specs.declared.volume_header.TheConstants.{FFS2, FFS3}
use Rattle.fv_volume.specs.declared.build.file_system.TheConstants.{MOST_SIZE, MOST_EXTENDED_SIZE}
pub use Rattle.fv_volume.specs.declared.build.file_system.FileSystem.{FileSystem}
pub use Rattle.fv_volume.specs.declared.build.file_system.FileSystem.TheVariants.{Ffs2, Ffs3}

-- the GUID in a volume's header
abbrev pub file_system_guid : FileSystem → List ℕ
file_system_guid Ffs2 = FFS2
file_system_guid Ffs3 = FFS3

-- the size of the longest section
abbrev pub most_section : FileSystem → ℕ
most_section Ffs2 = MOST_SIZE
most_section Ffs3 = MOST_EXTENDED_SIZE
