-- The a priori files of a volume as they were found.
use Rattle.std.specs.Prelude.{◌≡◌, List}
use Rattle.pi_base.specs.declared.phase.Phase.TheVariants.{Pei, Dxe}
use Rattle.fv_volume.specs.declared.file.FfsFile.{FfsFile}
use Rattle.mod_catalog.specs.{ReadFile.a_priori_file, declared.a_priori.APrioriFiles.APrioriFiles}

-- they are those of these files
pub record AreFound (files : List FfsFile) (found : APrioriFiles) : Type 0 where
  pub pei : found.pei ≡ a_priori_file Pei files
  pub dxe : found.dxe ≡ a_priori_file Dxe files
