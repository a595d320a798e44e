-- The modules of a volume's files, and their parts.
use Rattle.std.specs.Prelude.{◌≡◌, ℕ, List}
use Rattle.pi_base.specs.{Lists.EachPair, declared.guid.Guid.Guid, declared.phase.Phase.Phase}
use Rattle.pi_base.specs.declared.phase.Phase.TheVariants.{Pei, Dxe}
use Rattle.fv_volume.specs.{declared.file.FfsFile.FfsFile, declared.sections.section.Section.Section}
use Rattle.act_code.specs.declared.script.Script.{Script}
use Rattle.mod_catalog.specs.{declared.catalogue.Module.Module, declared.catalogue.Part.Part, FileType.expression_section}
use Rattle.mod_catalog.specs.{declared.read_file.ReadFile.ReadFile, ReadFile.first_body, APrioriNames.a_priori_list, APrioriNames.rank_of}
use Rattle.mod_catalog.specs.{ModuleEntry.IsExpression, ModuleEntry.IsModule, Totals.module_files, declared.modules.VolumeRanks.VolumeRanks}
use Rattle.mod_catalog.specs.Ranks.{GiveRanks}

-- the modules of some of the files of a volume
abbrev pub AreModules : List ℕ → List FfsFile → List ReadFile → ℕ → List ReadFile → List Module → Type 0
AreModules bytes files reads number some modules = EachPair (IsModule bytes files reads number) (module_files some) modules

-- the ranks are those of the a priori lists of these files
pub record RanksHold (bytes : List ℕ) (files : List FfsFile) (reads : List ReadFile) (ranks : VolumeRanks) : Type 0 where
  pub pei : GiveRanks Pei files (a_priori_list bytes files reads Pei) ranks.pei
  pub dxe : GiveRanks Dxe files (a_priori_list bytes files reads Dxe) ranks.dxe

-- a part with this script, and the rank that a list gives
pub record IsPartBy (bytes : List ℕ) (files : List FfsFile) (list : List Guid) (file : FfsFile) (sections : List Section) (phase : Phase) (script : Script) (part : Part) : Type 0 where
  pub rank : part.rank ≡ rank_of phase files list file
  pub expression : IsExpression phase (first_body bytes (expression_section phase) file sections) part.expr
  pub scripted : part.script ≡ script
