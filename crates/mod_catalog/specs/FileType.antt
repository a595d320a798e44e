-- Which files have modules, volumes and a priori lists, and in which sections (PI 1.8, volume 3, `EFI_FV_FILETYPE` and section types).
use Rattle.std.specs.Prelude.{ℕ, Bool, ◌||◌, ◌==◌}
use Rattle.pi_base.specs.{declared.guid.Guid.Guid, declared.phase.Phase.Phase}
use Rattle.pi_base.specs.declared.phase.Phase.TheVariants.{Pei, Dxe}
pub use Rattle.fv_volume.specs.declared.file_type.TheConstants.{FREEFORM, PEIM, DRIVER, COMBINED_PEIM_DRIVER, COMBINED_MM_DXE}
use Rattle.fv_volume.specs.declared.sections.section_type.TheConstants.{PEI_DEPEX, DXE_DEPEX}
use Rattle.mod_catalog.specs.declared.a_priori_name.TheConstants.{PEI_APRIORI, DXE_APRIORI}

-- whether files of this type have a part for the phase
abbrev pub has_part : Phase → ℕ → Bool
has_part Pei kind = (kind == PEIM) || (kind == COMBINED_PEIM_DRIVER)
has_part Dxe kind = (kind == DRIVER) || (kind == COMBINED_PEIM_DRIVER) || (kind == COMBINED_MM_DXE)

-- whether they have a module
abbrev pub has_module : ℕ → Bool
has_module kind = has_part Pei kind || has_part Dxe kind

-- the type of the section with a part's dependency expression
abbrev pub expression_section : Phase → ℕ
expression_section Pei = PEI_DEPEX
expression_section Dxe = DXE_DEPEX

-- the name of the a priori file of a phase
abbrev pub a_priori_name : Phase → Guid
a_priori_name Pei = PEI_APRIORI
a_priori_name Dxe = DXE_APRIORI
