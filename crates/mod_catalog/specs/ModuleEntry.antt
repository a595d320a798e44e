-- The module of a file: what it has for PEI and for DXE.
use Rattle.std.specs.Prelude.{◌≡◌, ℕ, Bool, true, false, List, [], find, Option, Some, None, unwrap_or, ⊤}
use Rattle.pi_base.specs.{declared.phase.Phase.Phase, declared.phase.Phase.TheVariants.Pei, declared.phase.Phase.TheVariants.Dxe}
use Rattle.fv_volume.specs.declared.file.FfsFile.{FfsFile}
use Rattle.depex_code.specs.Expression.{Reads, IsMalformed}
use Rattle.act_code.specs.declared.script.Script.{Script}
use Rattle.mod_catalog.specs.{declared.catalogue.Module.Module, declared.catalogue.Part.Part, declared.catalogue.PartExpr.PartExpr}
use Rattle.mod_catalog.specs.declared.catalogue.PartExpr.TheVariants.{Absent, Malformed, Held}
use Rattle.mod_catalog.specs.{FileType.has_part, FileType.expression_section, ReadFile.ReadFile, ReadFile.first_body}
use Rattle.mod_catalog.specs.APrioriNames.{a_priori_list, rank_of}

-- the expression in the first section for it
abbrev pub IsExpression : Phase → Option (List ℕ) → PartExpr → Type 0
IsExpression phase None Absent = ⊤
IsExpression phase None (Malformed at) = ⊥
IsExpression phase None (Held expression) = ⊥
IsExpression phase (Some body) Absent = ⊥
IsExpression phase (Some body) (Malformed at) = IsMalformed phase body at
IsExpression phase (Some body) (Held expression) = Reads phase body expression

-- whether a script is of the phase
abbrev pub is_of_phase : Phase → Script → Bool
is_of_phase Pei script = is_pei script.phase
  where
    is_pei : Phase → Bool
    is_pei Pei = true
    is_pei Dxe = false
is_of_phase Dxe script = is_dxe script.phase
  where
    is_dxe : Phase → Bool
    is_dxe Pei = false
    is_dxe Dxe = true

-- the script of a part: the first of its phase, or one without blocks
abbrev pub script_for : Phase → List Script → Script
script_for phase scripts = unwrap_or (find (is_of_phase phase) scripts) (record { phase = phase; blocks = [] })

-- a file's part for a phase, in a volume of these files
pub record IsPart (bytes : List ℕ) (files : List FfsFile) (reads : List ReadFile) (read : ReadFile) (phase : Phase) (part : Part) : Type 0 where
  pub rank : part.rank ≡ rank_of phase files (a_priori_list bytes files reads phase) read.file
  pub expression : IsExpression phase (first_body bytes (expression_section phase) read.file read.sections) part.expr
  pub script : part.script ≡ script_for phase read.scripts

-- a part that is there exactly when the file's type has one
abbrev pub IsPartIf : Bool → (Part → Type 0) → Option Part → Type 0
IsPartIf true IsThis (Some part) = IsThis part
IsPartIf true IsThis None = ⊥
IsPartIf false IsThis (Some part) = ⊥
IsPartIf false IsThis None = ⊤

-- the module of a file that was read, in the volume of a number
pub record IsModule (bytes : List ℕ) (files : List FfsFile) (reads : List ReadFile) (number : ℕ) (read : ReadFile) (made : Module) : Type 0 where
  pub volume : made.volume ≡ number
  pub at : made.at ≡ read.file.at
  pub name : made.name ≡ read.file.name
  pub kind : made.kind ≡ read.file.kind
  pub pei : IsPartIf (has_part Pei read.file.kind) (IsPart bytes files reads read Pei) made.pei
  pub dxe : IsPartIf (has_part Dxe read.file.kind) (IsPart bytes files reads read Dxe) made.dxe
