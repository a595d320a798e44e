-- The generated volume (own): n modules, each waiting for the PPI of the one at half its number, which is after it.
use Rattle.std.specs.Prelude.{ℕ, suc, zero, ◌+◌, ◌-◌, ◌/◌, ◌%◌, Bool, false, List, [], ◌∷◌, ◌++◌, map, replicate, ◌==◌, if◌then◌else◌}
use Rattle.pi_base.specs.{declared.guid.Guid.Guid, declared.phase.Phase.TheVariants.Pei, declared.word.Word.TheVariants.Success}
use Rattle.fv_volume.specs.declared.file_type.TheConstants.{PEIM}
use Rattle.fv_volume.specs.declared.sections.section_type.TheConstants.{PEI_DEPEX, RAW}
use Rattle.depex_code.specs.{declared.depex.Depex.TheVariants.Expr, Tree.Push, Expression.instructions, Expression.bytes_of}
use Rattle.act_code.specs.{declared.action.Action.Action, declared.action.GuidArg.TheVariants.Inline, declared.script.Script.Script}
use Rattle.act_code.specs.declared.action.Action.TheVariants.{Set, Desc, Install, Memory, Ret}
use Rattle.act_code.specs.Script.{script_bytes}
use Rattle.fv_volume.specs.declared.build.generated.TheConstants.{NAMES, PPIS, VOLUME_LEN, MEMORY_BASE, MEMORY_LEN}
use Rattle.pi_base.specs.declared.known_guid.TheConstants.{DXE_IPL_PPI}
use Rattle.fv_volume.specs.{declared.build.new_file.NewFile.NewFile, declared.build.new_file.NewSection.NewSection}
use Rattle.fv_volume.specs.{declared.build.new_file.Body.TheVariants.Sections, Attributes.plain_attributes, FileSystems.Ffs2}
use Rattle.fv_volume.specs.Building.{built}

-- 0000000F-0000-0000-0000- and a number below 65,536 in twelve digits, as stored
abbrev pub numbered : ℕ → ℕ → Guid
numbered family number = record { 0 = family ∷ (replicate 13 0 ++ number / 256 ∷ (number % 256 ∷ [])) }

-- a PPI with a value is installed from two registers
abbrev pub installs : ℕ → ℕ → Guid → ℕ → List Action
installs r d ppi value = Set r value ∷ Desc d 0 (Inline ppi) r ∷ Install (d ∷ []) ∷ []

-- the first module reports permanent memory
abbrev pub memory_said : Bool → List Action
memory_said first = if first then Set 2 MEMORY_BASE ∷ Set 3 MEMORY_LEN ∷ Memory 2 3 ∷ [] else []

-- the last one installs the PPI without which there is no hand-off
abbrev pub hand_off : Bool → List Action
hand_off last = if last then installs 4 5 DXE_IPL_PPI 0 else []

-- the script of module i: it installs its own PPI
abbrev pub actions_of : Bool → Bool → ℕ → List Action
actions_of first last i = installs 0 1 (numbered PPIS i) i ++ (memory_said first ++ (hand_off last ++ Ret Success ∷ []))

abbrev pub script_of : Bool → Bool → ℕ → Script
script_of first last i = record { phase = Pei; blocks = actions_of first last i ∷ [] }

-- the bytes of an expression that is true once a PPI is installed
abbrev pub waits_for : Guid → List ℕ
waits_for ppi = bytes_of (instructions (Expr false (Push ppi)))

-- all modules but the first wait
abbrev pub expression_of : Bool → ℕ → List NewSection
expression_of first i = if first then [] else record { kind = PEI_DEPEX; body = waits_for (numbered PPIS ((i - 1) / 2)) } ∷ []

-- module i of n, a PEIM
abbrev pub module_of : ℕ → ℕ → NewFile
module_of n i = record {
  name = numbered NAMES i;
  kind = PEIM;
  attributes = plain_attributes;
  body = Sections (expression_of (i == 0) i ++ record { kind = RAW; body = script_bytes (script_of (i == 0) (i + 1 == n) i) } ∷ []);
}

-- the numbers below n, downwards
abbrev pub downward : ℕ → List ℕ
downward zero = []
downward (suc n) = n ∷ downward n

-- the files: the modules from n - 1 down to 0
abbrev pub generated_files : ℕ → List NewFile
generated_files n = map (module_of n) (downward n)

-- the volume
abbrev pub generated : ℕ → List ℕ
generated n = built Ffs2 (generated_files n) VOLUME_LEN
