-- The scripts of a file, and how many bytes they have.
use Rattle.std.specs.Prelude.{◌≡◌, ℕ, ◌+◌, ◌≤◌, List}
use Rattle.pi_base.specs.Lists.{EachPair}
use Rattle.fv_volume.specs.{declared.file.FfsFile.FfsFile, declared.sections.section.Section.Section}
use Rattle.act_code.specs.{declared.script.Script.Script, Script.IsScript}
use Rattle.mod_catalog.specs.{declared.limits.TheConstants.MOST_SCRIPT_BYTES, ReadFile.section_body, ReadFile.script_sections}
use Rattle.mod_catalog.specs.{Totals.bytes_of, declared.scripts.Scripts.Scripts}

-- a section's script
abbrev pub IsScriptOf : List ℕ → FfsFile → Section → Script → Type 0
IsScriptOf bytes file section script = IsScript (section_body bytes file section) script

-- the scripts of a file, whose bytes keep the limit after those of other files
pub record HoldsScripts (bytes : List ℕ) (file : FfsFile) (sections : List Section) (used : ℕ) (held : Scripts) : Type 0 where
  pub scripts : EachPair (IsScriptOf bytes file) (script_sections bytes file sections) held.scripts
  pub count : held.bytes ≡ bytes_of (script_sections bytes file sections)
  pub within : used + held.bytes ≤ MOST_SCRIPT_BYTES
