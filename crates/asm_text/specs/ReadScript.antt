-- Reading the text of a script (own).
use Rattle.std.specs.Prelude.{◌≡◌, ℕ, ◌<◌, ⊤, List, length, Result, Ok, Err}
use Rattle.hex.specs.Hex.{IsBytes}
use Rattle.act_code.specs.{declared.script.Script.Script, Script.script_bytes, Script.IsInGrammar}
use Rattle.asm_text.specs.{declared.fault.TextFault.TextFault, BadLine.IsBadLine, ScriptText.script_text}
use Rattle.asm_text.specs.declared.fault.TextFault.TheVariants.{Bad, TooLong, Memory}

-- a script in the grammar, however long, whose bytes are bytes
pub record IsWellFormed (script : Script) : Type 0 where
  pub grammar : IsInGrammar script
  pub bytes : IsBytes (script_bytes script)

-- the text is that of a script
abbrev pub IsScriptOf : List ℕ → Script → Type 0
IsScriptOf text script = IsWellFormed script × (text ≡ script_text script)

abbrev pub IsScriptText : List ℕ → Type 0
IsScriptText text = (script : Script) × IsScriptOf text script

-- the answer is the script, or memory ran out
abbrev pub GivesScript : Script → Result Script TextFault → Type 0
GivesScript script (Ok read) = read ≡ script
GivesScript script (Err fault) = fault ≡ Memory

-- why nothing was read
abbrev pub IsScriptRefused : List ℕ → TextFault → Type 0
IsScriptRefused text (Bad line) = IsBadLine IsScriptText text line
IsScriptRefused text TooLong = (script : Script) × IsScriptOf text script × (65536 < length (script_bytes script))
IsScriptRefused text Memory = ⊤
