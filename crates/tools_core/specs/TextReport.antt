-- What the text of an expression or of a script leads to, and what bytes do.
-- PI 1.8, volume 2, "Dependency Expressions"; the text and the scripts are own.
use Rattle.std.specs.Prelude.{◌≡◌, ◌≢◌, ℕ, ◌≤◌, ◌<◌, List, [], ◌∷◌, ◌++◌, length}
use Rattle.hex.specs.Hex.{encode_lower}
use Rattle.pi_base.specs.declared.phase.Phase.{Phase}
use Rattle.depex_code.specs.declared.depex.Depex.{Depex}
use Rattle.depex_code.specs.Expression.{bytes_of, instructions, IsMalformed, Reads}
use Rattle.act_code.specs.{declared.fault.ActFault.ActFault, declared.fault.ActCause.TheVariants.Memory, declared.script.Script.Script}
use Rattle.act_code.specs.Script.{IsFault, IsScript, script_bytes}
use Rattle.asm_text.specs.{BadLine.IsBadLine, ExpressionText.depex_text, ReadDepex.IsDepexOf, ReadDepex.IsDepexText}
use Rattle.asm_text.specs.{ReadScript.IsScriptOf, ReadScript.IsScriptText, ScriptText.script_text}
use Rattle.tools_core.specs.declared.status.ToolStatus.{ToolStatus}
use Rattle.tools_core.specs.declared.status.ToolStatus.TheVariants.{Done, TextRefused}
use Rattle.tools_core.specs.Refusals.{text_line, text_long_line, malformed_line, bytes_line}

-- bytes as plain hexadecimal on one line
abbrev pub hex_line : List ℕ → List ℕ
hex_line bytes = encode_lower bytes ++ 10 ∷ []

-- the text of an expression, as bytes
pub data DepexReport (text : List ℕ) (status : ToolStatus) (out : List ℕ) : Type 0 where
  bad : (line : ℕ) → IsBadLine IsDepexText text line → status ≡ TextRefused → out ≡ text_line line → DepexReport text status out
  long : (depex : Depex) → IsDepexOf text depex → 1024 < length (instructions depex) → status ≡ TextRefused → out ≡ text_long_line
      → DepexReport text status out
  spelled : (depex : Depex) → IsDepexOf text depex → length (instructions depex) ≤ 1024 → status ≡ Done
      → out ≡ hex_line (bytes_of (instructions depex)) → DepexReport text status out

-- bytes as the text of an expression
pub data ExpressionReport (phase : Phase) (bytes : List ℕ) (status : ToolStatus) (out : List ℕ) : Type 0 where
  malformed : (at : ℕ) → IsMalformed phase bytes at → status ≡ TextRefused → out ≡ malformed_line at → ExpressionReport phase bytes status out
  read : (depex : Depex) → Reads phase bytes depex → status ≡ Done → out ≡ depex_text depex → ExpressionReport phase bytes status out

-- bytes as the text of a script
pub data ScriptReport (bytes : List ℕ) (status : ToolStatus) (out : List ℕ) : Type 0 where
  faulty : (fault : ActFault) → fault.cause ≢ Memory → IsFault bytes fault → status ≡ TextRefused → out ≡ bytes_line fault.cause fault.at
      → ScriptReport bytes status out
  stands : (script : Script) → IsScript bytes script → status ≡ Done → out ≡ script_text script → ScriptReport bytes status out

-- the text of a script, as bytes
pub data AssemblyReport (text : List ℕ) (status : ToolStatus) (out : List ℕ) : Type 0 where
  no_script : (line : ℕ) → IsBadLine IsScriptText text line → status ≡ TextRefused → out ≡ text_line line → AssemblyReport text status out
  long_script : (script : Script) → IsScriptOf text script → 65536 < length (script_bytes script) → status ≡ TextRefused → out ≡ text_long_line
      → AssemblyReport text status out
  assembled : (script : Script) → IsScriptOf text script → length (script_bytes script) ≤ 65536 → status ≡ Done
      → out ≡ hex_line (script_bytes script) → AssemblyReport text status out
