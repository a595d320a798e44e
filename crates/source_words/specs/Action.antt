-- The line of an action: its name and its operands. `log` has the rest of its line as its text (own).
use Rattle.std.specs.Prelude.{ℕ, Bool, ◌&&◌, if◌then◌else◌, bytes_eq, codes, List, length, drop, Option, Some, None, Result, Ok, Err}
use Rattle.std.specs.List.{list_all}
use Rattle.pi_base.specs.{declared.phase.Phase.Phase, declared.phase.Phase.TheVariants.Pei, declared.phase.Phase.TheVariants.Dxe}
use Rattle.act_code.specs.{declared.action.Action.Action, declared.code.Code.Code, Format.is_within}
use Rattle.act_code.specs.declared.action.Action.TheVariants as action
use Rattle.asm_text.specs.LineReading.{code_named}
use Rattle.source_words.specs.{Words.words, declared.script.fault.LineFault.LineFault, Reading.◌>>=◌, Reading.only_if}
use Rattle.source_words.specs.declared.script.fault.LineFault.TheVariants as fault
use Rattle.source_words.specs.{Line.unindented, Line.behind_blank, Word.word_at, Operands.operands_at}

abbrev pub other_phase : Phase → Phase
other_phase Pei = Dxe
other_phase Dxe = Pei

abbrev pub missing_code : Option Code → LineFault
missing_code (Some code) = fault.OtherPhase
missing_code None = fault.UnknownAction

abbrev pub code_or_fault : Option Code → Option Code → Result Code LineFault
code_or_fault (Some code) others = Ok code
code_or_fault None others = Err (missing_code others)

-- the code of the action of the phase that has the name
unfoldable pub code_of_name : Phase → List ℕ → Result Code LineFault
code_of_name phase name = code_or_fault (code_named phase name) (code_named (other_phase phase) name)

-- a text to be logged has 1 to 64 printable bytes
abbrev pub is_logged : List ℕ → Bool
is_logged text = is_within 1 64 (length text) && list_all (is_within 32 126) text

-- the action that logs the text behind the name
abbrev pub log_of : List ℕ → Result Action LineFault
log_of text = only_if (is_logged text) fault.Log (action.Log text)

-- what stands behind `log` and one blank, blanks at either end of it as they are
abbrev pub logged : List ℕ → List ℕ
logged line = behind_blank (drop 3 (unindented line))

-- the action of a phase that a line says
unfoldable pub action_of : Phase → List ℕ → Result Action LineFault
action_of phase line = do
  w ← word_at (words line)
  if bytes_eq w.0 (codes "log") then log_of (logged line) else code_of_name phase w.0 >>= (λ code. operands_at code w.1)
