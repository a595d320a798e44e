-- A script of which some lines are read, and the bytes that it has at its `end` (own).
use Rattle.std.specs.Prelude.{◌≡◌, ℕ, List, [], ◌∷◌, ◌++◌, slice_get, Option, Some, None, Result, Ok, Err}
use Rattle.pi_base.specs.declared.phase.Phase.{Phase}
use Rattle.act_code.specs.{declared.action.Action.Action, declared.script.Script.Script}
use Rattle.source_words.specs.{declared.script.fault.LineFault.LineFault, declared.script.script.ScriptCause.TheVariants.NoBlock}
use Rattle.source_words.specs.{declared.script.script.ScriptFault.ScriptFault, Action.action_of, Script.IsUnfit, Script.IsWhole}
use Rattle.source_words.specs.declared.script.script.ScriptFault.TheVariants.{Bad, TooLong, Memory}
use Rattle.volume_text.specs.{declared.fault.Cause.Cause, declared.fault.Fault.Fault, Reading.◌>>=◌, Open.last_of}
use Rattle.volume_text.specs.declared.fault.Cause.TheVariants as cause

abbrev pub last_block : List (List Action) → Option (List (List Action) × List Action)
last_block blocks = last_of blocks

abbrev pub script_of : Phase → List (List Action) → Script
script_of phase blocks = record { phase = phase; blocks = blocks }

-- the script with one more block
abbrev pub with_block : Script → Script
with_block script = script_of script.phase (script.blocks ++ [] ∷ [])

abbrev pub said_by : Result Action LineFault → Result Action Cause
said_by (Ok action) = Ok action
said_by (Err fault) = Err (cause.Action fault)

-- the action that a line of a script says
abbrev pub action_at : Phase → List ℕ → Result Action Cause
action_at phase line = said_by (action_of phase line)

abbrev pub into_last : Phase → List ℕ → Option (List (List Action) × List Action) → Result Script Cause
into_last phase line None = Err (cause.Script NoBlock)
into_last phase line (Some parts) = action_at phase line >>= (λ action. Ok (script_of phase (parts.0 ++ (parts.1 ++ action ∷ []) ∷ [])))

-- the script with one more action in its last block
abbrev pub with_action : Script → List ℕ → Result Script Cause
with_action script line = into_last script.phase line (last_block script.blocks)

abbrev pub line_or : ℕ → Option ℕ → ℕ
line_or end None = end
line_or end (Some line) = line

-- the text's line of a script's line at a place: the script's end stands behind its lines
abbrev pub line_at : List ℕ → ℕ → ℕ → ℕ
line_at lines end place = line_or end (slice_get lines place)

-- why a script cannot end, as a fault of the text
abbrev pub placed : List ℕ → ℕ → ScriptFault → Option Fault
placed lines end (Bad place c) = Some (record { line = line_at lines end place; cause = cause.Script c })
placed lines end TooLong = Some (record { line = end; cause = cause.ScriptTooLong })
placed lines end Memory = None

-- the bytes of a script at its `end`; or why there are none, at the first of its lines at which something is wrong
abbrev pub IsScriptBody : Script → List ℕ → ℕ → Result (List ℕ) Fault → Type 0
IsScriptBody script lines end (Ok body) = IsWhole script body
IsScriptBody script lines end (Err fault) = (why : ScriptFault) × IsUnfit script why × (placed lines end why ≡ Some fault)
