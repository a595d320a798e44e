-- Reading the line of an action (own).
use Rattle.std.specs.Prelude.{ℕ, ◌&&◌, bytes_eq, find, List, take, drop, Option}
use Rattle.pi_base.specs.declared.phase.Phase.{Phase}
use Rattle.act_code.specs.{declared.action.Action.Action, declared.code.Code.Code, Table.is_code_of, Table.name_of, Reading.◌>>=◌}
use Rattle.act_code.specs.declared.code.TheConstants.{CODES}
use Rattle.asm_text.specs.{WordReading.space_place, OperandReading.operands_at}

-- the code of the action of a phase that has the name
unfoldable pub code_named : Phase → List ℕ → Option Code
code_named phase name = find (λ code. is_code_of phase code && bytes_eq (name_of code) name) CODES

-- the action of a phase whose line this is
unfoldable pub action_of : Phase → List ℕ → Option Action
action_of phase line = do
  code ← code_named phase (take (space_place line) line)
  operands_at code (drop (space_place line) line)
