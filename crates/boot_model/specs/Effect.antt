-- What an action of a script does: `R` is what a service of the phase answers, and `O` an action of the phase's own.
-- The actions that the scripts of both phases have write a register, log, skip or return.
-- Own; the profile of the action scripts.
use Rattle.std.specs.Prelude.{ℕ, ◌+◌, ◌%◌, ◌^◌, List, Option, Some, None, option_map, slice_set}
use Rattle.pi_base.specs.{declared.word.Word.Word, declared.word.Word.TheVariants.Success, declared.word.Word.TheVariants.InvalidParameter}
use Rattle.act_code.specs.declared.action.Action.{Action}
use Rattle.act_code.specs.declared.action.Action.TheVariants as A
use Rattle.boot_model.specs.{declared.frame.Frame.Frame, declared.frame.Register.Register, declared.frame.Register.TheVariants.Number}
use Rattle.boot_model.specs.{declared.line.CallName.CallName, Registers.number_in, Registers.skipped}

-- what an action does: it wrote registers and has a status, called a service, logged, skips so many actions, returned, or is the phase's own
pub data Effect (R O : Type 0) : Type 0 where
  Wrote : (registers : List Register) (status : Word) → Effect R O
  Called : (name : CallName) (reply : R) → Effect R O
  Logged : (text : List ℕ) → Effect R O
  Skipped : (n : ℕ) → Effect R O
  Returned : (status : Word) → Effect R O
  Own : (own : O) → Effect R O

-- a register becomes a number, if there is one
abbrev pub number_written : {R O : Type 0} → List Register → ℕ → Option ℕ → Effect R O
number_written registers r None = Wrote registers InvalidParameter
number_written registers r (Some n) = Wrote (slice_set registers r (Number n)) Success

-- the actions of both phases, and those of one
abbrev pub effect_by : {W R O : Type 0} → (Action → Effect R O) → Frame W → Action → Effect R O
effect_by own frame (A.Set r n) = Wrote (slice_set frame.registers r (Number n)) Success
effect_by own frame (A.Add r n) = number_written frame.registers r (option_map (λ old. (old + n) % 2 ^ 64) (number_in frame.registers r))
effect_by own frame (A.Log text) = Logged text
effect_by own frame (A.SkipIf condition n) = Skipped (skipped frame.last condition n)
effect_by own frame (A.Ret status) = Returned status
effect_by own frame action = own action
