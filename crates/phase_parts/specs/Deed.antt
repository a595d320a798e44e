-- What an action does that the scripts of both phases have: it writes a register, logs, skips or returns.
-- Own; the profile of the action scripts.
use Rattle.std.specs.Prelude.{ℕ, ◌+◌, ◌%◌, ◌^◌, List, [], ◌∷◌, Option, Some, None, option_map, slice_set}
use Rattle.pi_base.specs.{declared.word.Word.Word, declared.word.Word.TheVariants.Success, declared.word.Word.TheVariants.InvalidParameter}
use Rattle.act_code.specs.declared.action.Action.{Action}
use Rattle.act_code.specs.declared.action.Action.TheVariants as A
use Rattle.boot_model.specs.{declared.frame.Register.Register, declared.frame.Register.TheVariants.Number, declared.line.Line.Line}
use Rattle.boot_model.specs.declared.line.Line.TheVariants as L
use Rattle.boot_model.specs.{Registers.number_in, Registers.skipped, declared.frame.Frame.Frame}
use Rattle.phase_parts.specs.Frames.{past}

pub data Deed : Type 0 where
  Wrote : (registers : List Register) (status : Word) → Deed
  Logged : (text : List ℕ) → Deed
  Skipped : (n : ℕ) → Deed
  Returned : (status : Word) → Deed

-- a register becomes a number, if there is one
abbrev pub number_written : List Register → ℕ → Option ℕ → Deed
number_written registers r None = Wrote registers InvalidParameter
number_written registers r (Some n) = Wrote (slice_set registers r (Number n)) Success

-- a number is added to the number in a register, if it holds one
abbrev pub number_added : List Register → ℕ → ℕ → Deed
number_added registers r n = number_written registers r (option_map (λ old. (old + n) % 2 ^ 64) (number_in registers r))

-- the actions of both phases; each other action is a phase's own
abbrev pub deed : {W : Type 0} → Frame W → Action → Option Deed
deed frame (A.Set r n) = Some (number_written frame.registers r (Some n))
deed frame (A.Add r n) = Some (number_added frame.registers r n)
deed frame (A.Log text) = Some (Logged text)
deed frame (A.SkipIf condition n) = Some (Skipped (skipped frame.last condition n))
deed frame (A.Ret status) = Some (Returned status)
deed frame _ = None

-- the frame after it
abbrev pub frame_after : {W : Type 0} → Frame W → Deed → Frame W
frame_after frame (Wrote registers status) = record (past frame 0) { registers = registers; last = status }
frame_after frame (Logged text) = past frame 0
frame_after frame (Skipped n) = past frame n
frame_after frame (Returned status) = frame

-- the frames after it: that one, unless it ends
abbrev pub frames_after : {W : Type 0} → Frame W → List (Frame W) → Deed → List (Frame W)
frames_after frame below (Wrote registers status) = frame_after frame (Wrote registers status) ∷ below
frames_after frame below (Logged text) = frame_after frame (Logged text) ∷ below
frames_after frame below (Skipped n) = frame_after frame (Skipped n) ∷ below
frames_after frame below (Returned status) = below

-- the lines that it prints
abbrev pub lines_of : Deed → List Line
lines_of (Wrote registers status) = []
lines_of (Logged text) = L.Log (record { items = text }) ∷ []
lines_of (Skipped n) = []
lines_of (Returned status) = L.End status ∷ []
