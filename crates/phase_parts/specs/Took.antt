-- The outcome of an action of the top frame, with the frames after it.
-- Own.
use Rattle.std.specs.Prelude.{◌≡◌, List, [], ◌∷◌, Some, None}
use Rattle.act_code.specs.declared.action.Action.{Action}
use Rattle.boot_model.specs.{declared.line.Line.Line, declared.frame.Frame.Frame}
use Rattle.phase_parts.specs.Deed.{Deed, deed, frames_after, lines_of}
use Rattle.phase_parts.specs.declared.actions.Taken.{Taken}
use Rattle.phase_parts.specs.declared.actions.Taken.TheVariants as T

-- an action of both phases was taken, and prints these lines
pub record HasDone {W : Type 0} (frame : Frame W) (below : List (Frame W)) (action : Action) (lines : List Line) (new : List (Frame W)) : Type 0 where
  pub does : Deed
  pub is : deed frame action ≡ Some does
  pub frames : new ≡ frames_after frame below does
  pub told : lines_of does ≡ lines

-- by the answer
abbrev pub Took : {W : Type 0} → Frame W → List (Frame W) → Action → Taken → List (Frame W) → Type 0
Took frame below action T.Silent new = HasDone frame below action [] new
Took frame below action (T.Prints line) new = HasDone frame below action (line ∷ []) new
Took frame below action T.Own new = (deed frame action ≡ None) × (new ≡ frame ∷ below)
