-- A script that runs, whatever the calls of its phase have still to visit: `W` is the phase's sweep.
-- Own.
use Rattle.std.specs.Prelude.{List, [], ◌∷◌, Option, Some, None}
use Rattle.pi_base.specs.declared.word.Word.{Word}
use Rattle.boot_model.specs.{declared.frame.Frame.Frame, declared.frame.Register.Register}
pub use Rattle.boot_model.specs.Frames.{frame_at, notified, past, start_frames, swept}

-- the frame after an action, with its registers, its status and what it has still to visit
abbrev pub answered : {W : Type 0} → Frame W → List Register → Word → Option W → Frame W
answered frame registers status sweep = record (past frame 0) { registers = registers; last = status; sweep = sweep }

-- the top one of the running frames
abbrev pub top_of : {W : Type 0} → List (Frame W) → Option (Frame W)
top_of [] = None
top_of (frame ∷ below) = Some frame

abbrev pub below_top : {W : Type 0} → List (Frame W) → List (Frame W)
below_top [] = []
below_top (frame ∷ below) = below

-- what the top frame's call has still to visit
abbrev pub top_sweep : {W : Type 0} → List (Frame W) → Option W
top_sweep [] = None
top_sweep (frame ∷ below) = frame.sweep
