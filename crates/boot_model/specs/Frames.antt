-- A script that runs, whatever the calls of its phase have still to visit: `W` is the phase's sweep.
-- Own.
use Rattle.std.specs.Prelude.{ℕ, ◌+◌, List, [], ◌∷◌, Some, None, replicate, slice_set}
use Rattle.pi_base.specs.declared.word.Word.TheVariants.{Success}
use Rattle.act_code.specs.declared.action.Action.{Action}
use Rattle.boot_model.specs.{declared.frame.TheConstants.REGISTERS, declared.frame.Register.Register}
use Rattle.boot_model.specs.{declared.frame.Register.TheVariants.Empty, declared.frame.Frame.Frame}

-- sixteen registers that hold nothing
abbrev pub no_registers : List Register
no_registers = replicate REGISTERS Empty

-- a frame at the first action of a block
abbrev pub frame_at : {W : Type 0} → ℕ → ℕ → List Register → Frame W
frame_at number block registers = record { module_number = number; block = block; position = 0; registers = registers; last = Success; sweep = None }

-- a notification's frame has what it receives in its first two registers
abbrev pub notified : {W : Type 0} → ℕ → ℕ → Register → Register → Frame W
notified number block first second = frame_at number block (slice_set (slice_set no_registers 0 first) 1 second)

-- a script without blocks begins no frame
abbrev pub start_frames : {W : Type 0} → ℕ → List (List Action) → List (Frame W)
start_frames number [] = []
start_frames number (block ∷ blocks) = frame_at number 0 no_registers ∷ []

-- the frame after its action and n more, its sweep closed
abbrev pub past : {W : Type 0} → Frame W → ℕ → Frame W
past frame n = record frame { position = frame.position + 1 + n; sweep = None }

-- the open sweep is after what was visited
abbrev pub swept : {W : Type 0} → List (Frame W) → W → List (Frame W)
swept [] sweep = []
swept (frame ∷ below) sweep = record frame { sweep = Some sweep } ∷ below
