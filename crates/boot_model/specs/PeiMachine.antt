-- The boot machine in PEI: a store, the volumes that were reported, the parts that have started, the scripts that run, and the lines that were printed.
-- A frame is a script that runs, the top one first. The core's sweep is that of its own call, which visits callbacks as a script's call does.
-- PI 1.8, volume 1, "PEI Foundation" and "PEI Dispatcher"; the record is own.
use Rattle.std.specs.Prelude.{ℕ, List, ◌++◌, Option}
use Rattle.boot_model.specs.{declared.phase_end.PeiEnd.PeiEnd, declared.line.Line.Line, declared.frame.Frame.Frame as OfEach}
use Rattle.store_model.specs.{declared.store_handle.Sweep.Sweep, declared.store_handle.Firing.Firing, StoreState.StoreState}
pub use Rattle.boot_model.specs.declared.frame.Register.{Register}
pub use Rattle.boot_model.specs.declared.frame.Register.TheVariants.{Empty, Number, PoolIn, DescriptorIn, HandleIn}
pub use Rattle.boot_model.specs.Frames.{frame_at, no_registers}
use Rattle.boot_model.specs.Frames.{notified}

-- a script of PEI
abbrev pub Frame : Type 0
Frame = OfEach Sweep

-- modules and volumes by their numbers; `shadows` registered for shadow, and `again` have started a second time
pub record PeiMachine : Type 0 where
  pub store : StoreState
  pub reported : List ℕ
  pub started : List ℕ
  pub shadows : List ℕ
  pub again : List ℕ
  pub cursor : ℕ
  pub frames : List Frame
  pub core_sweep : Option Sweep
  pub actions : ℕ
  pub lines : List Line
  pub ended : Option PeiEnd

-- a notification's frame has the PPI's value and descriptor
abbrev pub notified_frame : ℕ → ℕ → Firing → Frame
notified_frame number block firing = notified number block (Number firing.value) (DescriptorIn firing.ppi)

-- lines more
abbrev pub printed : PeiMachine → List Line → PeiMachine
printed m lines = record m { lines = m.lines ++ lines }
