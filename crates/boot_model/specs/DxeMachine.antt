-- The boot machine in DXE: the volumes that were discovered, the drivers that were requested, scheduled and started, the handles, the notifications, the
-- scripts that run, and the lines that were printed. The store is that of the hand-off and does not change.
-- PI 1.8, volume 2, "DXE Dispatcher"; the record is own.
use Rattle.std.specs.Prelude.{ℕ, List, ◌++◌, Option}
use Rattle.boot_model.specs.{declared.phase_end.DxeEnd.DxeEnd, declared.line.Line.Line, PeiMachine.Number, PeiMachine.HandleIn}
use Rattle.store_model.specs.{StoreState.StoreState, HandleState.HandleState}
use Rattle.boot_model.specs.{declared.frame.Frame.Frame as OfEach, Frames.notified}
pub use Rattle.boot_model.specs.declared.driver.ProtocolSweep.{ProtocolSweep}
pub use Rattle.boot_model.specs.declared.driver.ProtocolNote.{ProtocolNote}
pub use Rattle.boot_model.specs.declared.driver.Scheduled.{Scheduled}

-- a script of DXE
abbrev pub DriverFrame : Type 0
DriverFrame = OfEach ProtocolSweep

-- modules and volumes by their numbers
pub record DxeMachine : Type 0 where
  pub store : StoreState
  pub discovered : List ℕ
  pub requested : List ℕ
  pub scheduled : List Scheduled
  pub started : List ℕ
  pub handles : HandleState
  pub notes : List ProtocolNote
  pub frames : List DriverFrame
  pub actions : ℕ
  pub lines : List Line
  pub ended : Option DxeEnd

-- a notification's frame has the interface and the handle
abbrev pub protocol_frame : ProtocolSweep → ProtocolNote → DriverFrame
protocol_frame sweep note = notified note.module_number note.block (Number sweep.interface) (HandleIn sweep.handle)

-- lines more
abbrev pub dxe_printed : DxeMachine → List Line → DxeMachine
dxe_printed m lines = record m { lines = m.lines ++ lines }
