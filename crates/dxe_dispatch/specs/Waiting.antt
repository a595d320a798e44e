-- The lines of the drivers that wait after the stop, as they are put.
-- Own.
use Rattle.std.specs.Prelude.{◌≡◌, ℕ, Bool, if◌then◌else◌, List, [], ◌∷◌, Option, Result, flat_map}
use Rattle.boot_io.specs.{Sink.Puts, declared.sink.SinkFault.SinkFault}
use Rattle.mod_catalog.specs.{declared.catalogue.Catalog.Catalog, Parts.has_number}
use Rattle.boot_model.specs.{declared.line.Line.Line, DxeChoice.is_waiting, DxeMachine.DxeMachine, DxeStep.driver_waiting_line}
use Rattle.boot_model.specs.Text.{text_of}
use Rattle.dxe_core.specs.Services.{AreFlags}
use Rattle.dxe_dispatch.specs.Queue.{Queue, IsQueueOf}

-- the line of a driver, if it waits
abbrev pub line_where : Bool → Line → List Line
line_where waits line = if waits then line ∷ [] else []

-- the line of a driver, if it waits in this machine
abbrev pub waiting_line : Catalog → DxeMachine → ℕ → List Line
waiting_line catalog m number = line_where (is_waiting m number) (driver_waiting_line catalog m number)

-- the lines of those of these drivers that wait
abbrev pub waiting_lines_of : Catalog → DxeMachine → List ℕ → List Line
waiting_lines_of catalog m numbers = flat_map (waiting_line catalog m) numbers

-- the line of a driver that waits or not, and was requested or not
abbrev pub PutsWaiting : Catalog → ℕ → Bool → Bool
    → Option (List ℕ) → Option (List ℕ) → Result (Unit {0}) SinkFault → Type 0
PutsWaiting catalog number waits requested old new result =
    (m : DxeMachine) → waits ≡ is_waiting m number → requested ≡ has_number m.requested number
    → Puts result old new (text_of (waiting_line catalog m number))

-- the lines of these drivers, by the queue and the requests
abbrev pub PutsAllWaiting : Catalog → List ℕ → Queue → List Bool
    → Option (List ℕ) → Option (List ℕ) → Result (Unit {0}) SinkFault → Type 0
PutsAllWaiting catalog numbers queue requested old new result =
    (m : DxeMachine) → IsQueueOf catalog m queue → AreFlags m.requested requested → Puts result old new (text_of (waiting_lines_of catalog m numbers))
