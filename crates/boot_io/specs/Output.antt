-- What leaves a program of the text that it has written.
use Rattle.std.specs.Prelude.{ℕ, List, Option, Some, None, Result, Ok, Err, ⊤}
use Rattle.std.specs.Io.KnownBytes.{Keeps}
use Rattle.boot_io.specs.{declared.sink.SinkFault.SinkFault, Faults.IsPrefix}

-- what has left begins the text, if both are known
abbrev pub HasBegun : Option (List ℕ) → Option (List ℕ) → Type 0
HasBegun None left = ⊤
HasBegun (Some text) None = ⊥
HasBegun (Some text) (Some left) = IsPrefix left text

-- the whole text has left, or where the output failed a beginning of it
abbrev pub HasLeftBy : Result (Unit {0}) SinkFault → Option (List ℕ) → Option (List ℕ) → Type 0
HasLeftBy (Ok _) text left = Keeps text left
HasLeftBy (Err _) text left = HasBegun text left
