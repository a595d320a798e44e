-- What leaves the program of the text that a call has written, by its status.
-- Own.
use Rattle.std.specs.Prelude.{◌≡◌, ℕ, List, Option, Result}
use Rattle.boot_io.specs.{declared.sink.SinkFault.SinkFault, Output.HasLeftBy}
use Rattle.tools_core.specs.{declared.status.ToolStatus.ToolStatus, Ends.Ends, Ends.status_after, FileReading.FilesTrail}
use Rattle.tools_core.specs.Outcome.{Names, Outcome}

-- the outcome of the words was written after a text, into a sink that had counted no failure
abbrev pub HasPut : (List ℕ → Option (List ℕ)) → List (List ℕ) → FilesTrail → Option (List ℕ) → Option (List ℕ) → ToolStatus → Type 0
HasPut told words files old new status =
    (faults : ℕ) × Ends (Outcome told words) (Names told words) status (record { old = old; new = new; before = 0; now = faults; files = files })

-- all that was written has left, with its status; or, if the output failed, a beginning of it, with the sink's failure
pub record HasLeft (Put : Option (List ℕ) → ToolStatus → Type 0) (left : Option (List ℕ)) (status : ToolStatus) : Type 0 where
  pub text : Option (List ℕ)
  pub ran : ToolStatus
  pub put : Put text ran
  pub handed : Result (Unit {0}) SinkFault
  pub left_is : HasLeftBy handed text left
  pub status_is : status ≡ status_after handed ran
