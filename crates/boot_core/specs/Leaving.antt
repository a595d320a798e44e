-- What leaves the program of the text that a call has put, by its status.
-- Own.
use Rattle.std.specs.Prelude.{◌≡◌, ℕ, List, Option, Result}
use Rattle.boot_io.specs.{declared.sink.SinkFault.SinkFault, Output.HasLeftBy}
use Rattle.boot_core.specs.{Reading.FilesTrail, declared.status.Status.Status, declared.status.Status.TheVariants.Memory}
use Rattle.boot_core.specs.{Causes.ComesExactly, CommandLine.AskForBoot, Deciding.Names, Refusing.status_after}
use Rattle.boot_core.specs.Outcome.{Ends, OfAnswer, Outcome, kind_of}
use Rattle.boot_core.specs.WantOfMemory.{IsWantedOutside}

-- what the words lead to was put behind a text, into a sink that had counted no fault; where memory was wanting, nothing or all lines of a boot's PEI
pub record HasPut (told : List ℕ → Option (List ℕ)) (words : List (List ℕ)) (files : FilesTrail) (old new : Option (List ℕ)) (status : Status) : Type 0 where
  pub faults : ℕ
  pub ends : Ends (Outcome told words) (Names told words) (AskForBoot words) status
      (record { old = old; new = new; sink_before = 0; sink_now = faults; files_before = files.before; files_now = files.now; missed = files.missed })
  pub memory : status ≡ Memory → IsWantedOutside told words (record { old = old; new = new })

-- all that was put has left, with its status; or where the output failed a beginning of it, with the sink's fault
pub record HasLeft (Put : Option (List ℕ) → Status → Type 0) (left : Option (List ℕ)) (status : Status) : Type 0 where
  pub text : Option (List ℕ)
  pub ran : Status
  pub put : Put text ran
  pub handed : Result (Unit {0}) SinkFault
  pub left_is : HasLeftBy handed text left
  pub status_is : status ≡ status_after handed ran

-- each answer comes exactly where the words lead to it
abbrev pub EachComesExactly : (List ℕ → Option (List ℕ)) → List (List ℕ) → Status → Type 0
EachComesExactly told words status = (due : Status) → kind_of due ≡ OfAnswer → ComesExactly told words due status
