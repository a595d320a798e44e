-- What an MP file leads to: the first line of no form, or the replies, the cells and the records of its schedule.
-- PI 1.8, volume 2, "MP Services Protocol"; the file and the lines are own.
use Rattle.std.specs.Prelude.{◌≡◌, ℕ, List}
use Rattle.mp_core.specs.{declared.reply.MpOutcome.MpOutcome, Past.replies, Past.schedule, Schedule.cells_after, Schedule.records_after}
use Rattle.mp_core.specs.{declared.file.MpFile.MpFile, FileText.IsFirstBad, FileText.IsMpFile}
use Rattle.mp_core.specs.OutcomeText.{bad_line, outcome_text}
use Rattle.tools_core.specs.declared.status.ToolStatus.{ToolStatus}
use Rattle.tools_core.specs.declared.status.ToolStatus.TheVariants.{Done, CommandRefused}

-- the replies, the cells and the records are those of the schedule of a file's events
pub record IsOutcomeOf (file : MpFile) (outcome : MpOutcome) : Type 0 where
  pub replies_are : outcome.replies ≡ replies file.processors file.events
  pub cells_are : outcome.cells ≡ cells_after file.cells (schedule file.processors file.events)
  pub records_are : outcome.records ≡ records_after file.processors (schedule file.processors file.events)

pub data MpReport (text : List ℕ) (status : ToolStatus) (out : List ℕ) : Type 0 where
  refused : (line : ℕ) → IsFirstBad text line → status ≡ CommandRefused → out ≡ bad_line line → MpReport text status out
  ran : (file : MpFile) → IsMpFile text file → (outcome : MpOutcome) → IsOutcomeOf file outcome → status ≡ Done
      → out ≡ outcome_text file.events outcome → MpReport text status out
