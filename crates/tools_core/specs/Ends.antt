-- How a call ends, by its status: with the whole text of an outcome, or by a fault of the files or of the sink, or because memory ran out. Own.
use Rattle.std.specs.Prelude.{◌≡◌, ℕ, List, Option, Result, Ok, Err}
use Rattle.std.specs.Io.KnownBytes.{Appends}
use Rattle.boot_io.specs.{Faults.Rose, Sink.AppendsPart, declared.sink.SinkFault.SinkFault}
use Rattle.tools_core.specs.{declared.status.ToolStatus.ToolStatus, declared.report.Report.Report, declared.reading.Reading.Reading}
use Rattle.tools_core.specs.declared.status.ToolStatus.TheVariants as S
use Rattle.tools_core.specs.declared.report.Report.TheVariants as R
use Rattle.tools_core.specs.{declared.reading.Reading.TheVariants.Content, declared.reading.Reading.TheVariants.Refused, Refusals.file_line}
use Rattle.tools_core.specs.FileReading.{FilesFailed, FilesTrail, IsRead, LongOutcome}
use Rattle.tools_core.specs.ReportText.{report_status, report_text}

-- the file that a report says could not be read
pub data Failing : Type 0 where
  At : List ℕ → Failing
  Nowhere : Failing

abbrev pub failing : Report → Failing
failing R.Usage = Nowhere
failing (R.NoFile name) = At name
failing (R.Long name) = Nowhere
failing (R.Plan fault) = Nowhere
failing (R.Image fault) = Nowhere
failing (R.Twins volume) = Nowhere
failing (R.Verdict verdict) = Nowhere
failing (R.Order line) = Nowhere
failing (R.Followed lines followed) = Nowhere
failing (R.Passed lines passed) = Nowhere
failing (R.Hobs fault) = Nowhere
failing (R.Command line) = Nowhere
failing (R.Event line) = Nowhere
failing (R.Text line) = Nowhere
failing (R.Source fault) = Nowhere
failing R.TextLong = Nowhere
failing (R.Malformed at) = Nowhere
failing (R.Bytes fault) = Nowhere
failing (R.Map steps map) = Nowhere
failing (R.Mp file outcome) = Nowhere
failing (R.Ended end) = Nowhere
failing (R.Answer text) = Nowhere

-- a report is that of an outcome, or of a file that could not be read
abbrev pub ReportsBy : Failing → (ToolStatus → List ℕ → Type 0) → (List ℕ → Type 0) → Report → FilesTrail → Type 0
ReportsBy (At name) Out Named report t = FilesFailed Named name t
ReportsBy Nowhere Out Named report t = Out (report_status report) (report_text report) × (t.now ≡ t.before)

abbrev pub Reports : (ToolStatus → List ℕ → Type 0) → (List ℕ → Type 0) → Report → FilesTrail → Type 0
Reports Out Named report t = ReportsBy (failing report) Out Named report t

-- a report that is no failed file's, of an outcome
abbrev pub Tells : (ToolStatus → List ℕ → Type 0) → Report → Type 0
Tells Out report = Out (report_status report) (report_text report) × (failing report ≡ Nowhere)

-- the content of a file within its limit, or the report that it can't be had
abbrev pub IsReading : Option (List ℕ) → ℕ → List ℕ → FilesTrail → Reading → Type 0
IsReading told limit name t (Content content) = IsRead told limit content × (t.now ≡ t.before)
IsReading told limit name t (Refused report) = Reports (LongOutcome told limit name) (λ n. n ≡ name) report t

-- what a call left: the sink's text, its count of faults before and after, and the trail of the files
pub record Trail : Type 0 where
  pub old : Option (List ℕ)
  pub new : Option (List ℕ)
  pub before : ℕ
  pub now : ℕ
  pub files : FilesTrail

-- the text of an outcome, or the line of a file that could not be read
pub data IsDue (Out : ToolStatus → List ℕ → Type 0) (Named : List ℕ → Type 0) (status : ToolStatus) (text : List ℕ) (files : FilesTrail) : Type 0 where
  outcome : Out status text → files.now ≡ files.before → IsDue Out Named status text files
  unread : (name : List ℕ) → FilesFailed Named name files → status ≡ S.FileFault → text ≡ file_line name → IsDue Out Named status text files

-- a text with its status, and the whole text was written
pub record Answered (Out : ToolStatus → List ℕ → Type 0) (Named : List ℕ → Type 0) (status : ToolStatus) (t : Trail) : Type 0 where
  pub text : List ℕ
  pub due : IsDue Out Named status text t.files
  pub whole : Appends t.old t.new text
  pub sink : t.now ≡ t.before

-- the sink failed, and a part of such a text was written
pub record SinkFailed (Out : ToolStatus → List ℕ → Type 0) (Named : List ℕ → Type 0) (t : Trail) : Type 0 where
  pub status : ToolStatus
  pub text : List ℕ
  pub due : IsDue Out Named status text t.files
  pub part : AppendsPart t.old t.new text
  pub sink : Rose t.before t.now

-- memory ran out: nothing was written, and no failure was counted
pub record NoMemory (t : Trail) : Type 0 where
  pub kept : t.new ≡ t.old
  pub sink : t.now ≡ t.before
  pub files : t.files.now ≡ t.files.before

-- the kinds of statuses: the sink failed, memory ran out, and those that go with a text
pub data Kind : Type 0 where
  OfSink : Kind
  OfMemory : Kind
  OfText : Kind

abbrev pub kind_of : ToolStatus → Kind
kind_of S.Done = OfText
kind_of S.Usage = OfText
kind_of S.FileFault = OfText
kind_of S.TooLong = OfText
kind_of S.PlanRefused = OfText
kind_of S.ImageRefused = OfText
kind_of S.NoHandoff = OfText
kind_of S.Spent = OfText
kind_of S.Deep = OfText
kind_of S.SinkFault = OfSink
kind_of S.Memory = OfMemory
kind_of S.No = OfText
kind_of S.Twins = OfText
kind_of S.HobsRefused = OfText
kind_of S.CommandRefused = OfText
kind_of S.TextRefused = OfText
kind_of S.OrderRefused = OfText

abbrev pub EndsBy : Kind → (ToolStatus → List ℕ → Type 0) → (List ℕ → Type 0) → ToolStatus → Trail → Type 0
EndsBy OfSink Out Named status t = SinkFailed Out Named t
EndsBy OfMemory Out Named status t = NoMemory t
EndsBy OfText Out Named status t = Answered Out Named status t

abbrev pub Ends : (ToolStatus → List ℕ → Type 0) → (List ℕ → Type 0) → ToolStatus → Trail → Type 0
Ends Out Named status t = EndsBy (kind_of status) Out Named status t

-- a status, or the sink's failure if its text could not be written
abbrev pub status_after : Result (Unit {0}) SinkFault → ToolStatus → ToolStatus
status_after (Ok _) status = status
status_after (Err _) status = S.SinkFault
