-- The report for a plan, the images of its volumes and a trace: the refusal of the images' first fault, the first volume with two modules of one name, or the
-- verdict on the trace, or its boot, explained. Own.
use Rattle.std.specs.Prelude.{◌≡◌, ℕ, List, Option}
use Rattle.boot_plan.specs.declared.plan.Plan.{Plan}
use Rattle.mod_catalog.specs.{declared.catalogue.Catalog.Catalog, declared.image_fault.ImageFault.ImageFault, Catalogue.IsCatalogue}
use Rattle.mod_catalog.specs.ImageFault.{IsImageFault}
use Rattle.recorded_boot.specs.Named.{HasNoTwins, IsFirstWithTwins}
use Rattle.boot_core.specs.{Job.IsNamedIn, Reading.plan_limit}
use Rattle.tools_core.specs.declared.command_line.TraceTool.{TraceTool}
use Rattle.tools_core.specs.declared.command_line.TraceTool.TheVariants.{Check, Explain}
use Rattle.tools_core.specs.declared.status.ToolStatus.{ToolStatus}
use Rattle.tools_core.specs.declared.status.ToolStatus.TheVariants.{ImageRefused, Twins}
use Rattle.tools_core.specs.{CheckReport.VerdictReport, FileReading.IsRead, FileReading.LongOutcome, JobOutcome.JobOutcome}
use Rattle.tools_core.specs.{Refusals.image_line, Refusals.twins_line, ToldReport.ToldReport}

-- how many bytes a trace may have
abbrev pub trace_limit : ℕ
trace_limit = 0x4000000

-- what a tool says of the trace over the images' catalogue
abbrev pub SaidBy : TraceTool → Plan → List (List ℕ) → Catalog → List ℕ → ToolStatus → List ℕ → Type 0
SaidBy Check plan images catalog text = VerdictReport plan images catalog text
SaidBy Explain plan images catalog text = ToldReport plan images catalog text

-- what the images and the text lead to
pub data TraceReport (tool : TraceTool) (plan : Plan) (images : List (List ℕ)) (text : List ℕ) (status : ToolStatus) (out : List ℕ) : Type 0 where
  image_refused : (fault : ImageFault) → IsImageFault plan images fault → status ≡ ImageRefused → out ≡ image_line fault → TraceReport tool plan images text status out
  twins : (catalog : Catalog) → IsCatalogue plan images catalog → (volume : ℕ) → IsFirstWithTwins catalog volume → status ≡ Twins → out ≡ twins_line volume
      → TraceReport tool plan images text status out
  said : (catalog : Catalog) → IsCatalogue plan images catalog → HasNoTwins catalog → SaidBy tool plan images catalog text status out → TraceReport tool plan images text status out

-- what the texts of a plan and of a trace lead to
abbrev pub TextsOutcome : TraceTool → (List ℕ → Option (List ℕ)) → List ℕ → List ℕ → ToolStatus → List ℕ → Type 0
TextsOutcome tool told content text = JobOutcome (λ plan images. TraceReport tool plan images text) told content

-- what the files of a plan and of a trace lead to: both are read before the plan is examined
pub data TraceOutcome (tool : TraceTool) (told : List ℕ → Option (List ℕ)) (plan trace : List ℕ) (status : ToolStatus) (out : List ℕ) : Type 0 where
  plan_long : LongOutcome (told plan) plan_limit plan status out → TraceOutcome tool told plan trace status out
  trace_long : (content : List ℕ) → IsRead (told plan) plan_limit content → LongOutcome (told trace) trace_limit trace status out
      → TraceOutcome tool told plan trace status out
  both_read : (content text : List ℕ) → IsRead (told plan) plan_limit content → IsRead (told trace) trace_limit text → TextsOutcome tool told content text status out
      → TraceOutcome tool told plan trace status out

-- a name of a file to which the reading comes: the plan's, then the trace's, and then those of the volumes
pub data TraceNames (told : List ℕ → Option (List ℕ)) (plan trace name : List ℕ) : Type 0 where
  is_plan : name ≡ plan → TraceNames told plan trace name
  is_trace : (content : List ℕ) → IsRead (told plan) plan_limit content → name ≡ trace → TraceNames told plan trace name
  is_volume : (content text : List ℕ) → IsRead (told plan) plan_limit content → IsRead (told trace) trace_limit text → IsNamedIn told content name
      → TraceNames told plan trace name
