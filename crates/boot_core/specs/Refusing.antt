-- The refusals: each is the line that it prints, and its line has a status.
-- Own.
use Rattle.std.specs.Prelude.{◌≡◌, ℕ, List, Option, Result, Ok, Err}
use Rattle.boot_io.specs.{declared.sink.SinkFault.SinkFault, Sink.Puts, Sink.SinkFaultsAfter}
use Rattle.mod_catalog.specs.declared.image_fault.ImageFault.{ImageFault}
use Rattle.boot_model.specs.{declared.line.Line.Line, Text.line_text}
use Rattle.boot_model.specs.declared.line.Line.TheVariants as L
use Rattle.boot_core.specs.{declared.plan_files.reading.NoJob.NoJob, declared.status.Status.Status}
use Rattle.boot_core.specs.declared.plan_files.reading.NoJob.TheVariants as N
use Rattle.boot_core.specs.declared.status.Status.TheVariants as V

-- the line of a fault of an image
abbrev pub image_line : ImageFault → Line
image_line fault = L.RefusedImage fault.volume fault.at fault.cause

-- the status of a refusal's line; that of the words is the last
abbrev pub refusal_status : Line → Status
refusal_status (L.RefusedFile name) = V.FileFault
refusal_status (L.RefusedLong name) = V.TooLong
refusal_status (L.RefusedPlan line cause) = V.PlanRefused
refusal_status (L.RefusedImage volume at cause) = V.ImageRefused
refusal_status _ = V.Usage

-- a status, or the sink's fault where its text could not be put
abbrev pub status_after : Result (Unit {0}) SinkFault → Status → Status
status_after (Ok _) status = status
status_after (Err _) status = V.SinkFault

-- a sink's text and its count of faults, before and after
pub record SinkTrail : Type 0 where
  pub old : Option (List ℕ)
  pub new : Option (List ℕ)
  pub before : ℕ
  pub now : ℕ

-- a text was put that has a status, or a part of it where the sink failed
pub record IsPut (due : Status) (text : List ℕ) (status : Status) (t : SinkTrail) : Type 0 where
  pub put : Result (Unit {0}) SinkFault
  pub status_is : status ≡ status_after put due
  pub texts : Puts put t.old t.new text
  pub cause : SinkFaultsAfter put t.before t.now

-- a refusal is told by its line; of want of memory nothing is put
abbrev pub IsTold : NoJob → Status → SinkTrail → Type 0
IsTold (N.Refused line) status t = IsPut (refusal_status line) (line_text line) status t
IsTold N.Memory status t = (status ≡ V.Memory) × (t.new ≡ t.old) × (t.now ≡ t.before)
