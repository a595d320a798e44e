-- The boot of a plan in the order of EDK2's dispatchers, explained: as the boot of a trace, if the trace is that boot's text. Where the boot is left, the driver whose turn it is there.
-- Own; PI 1.8, volumes 1 and 2, leave the order of the eligible modules to the dispatchers.
use Rattle.std.specs.Prelude.{◌≡◌, ◌<◌, ◌≤◌, ℕ, List, codes, length}
use Rattle.boot_plan.specs.declared.plan.Plan.{Plan}
use Rattle.mod_catalog.specs.{declared.catalogue.Catalog.Catalog, declared.image_fault.ImageFault.ImageFault, Catalogue.IsCatalogue}
use Rattle.mod_catalog.specs.ImageFault.{IsImageFault}
use Rattle.recorded_boot.specs.declared.passes.Passed.{Passed}
use Rattle.recorded_boot.specs.declared.passes.Passed.TheVariants as P
use Rattle.tools_core.specs.declared.command_line.TraceTool.TheVariants.{Explain}
use Rattle.tools_core.specs.declared.status.ToolStatus.{ToolStatus}
use Rattle.tools_core.specs.declared.status.ToolStatus.TheVariants.{ImageRefused, No, TooLong}
use Rattle.tools_core.specs.{FollowText.passed_text, PassesReport.PassesSo, Refusals.image_line, Refusals.long_line}
use Rattle.tools_core.specs.TraceReport.{TraceReport, trace_limit}

-- what the text of that boot leads to: it is explained as a trace is, if it has no more bytes than a trace may have
pub data TextExplained (plan : Plan) (images : List (List ℕ)) (text : List ℕ) (status : ToolStatus) (out : List ℕ) : Type 0 where
  as_a_trace : length text ≤ trace_limit → TraceReport Explain plan images text status out → TextExplained plan images text status out
  passes_limit : trace_limit < length text → status ≡ TooLong → out ≡ long_line (codes "passes") → TextExplained plan images text status out

-- so by what the boot came to
abbrev pub PassedExplained : Plan → List (List ℕ) → Passed → List ℕ → ToolStatus → List ℕ → Type 0
PassedExplained plan images (P.Ended end) text status out = TextExplained plan images text status out
PassedExplained plan images (P.No turn) text status out = (status ≡ No) × (out ≡ passed_text (P.No turn))

-- what a plan and its images lead to
pub data TurnsReport (plan : Plan) (images : List (List ℕ)) (status : ToolStatus) (out : List ℕ) : Type 0 where
  unsound_image : (fault : ImageFault) → IsImageFault plan images fault → status ≡ ImageRefused → out ≡ image_line fault → TurnsReport plan images status out
  in_turns_so : (catalog : Catalog) → IsCatalogue plan images catalog → (passed : Passed) (text : List ℕ) → PassesSo plan images catalog passed text
      → PassedExplained plan images passed text status out → TurnsReport plan images status out
