-- The boot that a trace records, explained: the boot in the order of the trace's starts.
-- Own; PI 1.8, volumes 1 and 2, leave the order of the eligible modules to the dispatchers.
use Rattle.std.specs.Prelude.{◌≡◌, ℕ, true, false, List}
use Rattle.pi_base.specs.declared.phase.Phase.TheVariants.{Pei, Dxe}
use Rattle.boot_laws.specs.Naming.{Rules}
use Rattle.boot_plan.specs.declared.plan.Plan.{Plan}
use Rattle.mod_catalog.specs.declared.catalogue.Catalog.{Catalog}
use Rattle.boot_model.specs.{declared.line.Line.Line, FreeRun.AreFreeLines, PlanBoard.board_of}
use Rattle.explain_text.specs.declared.reasons.Explained.{Explained}
use Rattle.boot_reasons.specs.{Explained.IsExplainedBy, Unseen.choices_of}
use Rattle.recorded_boot.specs.{Order.order_of, ByOrder.NamesAsked, Verdict.IsBoot, Verdict.IsFirstOff}
use Rattle.recorded_boot.specs.declared.order.lines.StartOrder.{StartOrder}
use Rattle.trace_reader.specs.Trace.{IsBadLine, IsTrace}
use Rattle.boot_core.specs.Choices.{Choices}
use Rattle.tools_core.specs.declared.status.ToolStatus.{ToolStatus}
use Rattle.tools_core.specs.declared.status.ToolStatus.TheVariants.{Done, No}
use Rattle.tools_core.specs.{ExplainReport.IsExplanation, Refusals.no_line}

-- the rules of a choice by the starts of an order: the module of the next start is named, and each is allowed
abbrev pub start_rules : {S : Type 0} → Catalog → StartOrder → Rules S
start_rules catalog order = record {
  peims = λ sink before named. NamesAsked catalog Pei order before.starts named;
  lets_in_pei = λ before number. true;
  drivers = λ sink before named. NamesAsked catalog Dxe order before.starts named;
  lets_in_dxe = λ before number. true;
  wants_turn = false;
}

-- its choices in a boot with this fuel
abbrev pub start_choices : Catalog → ℕ → StartOrder → Choices
start_choices catalog fuel order = choices_of (start_rules catalog order) catalog fuel

-- a boot of the images in an order of starts, explained
abbrev pub RunsInOrder : Plan → List (List ℕ) → Catalog → StartOrder → Explained → Type 0
RunsInOrder plan images catalog order e = IsExplainedBy (start_choices catalog plan.fuel order) (board_of plan catalog images) catalog plan.fuel e

-- The text is that of a free boot of the images' catalogue, and the boot in the order of its lines' starts is explained; or it goes wrong with a line.
-- A boot's text of which a line cannot be read goes wrong with the first such line; no boot that was tried has one.
pub data ToldReport (plan : Plan) (images : List (List ℕ)) (catalog : Catalog) (text : List ℕ) (status : ToolStatus) (out : List ℕ) : Type 0 where
  runs_so : IsBoot (AreFreeLines (board_of plan catalog images) catalog plan.fuel) text → (lines : List Line) → IsTrace text lines
      → IsExplanation (RunsInOrder plan images catalog (order_of lines)) images catalog out → status ≡ Done → ToldReport plan images catalog text status out
  goes_wrong : (line : ℕ) → IsFirstOff (AreFreeLines (board_of plan catalog images) catalog plan.fuel) text line → status ≡ No → out ≡ no_line line
      → ToldReport plan images catalog text status out
  not_read : IsBoot (AreFreeLines (board_of plan catalog images) catalog plan.fuel) text → (line : ℕ) → IsBadLine text line → status ≡ No → out ≡ no_line line
      → ToldReport plan images catalog text status out
