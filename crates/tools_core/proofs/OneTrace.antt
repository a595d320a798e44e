-- The texts of a plan and of a trace have one report.
use Rattle.std.proofs.Common.{◌≡◌, ℕ, List, Option, sym, ap, ◌∙◌, subst}
use Rattle.pi_base.specs.{Field.AreBytes, Lists.Each}
use Rattle.boot_plan.specs.declared.plan.Plan.{Plan}
use Rattle.mod_catalog.specs.{declared.catalogue.Catalog.Catalog, Catalogue.IsCatalogue}
use Rattle.boot_model.specs.{declared.line.Line.Line, FreeRun.AreFreeLines, PlanBoard.board_of}
use Rattle.explain_text.specs.declared.reasons.Explained.{Explained}
use Rattle.recorded_boot.specs.{Order.order_of, Named.HasNoTwins}
use Rattle.boot_core.specs.Job.{IsNamedIn}
use Rattle.trace_reader.specs.Trace.{IsBadLine, IsTrace}
use Rattle.tools_core.specs.declared.command_line.TraceTool.{TraceTool}
use Rattle.tools_core.specs.declared.command_line.TraceTool.TheVariants.{Check, Explain}
use Rattle.tools_core.specs.{ExplainReport.IsExplanation, OneOutcome.AreAllTold, OneOutcome.IsOne, Refusals.no_line}
use Rattle.tools_core.specs.ToldReport.{RunsInOrder, ToldReport, goes_wrong, not_read, runs_so, start_choices}
use Rattle.tools_core.specs.TraceReport.{TextsOutcome, TraceReport}
use Rattle.tools_core.proofs.OneCheck.{IsOneSaid, one_off, one_report, one_trace, one_verdict}
use Rattle.tools_core.proofs.OneExplain as E
use Rattle.tools_core.proofs.{OneExplain.one_run, OneExplain.one_text, StartNames.name_one}

-- the laws of explanations, and of traces
pub record Laws : Type 1 where
  pub explains : E.Laws
  pub traces : (text : List ℕ) (a b : List Line) → IsTrace text a → IsTrace text b → a ≡ b
  pub bad : (text : List ℕ) (m n : ℕ) → IsBadLine text m → IsBadLine text n → m ≡ n
  pub read_or_bad : (text : List ℕ) (lines : List Line) (n : ℕ) → IsTrace text lines → IsBadLine text n → ⊥

one_told : Laws → (plan : Plan) (images : List (List ℕ)) (catalog : Catalog) (text : List ℕ) → IsCatalogue plan images catalog → HasNoTwins catalog → IsOne (ToldReport plan images catalog text)
one_told laws plan images catalog text sound apart a b s t (runs_so p lines r o e) (runs_so q others z u f) =
    let P : List Line → Type 0 = λ x. IsExplanation (RunsInOrder plan images catalog (order_of x)) images catalog t in
    let Run : Explained → Type 0 = RunsInOrder plan images catalog (order_of lines) in
    let runs = one_run laws.explains (λ catalog fuel. start_choices catalog fuel (order_of lines)) (board_of plan catalog images) catalog plan.fuel (laws.explains.well plan images catalog sound) (name_one catalog plan.fuel (order_of lines) apart) in
    (e ∙ sym f, one_text Run laws.explains.texts runs images catalog s t o (subst P (laws.traces text others lines z r) u))
one_told laws plan images catalog text sound apart a b s t (runs_so p lines r o e) (goes_wrong n y f v) = absurd (y.no_boot p)
one_told laws plan images catalog text sound apart a b s t (runs_so p lines r o e) (not_read q n y f v) = absurd (laws.read_or_bad text lines n r y)
one_told laws plan images catalog text sound apart a b s t (goes_wrong m x e u) (runs_so q others z o f) = absurd (x.no_boot q)
one_told laws plan images catalog text sound apart a b s t (goes_wrong m x e u) (goes_wrong n y f v) =
    (e ∙ sym f, u ∙ ap no_line (one_off (AreFreeLines (board_of plan catalog images) catalog plan.fuel) text m n x y) ∙ sym v)
one_told laws plan images catalog text sound apart a b s t (goes_wrong m x e u) (not_read q n y f v) = absurd (x.no_boot q)
one_told laws plan images catalog text sound apart a b s t (not_read p m x e u) (runs_so q others z o f) = absurd (laws.read_or_bad text others m z x)
one_told laws plan images catalog text sound apart a b s t (not_read p m x e u) (goes_wrong n y f v) = absurd (y.no_boot p)
one_told laws plan images catalog text sound apart a b s t (not_read p m x e u) (not_read q n y f v) = (e ∙ sym f, u ∙ ap no_line (laws.bad text m n x y) ∙ sym v)

one_said : Laws → (tool : TraceTool) (text : List ℕ) (plan : Plan) (images : List (List ℕ)) → IsOneSaid tool text plan images
one_said laws Check text plan images catalog sound apart = one_verdict plan images catalog text
one_said laws Explain text plan images catalog sound apart = one_told laws plan images catalog text sound apart

pub one_of_text : Laws → (tool : TraceTool) (text : List ℕ) (plan : Plan) (images : List (List ℕ)) → Each AreBytes images → IsOne (TraceReport tool plan images text)
one_of_text laws tool text plan images are = one_report laws.explains.plans tool text plan images (one_said laws tool text plan images) are

pub one_trace_report : Laws → (tool : TraceTool) (told : List ℕ → Option (List ℕ)) (content text : List ℕ) → AreAllTold told (IsNamedIn told content) → IsOne (TextsOutcome tool told content text)
one_trace_report laws tool told content text all = one_trace laws.explains.plans tool told content text (one_said laws tool text) all
