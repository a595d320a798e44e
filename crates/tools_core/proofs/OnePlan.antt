-- The text of a plan alone leads to one report, for each tool of it.
use Rattle.std.proofs.Common.{◌≡◌, ℕ, List, ◌++◌, Option, sym, ap, ◌∙◌, subst, arith}
use Rattle.pi_base.specs.{Field.AreBytes, Lists.Each}
use Rattle.boot_plan.specs.declared.plan.Plan.{Plan}
use Rattle.mod_catalog.specs.{declared.catalogue.Catalog.Catalog, Catalogue.IsCatalogue}
use Rattle.boot_model.specs.PlanBoard.{board_of}
use Rattle.boot_core.specs.{HandOff.IsHandOff, Job.IsNamedIn}
use Rattle.recorded_boot.specs.{declared.passes.Passed.Passed, OnePass.OnePass}
use Rattle.recorded_boot.specs.declared.passes.Passed.TheVariants as Q
use Rattle.recorded_boot.specs.HandOff.{HandsOnInTurns, IsHandOffInTurns, OneHandOff}
use Rattle.tools_core.specs.{declared.command_line.PlanTool.PlanTool, JobOutcome.JobOutcome, OneOutcome.AreAllTold, OneOutcome.IsOne}
use Rattle.tools_core.specs.declared.command_line.PlanTool.TheVariants.{Hobs, HobsInTurns, Reasons, ReasonsInTurns, Passes}
use Rattle.tools_core.specs.declared.command_line.TraceTool.TheVariants.{Explain}
use Rattle.tools_core.specs.{PlanReport.PlanReport, FollowText.passed_text, Refusals.image_line, ReportText.passed_status}
use Rattle.tools_core.specs.PassesReport.{PassesReport, PassesSo, boots_so, wrong_image}
use Rattle.tools_core.specs.TurnsReport.{PassedExplained, TextExplained, TurnsReport, as_a_trace, unsound_image, in_turns_so, passes_limit}
use Rattle.tools_core.proofs.OneCheck.{HandsOneOn, hands_one_on, one_hobs_report, one_of_job}
use Rattle.tools_core.proofs.{OneExplain.one_report, OneTrace.one_of_text}
pub use Rattle.tools_core.proofs.OneTrace.{Laws}

-- two boots of the images are one
one_boot : Laws → OnePass → (plan : Plan) (images : List (List ℕ)) (c d : Catalog) (one other : Passed) (l k : List ℕ) → IsCatalogue plan images c → IsCatalogue plan images d → PassesSo plan images c one l → PassesSo plan images d other k → (one ≡ other) × (l ≡ k)
one_boot laws passes plan images c d one other l k sound also p q =
    let there : PassesSo plan images c other k = subst (λ (x : Catalog). PassesSo plan images x other k) (laws.explains.plans.catalogues plan images d c also sound) q in
    passes (board_of plan c images) c plan.fuel (laws.explains.well plan images c sound) one other l k p there

one_passes : Laws → OnePass → (plan : Plan) (images : List (List ℕ)) → Each AreBytes images → IsOne (PassesReport plan images)
one_passes laws passes plan images are a b s t (wrong_image f p e u) (wrong_image g q h v) = (e ∙ sym h, u ∙ ap image_line (laws.explains.plans.image_faults plan images f g are p q) ∙ sym v)
one_passes laws passes plan images are a b s t (wrong_image f p e u) (boots_so c sound o l q h v) = absurd (laws.explains.plans.catalogue_or_fault plan images c f are sound p)
one_passes laws passes plan images are a b s t (boots_so c sound o l p e u) (wrong_image g q h v) = absurd (laws.explains.plans.catalogue_or_fault plan images c g are sound q)
one_passes laws passes plan images are a b s t (boots_so c sound o l p e u) (boots_so d also r k q h v) =
    let same = one_boot laws passes plan images c d o r l k sound also p q in
    (e ∙ ap passed_status same.0 ∙ sym h, u ∙ ap (λ x. x ++ passed_text o) same.1 ∙ ap (λ x. k ++ passed_text x) same.0 ∙ sym v)

-- the text of that boot is explained in one way
one_text_explained : Laws → (plan : Plan) (images : List (List ℕ)) (text : List ℕ) → Each AreBytes images → IsOne (TextExplained plan images text)
one_text_explained laws plan images text are a b s t (as_a_trace m o) (as_a_trace n u) = one_of_text laws Explain text plan images are a b s t o u
one_text_explained laws plan images text are a b s t (as_a_trace m o) (passes_limit n f v) = absurd (omega (arith, m, n))
one_text_explained laws plan images text are a b s t (passes_limit m e u) (as_a_trace n o) = absurd (omega (arith, m, n))
one_text_explained laws plan images text are a b s t (passes_limit m e u) (passes_limit n f v) = (e ∙ sym f, u ∙ sym v)

one_explained : Laws → (plan : Plan) (images : List (List ℕ)) → Each AreBytes images → (passed : Passed) (text : List ℕ) → IsOne (PassedExplained plan images passed text)
one_explained laws plan images are (Q.Ended end) text = one_text_explained laws plan images text are
one_explained laws plan images are (Q.No turn) text = λ a b s t p q. (p.0 ∙ sym q.0, p.1 ∙ sym q.1)

one_turns : Laws → OnePass → (plan : Plan) (images : List (List ℕ)) → Each AreBytes images → IsOne (TurnsReport plan images)
one_turns laws passes plan images are a b s t (unsound_image f p e u) (unsound_image g q h v) = (e ∙ sym h, u ∙ ap image_line (laws.explains.plans.image_faults plan images f g are p q) ∙ sym v)
one_turns laws passes plan images are a b s t (unsound_image f p e u) (in_turns_so c sound o l q x) = absurd (laws.explains.plans.catalogue_or_fault plan images c f are sound p)
one_turns laws passes plan images are a b s t (in_turns_so c sound o l p x) (unsound_image g q h v) = absurd (laws.explains.plans.catalogue_or_fault plan images c g are sound q)
one_turns laws passes plan images are a b s t (in_turns_so c sound o l p x) (in_turns_so d also r k q y) =
    let same = one_boot laws passes plan images c d o r l k sound also p q in
    let P : Passed → Type 0 = λ z. PassedExplained plan images z k b t in
    let Q : List ℕ → Type 0 = λ z. PassedExplained plan images o z b t in
    one_explained laws plan images are o l a b s t x (subst Q (sym same.1) (subst P (sym same.0) y))

-- what PEI hands on in that order is one
turns_hand_on : Laws → OneHandOff → (plan : Plan) (images : List (List ℕ)) → HandsOneOn plan images (IsHandOffInTurns plan images)
turns_hand_on laws hand_offs plan images = record {
  one = λ x y p q.
      let Hands : Catalog → Type 0 = λ c. HandsOnInTurns (board_of plan c images) c plan.fuel y in
      let there = subst Hands (laws.explains.plans.catalogues plan images q.catalog p.catalog q.sound p.sound) q.is in
      hand_offs (board_of plan p.catalog images) p.catalog plan.fuel (laws.explains.well plan images p.catalog p.sound) x y p.is there;
  catalogue = λ x p. (p.catalog, p.sound);
}

-- so is each report of a plan alone
one_for : Laws → OnePass → OneHandOff → (tool : PlanTool) (plan : Plan) (images : List (List ℕ)) → Each AreBytes images → IsOne (PlanReport tool plan images)
one_for laws passes hand_offs Hobs plan images are = one_hobs_report laws.explains.plans plan images (IsHandOff plan images) (hands_one_on laws.explains.plans plan images) are
one_for laws passes hand_offs HobsInTurns plan images are = one_hobs_report laws.explains.plans plan images (IsHandOffInTurns plan images) (turns_hand_on laws hand_offs plan images) are
one_for laws passes hand_offs Reasons plan images are = one_report laws.explains plan images are
one_for laws passes hand_offs ReasonsInTurns plan images are = one_turns laws passes plan images are
one_for laws passes hand_offs Passes plan images are = one_passes laws passes plan images are

pub one_plan : Laws → OnePass → OneHandOff → (tool : PlanTool) (told : List ℕ → Option (List ℕ)) (content : List ℕ) → AreAllTold told (IsNamedIn told content) → IsOne (JobOutcome (PlanReport tool) told content)
one_plan laws passes hand_offs tool = one_of_job laws.explains.plans (PlanReport tool) (one_for laws passes hand_offs tool)
