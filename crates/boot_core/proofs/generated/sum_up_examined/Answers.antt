use Rattle.std.proofs.Common.{Err, List, ℕ, sym, subst}
use Rattle.std.proofs.lemmas.Result.{err_from_is_err_and}
use Rattle.boot_plan.specs.declared.plan.Plan.{Plan}
use Rattle.mod_catalog.specs.Catalogue.{IsCatalogue}
use Rattle.boot_core.specs.{Examining.AreRefused, Examining.IsJob, GeneratedOutcome.generated_images, Summing.SumsUp}
use Rattle.boot_core.proofs.Summed.{refused_up}
use Rattle.boot_core.proofs.generated.sum_up_examined.Goals as goal

pub returns-in_err-catalog : goal.returns-in_err-catalog
returns-in_err-catalog c =
    let n = c.args.n in
    let plan = c.args.plan.now in
    let images = c.args.images in
    let none = c.in_err-catalog.field-0.0 in
    let refused = subst (λ x. AreRefused plan x none) c.as_slice.ensures c.in_err-catalog.ensures.refused in
    let p = err_from_is_err_and c.from_residual.result c.from_residual.ensures.1 in
    rw p.1 (subst (λ e. SumsUp n (Err e)) (sym p.2) (refused_up n plan images none c.requires.job refused))

pub returns : goal.returns
returns c =
    let n = c.args.n in
    let plan = c.args.plan.now in
    let catalog = c.in_ok-catalog.catalog in
    let job : IsJob n plan c.args.images = c.requires.job in
    let P : Plan → List (List ℕ) → Type 0 = λ plan images. IsCatalogue plan images catalog in
    let sound = subst (λ p. P p (generated_images n)) job.plan_is (subst (P plan) job.images_are (subst (P plan) c.as_slice.ensures c.in_ok-catalog.ensures.found.sound)) in
    record { of_bytes = job.of_bytes; catalog = catalog; sound = sound; summed = c.in_ok-summary.ensures }
