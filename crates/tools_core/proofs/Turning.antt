-- The boot in the order of EDK2's dispatchers, explained, from what the boot came to.
use Rattle.std.proofs.Common.{◌≡◌, ℕ, List, [], Some, subst}
use Rattle.boot_plan.specs.declared.plan.Plan.{Plan}
use Rattle.mod_catalog.specs.{declared.catalogue.Catalog.Catalog, Catalogue.IsCatalogue}
use Rattle.recorded_boot.specs.{declared.passes.Passed.Passed, Passes.IsPassed}
use Rattle.tools_core.specs.PassesReport.{PassesSo}

-- a boot of copies of the images, which begins with an empty text
pub passed_so : (plan : Plan) (copies images : List (List ℕ)) (before text : List ℕ) (passed : Passed) → copies ≡ images → before ≡ [] → IsPassed plan copies (record { old = Some before; new = Some text }) passed
    → (catalog : Catalog) × IsCatalogue plan images catalog × PassesSo plan images catalog passed text
passed_so plan copies images before text passed same empty is =
    let P : List (List ℕ) → Type 0 = λ x. IsPassed plan x (record { old = Some before; new = Some text }) passed in
    let Q : List ℕ → Type 0 = λ x. IsPassed plan images (record { old = Some x; new = Some text }) passed in
    let here = subst Q empty (subst P same is) in
    (here.catalog, here.sound, here.is)
