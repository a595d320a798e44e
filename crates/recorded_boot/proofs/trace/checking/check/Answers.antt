use Rattle.std.proofs.Common.{◌≢◌, ℕ, List, Err, sym, subst}
use Rattle.boot_plan.specs.declared.plan.Plan.{Plan}
use Rattle.mod_catalog.specs.declared.image_fault.ImageCause.TheVariants as I
use Rattle.mod_catalog.specs.{declared.image_fault.ImageFault.ImageFault, Catalogue.IsCatalogue, ImageFault.IsImageFault}
use Rattle.recorded_boot.specs.{declared.trace.checking.CheckFault.CheckFault, Checking.Checks, Checking.IsFaultTold}
use Rattle.recorded_boot.specs.declared.trace.checking.CheckFault.TheVariants.{Image, Twins, Memory}
use Rattle.boot_core.proofs.SomeVolume.{some_volume}
use Rattle.recorded_boot.proofs.trace.checking.check.Goals as goal

-- a fault that is told as it is, is the images' first
told_fault : (plan : Plan) (images : List (List ℕ)) (text : List ℕ) (fault : ImageFault) (out : CheckFault) → IsFaultTold fault out → (fault.cause ≢ I.Memory → IsImageFault plan images fault) → Checks plan images text (Err out)
told_fault plan images text fault (Image other) told refused = subst (λ (x : ImageFault). IsImageFault plan images x) (sym told.1) (refused told.0)
told_fault plan images text fault (Twins volume) told refused = absurd told
told_fault plan images text fault Memory told refused = tt

pub returns-in-Err : goal.returns-in-Err
returns-in-Err c =
    told_fault c.args.plan.now c.args.images c.args.text.now c.in-Err.fault c.fault_of.result c.fault_of.ensures
    (λ real. subst (λ images. IsImageFault c.args.plan.now images c.in-Err.fault) c.as_slice.ensures (c.in-Err.ensures.refused real))

pub check_catalog-requires-clause-some : goal.check_catalog-requires-clause-some
check_catalog-requires-clause-some c =
    let found = subst (λ images. IsCatalogue c.args.plan.now images c.in-Ok.catalog) c.as_slice.ensures c.in-Ok.ensures.found in
    some_volume c.args.plan.now c.args.images c.in-Ok.catalog found c.requires.in_range.some_volume
