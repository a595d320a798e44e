-- The first fault of images, as it is told.
use Rattle.std.proofs.Common.{◌≢◌, ℕ, List, Option, Result, Ok, Err, sym, subst}
use Rattle.boot_io.proofs.PutsLaws.{appends_none}
use Rattle.boot_plan.specs.declared.plan.Plan.{Plan}
use Rattle.boot_model.specs.PlanBoard.{board_of}
use Rattle.boot_trace.specs.Printing.{Texts}
use Rattle.mod_catalog.specs.{declared.catalogue.Catalog.Catalog, declared.image_fault.ImageFault.ImageFault, Catalogue.IsCatalogue}
use Rattle.mod_catalog.specs.ImageFault.{IsImageFault}
use Rattle.mod_catalog.specs.declared.image_fault.ImageCause.TheVariants as I
use Rattle.recorded_boot.specs.{declared.order.lines.StartOrder.StartOrder, declared.follow.images.FollowFault.FollowFault}
use Rattle.recorded_boot.specs.declared.follow.images.FollowFault.TheVariants.{Image, Twins, Sink, Memory}
use Rattle.recorded_boot.specs.{Follow.Follows, Follow.IsFaultTold, Passes.Passes, Passes.PassesOver, declared.passes.Passed.Passed}

-- a fault that is told as it is, is the images' first
pub told_fault : (plan : Plan) (images : List (List ℕ)) (order : StartOrder) (text : Option (List ℕ)) (fault : ImageFault) (out : FollowFault) → IsFaultTold fault out → (fault.cause ≢ I.Memory → IsImageFault plan images fault)
    → Follows plan images order (record { old = text; new = text }) (Err out)
told_fault plan images order text fault (Image other) told refused = (subst (λ (x : ImageFault). IsImageFault plan images x) (sym told.1) (refused told.0), appends_none text)
told_fault plan images order text fault (Twins volume) told refused = absurd told
told_fault plan images order text fault Sink told refused = absurd told
told_fault plan images order text fault Memory told refused = tt

-- the same of a boot in EDK2's order
pub fault_passes : (plan : Plan) (images : List (List ℕ)) (text : Option (List ℕ)) (fault : ImageFault) (out : FollowFault) → IsFaultTold fault out → (fault.cause ≢ I.Memory → IsImageFault plan images fault)
    → Passes plan images (record { old = text; new = text }) (Err out)
fault_passes plan images text fault (Image other) told refused = (subst (λ (x : ImageFault). IsImageFault plan images x) (sym told.1) (refused told.0), appends_none text)
fault_passes plan images text fault (Twins volume) told refused = absurd told
fault_passes plan images text fault Sink told refused = tt
fault_passes plan images text fault Memory told refused = tt

-- a boot over the catalogue of the images is one of the images
pub over_passes : (plan : Plan) (images : List (List ℕ)) (catalog : Catalog) (t : Texts) (r : Result Passed FollowFault) → IsCatalogue plan images catalog → PassesOver (board_of plan catalog images) catalog plan.fuel t r → Passes plan images t r
over_passes plan images catalog t (Ok passed) sound over = record { catalog = catalog; sound = sound; is = over }
over_passes plan images catalog t (Err (Image fault)) sound over = absurd over
over_passes plan images catalog t (Err (Twins volume)) sound over = absurd over
over_passes plan images catalog t (Err Sink) sound over = tt
over_passes plan images catalog t (Err Memory) sound over = tt
