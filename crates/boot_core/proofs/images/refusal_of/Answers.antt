use Rattle.std.proofs.Common.{◌≢◌, refl, sym, true≢false}
use Rattle.mod_catalog.specs.declared.image_fault.ImageCause.TheVariants.{Memory}
use Rattle.boot_core.proofs.images.refusal_of.Goals as goal

pub returns : goal.returns
returns c =
    let real : c.args.fault.cause ≢ Memory = λ e. true≢false (sym (rw e at c.if-eq.ensures)) in
    (real, refl)
