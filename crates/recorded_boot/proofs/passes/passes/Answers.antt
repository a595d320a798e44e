use Rattle.std.proofs.Common.{subst}
use Rattle.mod_catalog.specs.{Catalogue.IsCatalogue, ImageFault.IsImageFault}
use Rattle.boot_core.proofs.SomeVolume.{some_volume}
use Rattle.recorded_boot.proofs.Faults.{fault_passes, over_passes}
use Rattle.recorded_boot.proofs.passes.passes.Goals as goal

pub returns-in-Err-clause-row : goal.returns-in-Err-clause-row
returns-in-Err-clause-row g c =
    fault_passes c.args.plan.now c.args.images (g.S.Sink.text c.args.sink.now) c.in-Err.fault c.fault_of.result c.fault_of.ensures
    (λ real. subst (λ images. IsImageFault c.args.plan.now images c.in-Err.fault) c.as_slice.ensures (c.in-Err.ensures.refused real))

pub pass_over-passed-requires-clause-some : goal.pass_over-passed-requires-clause-some
pass_over-passed-requires-clause-some g c =
    let found = subst (λ images. IsCatalogue c.args.plan.now images c.in-Ok.catalog) c.as_slice.ensures c.in-Ok.ensures.found in
    some_volume c.args.plan.now c.args.images c.in-Ok.catalog found c.requires.in_range.some_volume

pub returns-clause-row : goal.returns-clause-row
returns-clause-row g c =
    let found = subst (λ images. IsCatalogue c.args.plan.now images c.in-Ok.catalog) c.as_slice.ensures c.in-Ok.ensures.found in
    over_passes c.args.plan.now c.args.images c.in-Ok.catalog _ c.pass_over-passed.result found c.pass_over-passed.ensures.row
