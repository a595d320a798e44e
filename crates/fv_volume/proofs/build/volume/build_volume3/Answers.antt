use Rattle.std.proofs.Common.{◌≡◌, IfOk, subst}
use Rattle.fv_volume.specs.{declared.build.volume_header.VolumeForm.VolumeForm, Building.built_as}
use Rattle.fv_volume.proofs.build.volume.build_volume3.Goals as goal

pub returns-clause-built : goal.returns-clause-built
returns-clause-built c =
    subst (λ (form : VolumeForm). IfOk c.build_as.result (λ volume. volume ≡ built_as form c.args.files.now c.args.len)) c.new.ensures c.build_as.ensures.built
