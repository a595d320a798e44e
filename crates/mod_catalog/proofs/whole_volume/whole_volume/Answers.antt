use Rattle.std.proofs.Common.{List, [], ◌∷◌, ◌++◌, ap, ◌∙◌}
use Rattle.std.proofs.lemmas.Result.{IfOk-weaker}
use Rattle.mod_catalog.specs.{declared.catalogue.VolumeEntry.VolumeEntry, Image.image_of, VolumeTree.entry_of}
use Rattle.mod_catalog.proofs.WholeVolume.{whole}
use Rattle.mod_catalog.proofs.whole_volume.whole_volume.Goals as goal

pub returns-clause-found : goal.returns-clause-found
returns-clause-found c =
    let modules = rw c.as_slice.ensures at c.in_ok-modules.ensures in
    let volumes = c.in_ok-push.ensures.ok ∙ ap (λ (entries : List VolumeEntry). entries ++ entry_of c.args.location c.args.volume.now ∷ []) c.new-volumes.ensures in
    IfOk-weaker c.joined.result _ _ (λ held is. λ deep totals number are.
    whole deep (image_of c.args.bytes.now c.args.location) c.args.volume.now c.args.files totals c.push.new.self c.in_ok-modules.modules held c.requires.is_volume volumes modules is number are) c.joined.ensures
