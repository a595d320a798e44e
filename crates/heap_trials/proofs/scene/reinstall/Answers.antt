use Rattle.store_model.specs.{StateFacts.IsDesc, Service.Install.reinstall}
use Rattle.heap_trials.specs.Scene.{AreThere}
use Rattle.heap_trials.proofs.Stays.{all_kept, is_desc, kept_by, reinstall_grows}
use Rattle.heap_trials.proofs.scene.reinstall.Goals as goal

pub returns : goal.returns
returns g c =
    let h = c.requires in
    let old = c.desc_of-old.result in
    let new = c.desc_of-new.result in
    let old_is : IsDesc h.0 old = is_desc h.0 c.desc_of-old.result c.desc_of-old.ensures h.2 in
    let new_is : IsDesc h.0 new = is_desc h.0 c.desc_of-new.result c.desc_of-new.ensures h.2 in
    kept_by AreThere (g.M.PeiStore.stands_for c.reinstall.new.self) _ (reinstall h.0 old new 9) h.0 c.reinstall.result
    (all_kept h.0 h.2) (reinstall_grows h.0 old new 9) (c.reinstall.ensures.row h.0 (h.1, (old_is, new_is)))
