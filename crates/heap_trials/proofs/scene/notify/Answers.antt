use Rattle.std.proofs.Common.{[], ◌∷◌}
use Rattle.store_model.specs.{StateFacts.IsDesc, Service.Notify.notify}
use Rattle.heap_trials.specs.Scene.{AreThere}
use Rattle.heap_trials.proofs.Stays.{all_kept, notify_grows, is_desc, kept_by}
use Rattle.heap_trials.proofs.scene.notify.Goals as goal

pub returns : goal.returns
returns g c =
    let h = c.requires in
    let d = c.desc_of-d.result in
    let is : IsDesc h.0 d = is_desc h.0 c.desc_of-d.result c.desc_of-d.ensures h.2 in
    kept_by AreThere (g.M.PeiStore.stands_for c.notify.new.self) _ (notify h.0 (d ∷ []) 9) h.0 c.notify.result
    (all_kept h.0 h.2) (notify_grows h.0 (d ∷ []) 9) (c.notify.ensures.row h.0 (h.1, (is, tt)))
