use Rattle.std.proofs.Common.{[], ◌∷◌}
use Rattle.store_model.specs.Service.Install.{install}
use Rattle.heap_trials.specs.Scene.{HasDesc}
use Rattle.heap_trials.proofs.Stays.{desc_kept, install_grows, kept_by}
use Rattle.heap_trials.proofs.calls.installs.Goals as goal

pub returns : goal.returns
returns g c =
    let h = c.requires in
    kept_by (HasDesc c.args.d) (g.S.PeiStore.stands_for c.install.new.self) _ (install h.0 (c.args.d ∷ []) 9) h.0 c.install.result
    (desc_kept c.args.d h.0 h.2) (install_grows h.0 (c.args.d ∷ []) 9) (c.install.ensures.row h.0 (h.1, (h.2, tt)))
