use Rattle.std.proofs.Common.{◌≡◌, None, Some, sym, ◌∙◌}
use Rattle.store_model.specs.Service.Reading.{entry_behind}
use Rattle.store_laws.proofs.Behind.{all_told}
use Rattle.heap_trials.proofs.steps.first_entries.Goals as goal

pub entry_behind-requires : goal.entry_behind-requires
entry_behind-requires g c =
    let h = c.requires in
    let told : entry_behind h.0 c.args.list None ≡ Some c.in-Some.told = sym (c.entry_behind-first.ensures.row h.0 h.1 tt) ∙ c.in-Some.is in
    record { state = (h.0, h.1, (all_told.first h.0 c.args.list None c.in-Some.told (g.met.S.PeiStore.facts c.args.store.now h.0 h.1) told).is_in) }
