use Rattle.std.proofs.Common.{◌≡◌}
use Rattle.store_model.specs.Service.Sweep.{first_firing, pairs_with}
use Rattle.store_plain.specs.PlainState.{state_of}
use Rattle.store_plain.proofs.store.PlainStore.match_of.Given as goal

abbrev pub invariant-notes : goal.invariant-notes
invariant-notes l = first_firing (state_of l.self) l.sweep (pairs_with l.sweep l.note l.ppi) ≡ first_firing (state_of l.self) l.sweep (pairs_with l.sweep l.from l.ppi)
