use Rattle.std.proofs.Common.{◌≡◌}
use Rattle.store_model.specs.Service.Sweep.{first_firing, pairs_left, next_match}
use Rattle.store_plain.specs.PlainState.{state_of}
use Rattle.store_plain.proofs.store.PlainStore.next_pair.Given as goal

abbrev pub invariant-ppis : goal.invariant-ppis
invariant-ppis l = first_firing (state_of l.self) l.sweep (pairs_left (record l.sweep { ppi_at = l.ppi; note_at = l.from })) ≡ next_match (state_of l.self) l.sweep
