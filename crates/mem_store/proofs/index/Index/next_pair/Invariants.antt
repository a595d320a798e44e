use Rattle.std.proofs.Common.{◌≡◌, ◌-◌}
use Rattle.store_model.specs.StoreState.{StoreState}
use Rattle.store_model.specs.Service.Sweep.{first_firing, next_match, pairs_left}
use Rattle.store_laws.specs.Sweeps.{standing}
use Rattle.mem_store.specs.Indexed.{all_rows, held}
use Rattle.mem_store.proofs.index.Index.next_pair.Given as goal

abbrev pub invariant-ppis : goal.invariant-ppis
invariant-ppis l = (s : StoreState) → held l.self ≡ all_rows s → first_firing s l.sweep (pairs_left (standing l.sweep l.ppi l.from)) ≡ next_match s l.sweep

abbrev pub decreases-ppis : goal.decreases-ppis
decreases-ppis l = l.sweep.ppi_to - l.ppi
