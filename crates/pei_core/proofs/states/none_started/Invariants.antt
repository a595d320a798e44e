use Rattle.std.proofs.Common.{◌≡◌, replicate}
use Rattle.boot_model.specs.declared.peim_state.PeimState.TheVariants.{NotDispatched}
use Rattle.pei_core.proofs.states.none_started.Given as goal

abbrev pub invariant-modules : goal.invariant-modules
invariant-modules l = record { all : l.states ≡ replicate l._number NotDispatched }
