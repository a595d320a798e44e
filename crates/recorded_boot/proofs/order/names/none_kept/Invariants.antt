use Rattle.recorded_boot.specs.Taking.{NoneIsKept}
use Rattle.recorded_boot.proofs.order.names.none_kept.Given as goal

abbrev pub invariant-volumes : goal.invariant-volumes
invariant-volumes l = NoneIsKept l.counter l.maps.items
