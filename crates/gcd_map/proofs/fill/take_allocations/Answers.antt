use Rattle.std.proofs.Common.{sym, subst, List}
use Rattle.gcd_map.specs.{declared.hob.HobStretch.HobStretch, SpaceMap.MapState, SpaceMap.Shows}
use Rattle.gcd_map.specs.HobMap.{allocations, MayBeTaken, taken, Follow}
use Rattle.gcd_map.proofs.AnyOrder.{taken_all, allocations_in_order, shows_same}
use Rattle.gcd_map.proofs.fill.take_allocations.Goals as goal

pub returns-then-take_each : goal.returns-then-take_each
returns-then-take_each c = λ space shows.
    let all = allocations c.args.bytes.now c.args.places.now in
    let trial = c.take_each.ensures c.if-take_each.true space (subst (λ (m : MapState). Shows m space) (sym c.in_ok-trial.ensures) shows) in
    let follow = subst (λ (l : List HobStretch). Follow MayBeTaken taken space l trial.0) c.as_slice.ensures.value trial.1 in
    let any = allocations_in_order space trial.0 all c.in_ok-sorted.sorted.items c.in_ok-sorted.ensures follow in
    (taken_all space all, any.follow, shows_same c.take_each.new.map trial.0 (taken_all space all) any.states any.limit trial.2)
