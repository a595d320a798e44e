use Rattle.std.proofs.Common.{sym, subst, List}
use Rattle.gcd_map.specs.{declared.hob.HobStretch.HobStretch, SpaceMap.MapState, SpaceMap.Shows}
use Rattle.gcd_map.specs.HobMap.{resources, Comes, came, Follow}
use Rattle.gcd_map.proofs.AnyOrder.{came_all, resources_in_order, shows_same}
use Rattle.gcd_map.proofs.fill.add_resources.Goals as goal

pub returns-then-add_each : goal.returns-then-add_each
returns-then-add_each c = λ space shows.
    let all = resources c.args.bytes.now c.args.places.now in
    let trial = c.add_each.ensures c.if-add_each.true space (subst (λ (m : MapState). Shows m space) (sym c.in_ok-trial.ensures) shows) in
    let follow = subst (λ (l : List HobStretch). Follow Comes came space l trial.0) c.as_slice.ensures.value trial.1 in
    let any = resources_in_order space trial.0 all c.in_ok-sorted.sorted.items c.in_ok-sorted.ensures follow in
    (came_all space all, any.follow, shows_same c.add_each.new.map trial.0 (came_all space all) any.states any.limit trial.2)
