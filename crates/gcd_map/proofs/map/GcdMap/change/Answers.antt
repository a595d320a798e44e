use Rattle.std.proofs.Common.{ap, arith}
use Rattle.gcd_map.specs.{SpaceMap.MapState, AddressSpace.with_change}
use Rattle.gcd_map.proofs.Shown.{shows_change}
use Rattle.gcd_map.proofs.map.GcdMap.change.Goals as goal

pub invariant_of-self-2 : goal.invariant_of-self-2
invariant_of-self-2 c =
    let inside = c.self.inside in let old = c.self.invariant in (
      with_change old.0 (record { base = c.args.base; len = c.args.len; effect = c.args.effect }),
      shows_change inside.limit inside.ranges.items c.change.new.ranges.items old.0 c.args.base c.args.len c.args.effect old.1 (omega (arith, c.requires.within, ap (λ (m : MapState). m.limit) c.self.view_is)) c.in_ok-change.ensures.covers c.in_ok-change.ensures.differ,
    )
