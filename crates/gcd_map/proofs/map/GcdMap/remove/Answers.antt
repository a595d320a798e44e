use Rattle.std.proofs.Common.{refl, arith}
use Rattle.gcd_map.proofs.map.GcdMap.remove.Goals as goal

pub returns-then-not-all_meet-2 : goal.returns-then-not-all_meet-2
returns-then-not-all_meet-2 c = record {
  row = λ old shows.
      let end = c.in-Some.ensures in
      let present = c.if-not-all_meet.ensures old shows in
      let some = c.if-not-all_meet-2.ensures old shows in (
        old,
        (
          omega arith,
          omega (arith, end, shows.limit),
          (λ address low high. present address low (omega (arith, end, high))),
          (some.0, some.1, omega (arith, end, some.2), some.3),
          refl,
        ),
        shows,
      );
}
