use Rattle.std.proofs.Common.{arith}
use Rattle.gcd_map.proofs.Covers.{base_is}
use Rattle.gcd_map.proofs.search.index_of.Goals as goal

pub bisection-preserved-then-ranges-middle : goal.bisection-preserved-then-ranges-middle
bisection-preserved-then-ranges-middle c = record {
  order = omega arith;
  within = omega arith;
  below = grind (arith, base_is);
  above = c.bisection.invariant.above;
}

pub bisection-preserved : goal.bisection-preserved
bisection-preserved c = record {
  order = omega arith;
  within = omega arith;
  below = c.bisection.invariant.below;
  above = λ less. grind (arith, base_is);
}
