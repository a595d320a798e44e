use Rattle.std.proofs.Common.{◌≡◌, ◌++◌, List, length}
use Rattle.pi_base.specs.Lists.{Each}
use Rattle.gcd_map.specs.{declared.range.GcdRange.GcdRange, Ranges.DoesFit, Growing.Replaces}
use Rattle.gcd_map.proofs.change.replacement.Given as goal

abbrev pub invariant-met : goal.invariant-met
invariant-met l = record {
  so : (done : List GcdRange) × (done ++ l.rest ≡ l.met) × Replaces done l.base l.end l.effect l.new;
  fit : Each DoesFit l.rest;
}

abbrev pub decreases-met : goal.decreases-met
decreases-met l = length l.rest
