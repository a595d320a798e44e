use Rattle.std.proofs.Common.{◌≡◌, ℕ, suc, ◌-◌, drop, Some, None, subst, arith}
use Rattle.gcd_map.specs.Tests.{IsHighest}
use Rattle.gcd_map.proofs.Highest.{highest_front, one_before}
use Rattle.gcd_map.proofs.search.highest.Goals as goal

pub returns-in-Some : goal.returns-in-Some
returns-in-Some c =
    let ranges = c.args.ranges.now in let at = c.rooms.left - 1 in
    let is : c.rooms.left ≡ suc at = omega arith in
    let none : IsHighest (drop (suc at) ranges) c.args.state c.args.unit c.args.len None =
    subst (λ (n : ℕ). IsHighest (drop n ranges) c.args.state c.args.unit c.args.len None) is c.rooms.invariant.none in
    highest_front ranges at c.args.state c.args.unit c.args.len c.in-Some.base
    (one_before ranges at _ c.args.state c.args.unit c.args.len (Some c.in-Some.base) (omega arith) none c.in-Some.ensures)

pub rooms-preserved : goal.rooms-preserved
rooms-preserved c =
    let ranges = c.args.ranges.now in let at = c.rooms.left - 1 in
    let is : c.rooms.left ≡ suc at = omega arith in
    let none : IsHighest (drop (suc at) ranges) c.args.state c.args.unit c.args.len None =
    subst (λ (n : ℕ). IsHighest (drop n ranges) c.args.state c.args.unit c.args.len None) is c.rooms.invariant.none in
    record {
      within = omega arith;
      none = one_before ranges at _ c.args.state c.args.unit c.args.len None (omega arith) none c.in_default.ensures;
    }
