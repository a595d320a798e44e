use Rattle.std.proofs.Common.{◌≤◌, ◌^◌, arith, rules}
use Rattle.std.proofs.Math.Nat.{pow-le-pow_right}
use Rattle.gcd_map.proofs.map.unit_of.Goals as goal

pub returns-clause-most : goal.returns-clause-most
returns-clause-most c = let e : 2 ^ c.args.align ≤ 2 ^ 52 = pow-le-pow_right {n = 2} (omega arith) {i = c.args.align} {j = 52} c.requires in search (rules, e)
