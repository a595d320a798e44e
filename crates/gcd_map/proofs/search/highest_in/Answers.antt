use Rattle.std.proofs.Common.{◌+◌, ◌-◌, arith, rules}
use Rattle.gcd_map.proofs.Highest.{whole_units, most_units}
use Rattle.gcd_map.proofs.search.highest_in.Goals as goal

pub returns-then-base-range : goal.returns-then-base-range
returns-then-base-range c = λ same base room.
    let last = c.args.range.base + (c.args.range.len - c.args.len) in
    omega (arith, room.1, c.if-base-range.true, most_units base last c.args.unit c.requires.unit room.0 (omega (arith, room.2, c.if-range-len.false)))

pub returns-else-base-range : goal.returns-else-base-range
returns-else-base-range c =
    let last = c.args.range.base + (c.args.range.len - c.args.len) in (
      search rules,
      (whole_units last c.args.unit c.requires.unit, c.if-base-range.false, omega (arith, c.if-range-len.false)),
      λ other room. most_units other last c.args.unit c.requires.unit room.0 (omega (arith, room.2, c.if-range-len.false)),
    )
