use Rattle.std.proofs.Common.{rules}
use Rattle.gcd_map.proofs.walk.place_or_fault.Goals as goal

pub returns-in-Err : goal.returns-in-Err
returns-in-Err c = (c.in-Err.fault, search rules, c.in-Err.ensures, c.walk_cause.ensures)
