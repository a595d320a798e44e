use Rattle.std.proofs.Common.{◌^◌, rules}
use Rattle.gcd_map.specs.AddressSpace.{empty_space}
use Rattle.gcd_map.proofs.map.GcdMap.empty.Goals as goal

pub invariant_of-result : goal.invariant_of-result
invariant_of-result c = (empty_space (2 ^ c.args.bits), search rules)
