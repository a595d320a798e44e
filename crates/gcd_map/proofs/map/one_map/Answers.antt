use Rattle.gcd_map.proofs.Unique.{one_map}
use Rattle.gcd_map.proofs.map.one_map.Goals as goal

pub returns : goal.returns
returns c = one_map
