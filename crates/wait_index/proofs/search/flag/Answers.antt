use Rattle.std.proofs.Common.{Bool, Option, false, refl, unwrap_or}
use Rattle.phase_parts.proofs.Got.{by_item, by_none}
use Rattle.wait_index.proofs.search.flag.Goals as goal

pub returns-in-Some : goal.returns-in-Some
returns-in-Some c = by_item (λ (flag : Option Bool). unwrap_or flag false) c.args.flags.now c.args.flags.now c.args.at c.in-Some.set.now refl c.in-Some.ensures.lookup.3

pub returns-in-None : goal.returns-in-None
returns-in-None c = by_none (λ (flag : Option Bool). unwrap_or flag false) c.args.flags.now c.args.flags.now c.args.at refl c.in-None.ensures.lookup.3
