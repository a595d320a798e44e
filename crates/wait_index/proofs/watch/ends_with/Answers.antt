use Rattle.std.proofs.Common.{Option, ℕ, ap}
use Rattle.wait_index.specs.Watching.{is_one}
use Rattle.wait_index.proofs.watch.ends_with.Goals as goal

pub returns-in-Some : goal.returns-in-Some
returns-in-Some c = ap (λ (last : Option ℕ). is_one last c.args.number) c.in-Some.ensures.value

pub returns-in-None : goal.returns-in-None
returns-in-None c = ap (λ (last : Option ℕ). is_one last c.args.number) c.in-None.ensures.value
