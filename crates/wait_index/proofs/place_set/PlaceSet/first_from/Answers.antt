use Rattle.wait_index.proofs.Flags.{none_left}
use Rattle.wait_index.proofs.place_set.PlaceSet.first_from.Goals as goal

pub returns-clause-empty : goal.returns-clause-empty
returns-clause-empty c = none_left c.args.self.now c.args.from c.first_of_two.result c.first_of_two.ensures
