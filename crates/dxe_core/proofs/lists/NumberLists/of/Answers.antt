use Rattle.std.proofs.Common.{◌∙◌, Some, None}
use Rattle.dxe_core.proofs.Listed.{found}
use Rattle.dxe_core.proofs.lists.NumberLists.of.Goals as goal

pub returns-in-Some : goal.returns-in-Some
returns-in-Some c = c.as_slice.ensures.value ∙ found c.args.self.now c.args.name.now (Some c.in-Some.numbers.now) c.in-Some.ensures.value

pub returns-in-None : goal.returns-in-None
returns-in-None c = found c.args.self.now c.args.name.now None c.in-None.ensures.value
