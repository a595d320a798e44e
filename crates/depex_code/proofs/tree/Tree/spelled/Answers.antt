use Rattle.depex_code.proofs.Stacks.{tree_of-of}
use Rattle.depex_code.proofs.tree.Tree.spelled.Goals as goal

pub invariant_of-result : goal.invariant_of-result
invariant_of-result c = tree_of-of c.requires.0 c.args.code c.requires.1

pub returns : goal.returns
returns c = tree_of-of c.requires.0 c.args.code c.requires.1
