use Rattle.std.proofs.Common.{sym, ap, ◌∙◌}
use Rattle.depex_code.specs.TreeCode.{tree_of, tree_of-postfix}
use Rattle.depex_code.proofs.laws.one_tree.Goals as goal

pub returns : goal.returns
returns c = λ node other same. sym (tree_of-postfix node) ∙ ap tree_of same ∙ tree_of-postfix other
