use Rattle.std.proofs.Common.{sym, ◌∙◌, ◌≡◌, true≢false}
use Rattle.depex_code.specs.{Tree.postfix, TreeCode.tree_of}
use Rattle.depex_code.proofs.Stacks.{tree_of-of}
use Rattle.depex_code.proofs.tree.Tree.from_code.Goals as goal

pub returns-else-is_tree-clause-none : goal.returns-else-is_tree-clause-none
returns-else-is_tree-clause-none c = λ node e.
    let it : postfix (tree_of c.as_slice.result.now) ≡ c.as_slice.result.now = tree_of-of node c.as_slice.result.now (e ∙ sym c.as_slice.ensures) in
    true≢false (sym (c.is_tree.ensures.1 it) ∙ c.if-is_tree.false)
