use Rattle.std.proofs.Common.{sym, ap, ◌∙◌}
use Rattle.depex_code.specs.{Tree.truth, TreeCode.tree_of, TreeCode.tree_of-postfix}
use Rattle.depex_code.proofs.Stacks.{tree_of-of}
use Rattle.depex_code.proofs.tree.Tree.holds.Goals as goal

pub truth_of-requires-clause-tree : goal.truth_of-requires-clause-tree
truth_of-requires-clause-tree g c = tree_of-of c.args.self.now c.code.result.now (sym c.code.ensures)

pub returns-clause-truth : goal.returns-clause-truth
returns-clause-truth g c =
    c.truth_of.ensures ∙ ap (λ code. truth (g.G.GuidSet.has_guid c.args.set.now) (tree_of code)) c.code.ensures
    ∙ ap (truth (g.G.GuidSet.has_guid c.args.set.now)) (tree_of-postfix c.args.self.now)
