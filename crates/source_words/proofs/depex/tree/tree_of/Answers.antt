use Rattle.source_words.proofs.Trees.{code_there, found_tree}
use Rattle.source_words.specs.Tokens.{tokens}
use Rattle.source_words.proofs.depex.tree.tree_of.Goals as goal

pub unwrap-requires : goal.unwrap-requires
unwrap-requires c =
    code_there (tokens c.args.text.now) c.in_ok-code.code c.from_code.result c.in_ok-code.ensures.0 c.in_ok-code.ensures.1 c.from_code.ensures.none

pub returns : goal.returns
returns c =
    found_tree (tokens c.args.text.now) c.in_ok-code.code c.unwrap.result c.in_ok-code.ensures.0 c.in_ok-code.ensures.1 (rw c.unwrap.ensures at c.from_code.ensures.some)
