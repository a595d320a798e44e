use Rattle.std.proofs.Common.{drop, sym, ◌∙◌}
use Rattle.explain_text.proofs.Images.{none_left}
use Rattle.explain_text.proofs.catalog.mapped.mapped_from.Goals as goal

pub returns-in-empty : goal.returns-in-empty
returns-in-empty c = sym (c.volumes.invariant ∙ none_left c.args.address (drop c.volumes.entry-index c.args.volumes.now) c.volumes.left.now c.in-empty.len_below)
