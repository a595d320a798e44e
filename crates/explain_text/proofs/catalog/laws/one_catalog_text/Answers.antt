use Rattle.std.proofs.Common.{sym, ap, ◌∙◌}
use Rattle.explain_text.specs.{Title.IsTitle, Lines.catalog_lines}
use Rattle.explain_text.proofs.OneText.{one_list}
use Rattle.explain_text.proofs.catalog.laws.one_catalog_text.Goals as goal

pub returns : goal.returns
returns c = λ volumes images modules a b p q.
    p.2 ∙ ap (catalog_lines 0 modules) (one_list (IsTitle volumes images) (c.one_title.ensures volumes images) modules p.0 q.0 p.1 q.1) ∙ sym q.2
