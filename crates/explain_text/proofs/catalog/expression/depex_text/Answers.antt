use Rattle.std.proofs.Common.{◌-◌, List, ℕ, length, take, ap, ◌∙◌}
use Rattle.asm_text.specs.ExpressionText.{expression_text}
use Rattle.explain_text.proofs.Modules.{without_last}
use Rattle.explain_text.proofs.catalog.expression.depex_text.Goals as goal

pub returns : goal.returns
returns c =
    c.truncate.ensures ∙ ap (λ n. take n c.in_ok-text.text) (c.saturating_sub.ensures ∙ ap (λ n. n - 1) c.len-len.ensures)
    ∙ ap (λ (text : List ℕ). take (length text - 1) text) c.in_ok-text.ensures ∙ without_last (expression_text c.args.depex.now) 10
