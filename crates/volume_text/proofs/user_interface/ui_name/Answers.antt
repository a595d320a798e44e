use Rattle.std.proofs.Common.{ap, ◌∙◌}
use Rattle.line_words.proofs.Comparisons.{not_same}
use Rattle.volume_text.specs.UserInterface.{ui_bytes}
use Rattle.volume_text.proofs.WideNames.{other_bytes}
use Rattle.volume_text.proofs.user_interface.ui_name.Goals as goal

pub returns-else-eq : goal.returns-else-eq
returns-else-eq c =
    other_bytes c.args.body.now c.split_at.result.0.now c.in_ok-name.name c.as_slice-3.result.now c.split_at.ensures.front c.in_ok-name.ensures
    (c.as_slice-3.ensures ∙ c.in_ok-spelled.ensures ∙ ap ui_bytes c.as_slice-2.ensures)
    (not_same c.as_slice-3.result.now c.args.body.now c.eq.result c.eq.ensures c.if-eq.false)
