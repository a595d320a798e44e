use Rattle.std.proofs.Common.{sym, ap, ◌∙◌}
use Rattle.asm_text.specs.Drafts.{may_end, is_closed}
use Rattle.asm_text.proofs.Paths.{last_parts}
use Rattle.asm_text.proofs.draft.may_end.Goals as goal

pub returns-in-len1-up : goal.returns-in-len1-up
returns-in-len1-up c =
    let parts = last_parts c.args.blocks.now c.last-item.result c.in-len1-up.len_at_least c.last-item.is in
    c.is_closed.ensures ∙ ap is_closed c.as_slice.ensures ∙ sym (ap (may_end c.args.none) parts.1)
