use Rattle.std.proofs.Common.{sym, ◌∙◌}
use Rattle.fv_volume.proofs.Outcomes.{on_ok}
use Rattle.volume_print.proofs.Stretches.{erased_put, pad_put}
use Rattle.volume_print.proofs.pad.put_pad.Goals as goal

pub returns-then-is_erased : goal.returns-then-is_erased
returns-then-is_erased c =
    on_ok c.put_erased.result _ _
    (erased_put c.args.piece.now c.split_at.result.1.now c.args.out.now c.put_erased.new.out c.at-name.result
    c.at-name.ensures c.split_at.ensures.back (sym c.is_erased.ensures ∙ c.if-is_erased.true))
    c.put_erased.ensures

pub returns : goal.returns
returns c =
    on_ok c.put_plain_body.result _ _
    (λ last. pad_put c.args.piece.now c.split_at.result.1.now c.args.out.now c.put_head.new.out c.put_plain_body.new.out c.at-name.result c.new.result c.at-name.ensures c.split_at.ensures.back
    c.new.ensures (sym c.is_erased.ensures ∙ c.if-is_erased.false) c.in_ok-put_head.ensures last)
    c.put_plain_body.ensures
