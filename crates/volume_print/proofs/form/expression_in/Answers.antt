use Rattle.std.proofs.Common.{◌∙◌}
use Rattle.volume_print.proofs.Forms.{unlike, unequal}
use Rattle.volume_print.proofs.form.expression_in.Goals as goal

pub returns-else-eq : goal.returns-else-eq
returns-else-eq c =
    unlike c.args.phase c.args.bytes.now c.as_slice.result.now c.in-Ok.expression c.one_reading.ensures.read c.in-Ok.ensures.read (c.as_slice.ensures ∙ c.in_ok-spelled.ensures)
    (unequal c.as_slice.result.now c.args.bytes.now c.eq.result c.eq.ensures c.if-eq.false)
