use Rattle.std.proofs.Common.{refl, ◌∙◌}
use Rattle.depex_code.specs.Expression.{bytes_of, instructions}
use Rattle.tools_core.specs.TextReport.{DepexReport, bad, hex_line, long, spelled}
use Rattle.tools_core.proofs.Ending.{answered}
use Rattle.tools_core.proofs.text_tool.assemble_depex.Goals as goal

pub returns-in-Err-Bad : goal.returns-in-Err-Bad
returns-in-Err-Bad c = (bad c.in-Err-Bad.line (rw c.in-Err-Bad.field-0-is at c.in-Err-Bad.ensures.refused) refl (rw c.in-Err-Bad.field-0-is refl), refl)

pub returns-in-Err-TooLong : goal.returns-in-Err-TooLong
returns-in-Err-TooLong c =
    let refused = rw c.in-Err-TooLong.field-0-is at c.in-Err-TooLong.ensures.refused in
    (long refused.0 refused.1 refused.2 refl refl, refl)

pub returns : goal.returns
returns c =
    let depex = c.in-Ok.depex in
    answered c.hex_answer.result (DepexReport c.args.text.now) (hex_line (bytes_of (instructions depex)))
    (rw (c.as_slice.ensures ∙ c.in_ok-bytes.ensures) at c.hex_answer.ensures) (spelled depex c.in-Ok.ensures.read c.in-Ok.ensures.few refl refl)
