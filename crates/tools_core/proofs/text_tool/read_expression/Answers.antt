use Rattle.std.proofs.Common.{refl}
use Rattle.tools_core.specs.TextReport.{malformed, read}
use Rattle.tools_core.proofs.text_tool.read_expression.Goals as goal

pub returns-in_ok-print_depex-in-Ok : goal.returns-in_ok-print_depex-in-Ok
returns-in_ok-print_depex-in-Ok c = (read c.in-Ok.depex c.in-Ok.ensures.read refl c.in_ok-print_depex-in-Ok.ensures, refl)

pub returns-in-Err-Malformed : goal.returns-in-Err-Malformed
returns-in-Err-Malformed c = (malformed c.in-Err-Malformed.at (rw c.in-Err-Malformed.field-0-is at c.in-Err-Malformed.ensures.refused) refl (rw c.in-Err-Malformed.field-0-is refl), refl)
