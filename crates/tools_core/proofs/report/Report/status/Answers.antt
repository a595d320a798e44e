use Rattle.std.proofs.Common.{refl}
use Rattle.tools_core.proofs.report.Report.status.Goals as goal

pub returns-in-No : goal.returns-in-No
returns-in-No c = rw c.in-Followed.is (rw c.in-No.is refl)
