use Rattle.std.proofs.Common.{refl}
use Rattle.tools_core.specs.VolumeReport.{at_fault, built}
use Rattle.tools_core.proofs.volume_tool.volume_report.Goals as goal

pub returns-in-Ok : goal.returns-in-Ok
returns-in-Ok c = (built c.in-Ok.bytes c.in-Ok.ensures.said c.in-Ok.ensures.leads refl refl, refl)

pub returns-in-Err-Bad : goal.returns-in-Err-Bad
returns-in-Err-Bad c = (at_fault c.in-Err-Bad.fault (rw c.in-Err-Bad.field-0-is at c.in-Err-Bad.ensures.refused) refl refl, refl)
