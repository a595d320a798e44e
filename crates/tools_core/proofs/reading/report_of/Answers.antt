use Rattle.std.proofs.Common.{refl}
use Rattle.tools_core.specs.FileRefusal.{reports_file, reports_long, reports_plan}
use Rattle.tools_core.proofs.reading.report_of.Goals as goal

pub returns-in-RefusedFile : goal.returns-in-RefusedFile
returns-in-RefusedFile c = reports_file c.in-RefusedFile.name c.in-RefusedFile.is refl

pub returns-in-RefusedLong : goal.returns-in-RefusedLong
returns-in-RefusedLong c = reports_long c.in-RefusedLong.name c.in-RefusedLong.is refl

pub returns-in-RefusedPlan : goal.returns-in-RefusedPlan
returns-in-RefusedPlan c = reports_plan c.in-RefusedPlan.line c.in-RefusedPlan.cause c.in-RefusedPlan.is refl
