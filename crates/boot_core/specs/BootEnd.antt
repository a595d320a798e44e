-- The status that a boot is answered with, by its result.
-- Own.
use Rattle.boot_model.specs.declared.line.RunEnd.{RunEnd}
use Rattle.boot_model.specs.declared.line.RunEnd.TheVariants as E
use Rattle.boot_core.specs.declared.status.Status.{Status}
use Rattle.boot_core.specs.declared.status.Status.TheVariants as V

-- how a result is answered
abbrev pub status_of : RunEnd → Status
status_of E.Done = V.Done
status_of E.NoMemory = V.NoHandoff
status_of E.NoIpl = V.NoHandoff
status_of E.Spent = V.Spent
status_of E.Deep = V.Deep
