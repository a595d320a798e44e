use Rattle.std.proofs.Common.{refl}
use Rattle.boot_model.specs.PeiStep.{case_of}
use Rattle.boot_laws.proofs.StepGuids.{step_puts}
use Rattle.boot_laws.proofs.guids.guids_are_there.Goals as goal

pub returns : goal.returns
returns c catalog fuel m kept = (step_puts catalog fuel m kept (case_of catalog m) refl).there
