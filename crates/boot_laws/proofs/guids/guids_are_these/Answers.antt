use Rattle.std.proofs.Common.{ap}
use Rattle.boot_model.specs.{EvaluationBound.each_once, PeiStep.case_of}
use Rattle.boot_laws.proofs.EventGuids.{case_is}
use Rattle.boot_laws.proofs.guids.guids_are_these.Goals as goal

pub returns : goal.returns
returns c catalog fuel m = ap each_once (case_is catalog fuel m (case_of catalog m))
