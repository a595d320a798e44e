use Rattle.std.proofs.Common.{◌∙◌, sym, refl}
use Rattle.boot_model.specs.{EvaluationBound.case_guids, PeiStep.case_of}
use Rattle.boot_laws.proofs.{GuidLists.among_firsts, StepGuids.step_puts}
use Rattle.boot_laws.proofs.guids.guids_change.Goals as goal

pub returns : goal.returns
returns c catalog fuel m guid kept h =
    (step_puts catalog fuel m kept (case_of catalog m) refl).changes guid (sym (among_firsts guid (case_guids catalog fuel m (case_of catalog m))) ∙ h)
