use Rattle.recorded_boot.proofs.PeiSteps as Law
use Rattle.recorded_boot.proofs.order.start_laws.one_pei_step.Goals as goal

pub returns : goal.returns
returns c = Law.one_step
