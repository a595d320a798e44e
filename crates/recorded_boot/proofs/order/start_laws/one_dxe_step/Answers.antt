use Rattle.recorded_boot.proofs.DxeSteps as Law
use Rattle.recorded_boot.proofs.order.start_laws.one_dxe_step.Goals as goal

pub returns : goal.returns
returns c = Law.one_step
