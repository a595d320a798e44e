use Rattle.recorded_boot.proofs.Runs as Law
use Rattle.recorded_boot.proofs.order.start_laws.starts_lead.Goals as goal

pub returns-clause-pei : goal.returns-clause-pei
returns-clause-pei c = Law.pei_leads

pub returns-clause-dxe : goal.returns-clause-dxe
returns-clause-dxe c = Law.dxe_leads
