use Rattle.recorded_boot.proofs.PeiCounts as Pei
use Rattle.recorded_boot.proofs.DxeCounts as Dxe
use Rattle.recorded_boot.proofs.order.start_laws.starts_count.Goals as goal

pub returns-clause-pei : goal.returns-clause-pei
returns-clause-pei c = Pei.starts_count

pub returns-clause-dxe : goal.returns-clause-dxe
returns-clause-dxe c = Dxe.starts_count
