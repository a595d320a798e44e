use Rattle.boot_laws.proofs.ReportedVolumes.{orders_of_runs}
use Rattle.boot_laws.proofs.order.orders_of_runs_are_whole.Goals as goal

pub returns : goal.returns
returns c = orders_of_runs
