use Rattle.boot_laws.proofs.ReportedVolumes.{reported_differ}
use Rattle.boot_laws.proofs.order.reported_volumes_differ.Goals as goal

pub returns : goal.returns
returns c = reported_differ
