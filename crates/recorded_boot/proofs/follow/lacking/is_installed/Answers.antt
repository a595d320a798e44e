use Rattle.std.proofs.Common.{◌∙◌, ap, is_some}
use Rattle.recorded_boot.proofs.Pushing.{has_first}
use Rattle.recorded_boot.proofs.follow.lacking.is_installed.Goals as goal

pub returns-in-Pei : goal.returns-in-Pei
returns-in-Pei g c s stands any = rw c.in-Pei.is (c.is_some.ensures ∙ ap is_some (c.nth_ppi.ensures.row s stands any) ∙ has_first s c.args.guid.now)
