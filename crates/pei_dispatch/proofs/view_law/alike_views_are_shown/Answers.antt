use Rattle.pei_dispatch.proofs.Views.{shows_alike}
use Rattle.pei_dispatch.proofs.view_law.alike_views_are_shown.Goals as goal

pub returns : goal.returns
returns c catalog queue view other shows alike = shows_alike catalog queue view other shows alike.volumes alike.starts alike.allows alike.installs
