use Rattle.std.proofs.Common.{ap, sym, ◌∙◌}
use Rattle.pei_core.specs.Taken.{refused_with}
use Rattle.pei_core.proofs.taken.Taken.refused.Goals as goal

pub returns-in-None : goal.returns-in-None
returns-in-None c = ap (refused_with c.args.name) (sym c.in-None.is ∙ c.status.ensures)
