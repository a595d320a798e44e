use Rattle.std.proofs.Common.{sym, ◌∙◌}
use Rattle.phase_parts.proofs.Ppis.{volume_there}
use Rattle.phase_parts.proofs.report.volume_of_ppi.Goals as goal

pub returns-then-eq-clause-volume : goal.returns-then-eq-clause-volume
returns-then-eq-clause-volume g c s stands is =
    volume_there c.args.catalog.now s c.args.ppi c.descriptor-address.result c.volume_of_info.result (c.descriptor-address.ensures.row s stands is) (sym c.eq.ensures ∙ c.if-eq.true)
    (c.volume_of_info.ensures.volume s stands tt)
