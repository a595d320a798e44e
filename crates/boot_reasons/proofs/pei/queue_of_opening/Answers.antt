use Rattle.std.proofs.Common.{◌≡◌, ◌∙◌, sym, subst}
use Rattle.std.proofs.lemmas.Result.{err_from_is_err_and}
use Rattle.boot_model.specs.{Licence.AllDiffer, PeiRun.pei_opening}
use Rattle.pei_dispatch.specs.View.{first_view}
use Rattle.boot_reasons.proofs.PeiEnds.{opened}
use Rattle.boot_reasons.proofs.pei.queue_of_opening.Goals as goal

pub returns-in_err-queue : goal.returns-in_err-queue
returns-in_err-queue g c =
    let p = err_from_is_err_and c.from_residual.result c.from_residual.ensures.1 in
    rw p.1 tt

pub report-requires-clause-catalog : goal.report-requires-clause-catalog
report-requires-clause-catalog g c = c.requires.catalog

pub report-requires-clause-new : goal.report-requires-clause-new
report-requires-clause-new g c =
    let opening = c.requires.opening.3 in
    let now : c.reported.result.now ≡ c.args.pei.now.core.reported = c.reported.ensures (pei_opening c.requires.opening.0 c.args.catalog.now) opening ∙ opening.has.fields.reported in
    (first_view, c.in_ok-queue.ensures.shows, subst AllDiffer (sym now) c.requires.opening.2.known.differ)

pub returns : goal.returns
returns g c board fuel made stand =
    opened c.alike_views_are_shown.ensures g.M.PeiStore.stands_for board c.args.catalog.now fuel c.args.pei.now c.in_ok-queue.queue c.report.new.self c.reported.result.now made stand c.in_ok-queue.ensures
    (c.reported.ensures (pei_opening board c.args.catalog.now) stand) c.report.ensures.shows c.report.ensures.cursor c.report.ensures.walked
