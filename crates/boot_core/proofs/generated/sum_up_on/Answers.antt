use Rattle.boot_model.specs.PeiRun.{pei_end}
use Rattle.boot_core.proofs.generated.sum_up_on.Goals as goal

pub boot_store-requires-clause-opening : goal.boot_store-requires-clause-opening
boot_store-requires-clause-opening g c = c.requires.opening

pub summary_of-requires : goal.summary_of-requires
summary_of-requires g c =
    let end = pei_end c.requires.opening.0 c.args.catalog.now c.args.fuel in
    let row = c.in-Ok.ensures.row c.requires.opening.0 c.requires.opening.1 in
    record { state = (end.store, row.0.left.store_is, tt) }

pub returns-in-Ok : goal.returns-in-Ok
returns-in-Ok g c = λ board here.
    let run = (c.in-Ok.ensures.row board here).0 in
    record { ended = run.end_is; lines_are = c.summary_of.ensures c.args.catalog.now (pei_end board c.args.catalog.now c.args.fuel) run.left }
