use Rattle.std.proofs.lemmas.Result.{err_from_is_err_and}
use Rattle.boot_reasons.proofs.pei_turn.start_told.Goals as goal

pub start-requires-clause-made : goal.start-requires-clause-made
start-requires-clause-made g c = c.requires.made

pub start-requires-clause-state : goal.start-requires-clause-state
start-requires-clause-state g c = c.requires.state

pub tell_start-requires : goal.tell_start-requires
tell_start-requires g c = record { state = (c.requires.state.0, c.requires.state.1.now.machine) }

pub returns-in_err-tell_start-clause-row : goal.returns-in_err-tell_start-clause-row
returns-in_err-tell_start-clause-row g c m chosen =
    let p = err_from_is_err_and c.from_residual.result c.from_residual.ensures.1 in
    rw p.1 (tt)

pub returns-in_err-tell_start-clause-made : goal.returns-in_err-tell_start-clause-made
returns-in_err-tell_start-clause-made g c fuel made = made

pub returns-in-Ok-clause-row : goal.returns-in-Ok-clause-row
returns-in-Ok-clause-row g c m chosen =
    let told = c.in_ok-tell_start.ensures in
    record { now = (c.in-Ok.ensures.row m chosen).now; begun = told.begun m chosen.now.machine; givers = told.givers; moved = told.moved }

pub returns-in-Ok-clause-made : goal.returns-in-Ok-clause-made
returns-in-Ok-clause-made g c = c.in-Ok.ensures.made

pub returns-in-Err-clause-made : goal.returns-in-Err-clause-made
returns-in-Err-clause-made g c = c.in-Err.ensures.made
