use Rattle.boot_trace.specs.Printing.{Texts}
use Rattle.recorded_boot.proofs.Passing.{TurnBoot, not_in_pei, passes_to, stands_there}
use Rattle.recorded_boot.proofs.passes.pass_boot.Goals as goal

pub boot_by_choice-requires-clause-opening : goal.boot_by_choice-requires-clause-opening
boot_by_choice-requires-clause-opening g c = c.requires.opening

pub leave-passed-requires-clause-state : goal.leave-passed-requires-clause-state
leave-passed-requires-clause-state g c =
    let T = g.S.Sink.text in
    let sink = c.args.sink.now in
    let board = c.requires.opening.0 in
    let b : TurnBoot g.row.S.Denot = record { text = T; faults = g.S.Sink.faults; first = sink; board = board; catalog = c.args.catalog.now; fuel = c.args.fuel } in
    let t : Texts = record { old = T sink; new = T c.boot_by_choice.new.sink } in
    stands_there b g.M.PeiStore.stands_for c.in_ok-booted.booted t (c.in_ok-booted.ensures.row board c.requires.opening.1).by

pub leave-passed-requires-clause-in_dxe : goal.leave-passed-requires-clause-in_dxe
leave-passed-requires-clause-in_dxe g c =
    let T = g.S.Sink.text in
    let sink = c.args.sink.now in
    let board = c.requires.opening.0 in
    let b : TurnBoot g.row.S.Denot = record { text = T; faults = g.S.Sink.faults; first = sink; board = board; catalog = c.args.catalog.now; fuel = c.args.fuel } in
    let t : Texts = record { old = T sink; new = T c.boot_by_choice.new.sink } in
    not_in_pei b g.M.PeiStore.stands_for c.in_ok-booted.booted t c.cursor_aims.ensures.aims (c.in_ok-booted.ensures.row board c.requires.opening.1).by

pub returns-clause-row : goal.returns-clause-row
returns-clause-row g c = λ board here.
    let T = g.S.Sink.text in
    let sink = c.args.sink.now in
    let b : TurnBoot g.row.S.Denot = record { text = T; faults = g.S.Sink.faults; first = sink; board = board; catalog = c.args.catalog.now; fuel = c.args.fuel } in
    let t : Texts = record { old = T sink; new = T c.boot_by_choice.new.sink } in
    passes_to b g.M.PeiStore.stands_for c.in_ok-booted.booted t c.in_ok-passed.field-0 (c.choices_are_free.ensures c.args.catalog.now c.args.fuel sink) (c.in_ok-booted.ensures.row board here).by c.in_ok-passed.ensures
