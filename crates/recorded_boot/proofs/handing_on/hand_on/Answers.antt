use Rattle.std.proofs.Common.{None}
use Rattle.recorded_boot.proofs.Passing.{all_hands_on, not_in_pei, stands_there}
use Rattle.recorded_boot.proofs.handing_on.hand_on.Goals as goal

pub boot_by_choice-requires-clause-opening : goal.boot_by_choice-requires-clause-opening
boot_by_choice-requires-clause-opening g c = c.requires.opening

pub handed_in-handed-requires-clause-state : goal.handed_in-handed-requires-clause-state
handed_in-handed-requires-clause-state g c =
    let board = c.requires.opening.0 in
    stands_there (record { text = λ s. None; faults = λ s. 0; first = _; board = board; catalog = c.args.catalog.now; fuel = c.args.fuel }) g.M.PeiStore.stands_for c.in-Ok.booted (record { old = None; new = None }) (c.in-Ok.ensures.row board c.requires.opening.1).by

pub handed_in-handed-requires-clause-behind_pei : goal.handed_in-handed-requires-clause-behind_pei
handed_in-handed-requires-clause-behind_pei g c =
    let board = c.requires.opening.0 in
    not_in_pei (record { text = λ s. None; faults = λ s. 0; first = _; board = board; catalog = c.args.catalog.now; fuel = c.args.fuel }) g.M.PeiStore.stands_for c.in-Ok.booted (record { old = None; new = None }) c.cursor_aims.ensures.aims (c.in-Ok.ensures.row board c.requires.opening.1).by

pub returns-in-Ok : goal.returns-in-Ok
returns-in-Ok g c = λ board here.
    all_hands_on (record { text = λ s. None; faults = λ s. 0; first = _; board = board; catalog = c.args.catalog.now; fuel = c.args.fuel }) g.M.PeiStore.stands_for c.in-Ok.booted (record { old = None; new = None }) c.handed_in-handed.result (c.in-Ok.ensures.row board here).by c.handed_in-handed.ensures
