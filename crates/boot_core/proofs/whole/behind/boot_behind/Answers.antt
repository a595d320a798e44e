use Rattle.std.proofs.Common.{None, ap, refl}
use Rattle.boot_model.specs.declared.line.RunEnd.TheVariants as E
use Rattle.boot_model.specs.declared.phase_end.PeiEnd.TheVariants as M
use Rattle.store_model.specs.HandleState.{no_handles}
use Rattle.boot_core.proofs.BehindPei.{closes}
use Rattle.boot_core.proofs.whole.behind.boot_behind.Goals as goal

pub boot_drivers-requires-clause-state : goal.boot_drivers-requires-clause-state
boot_drivers-requires-clause-state g c = c.requires.state

pub close_pei-requires : goal.close_pei-requires
close_pei-requires g c = record { state = c.requires.state }

pub close_pei-requires-in-NoIpl : goal.close_pei-requires-in-NoIpl
close_pei-requires-in-NoIpl g c = record { state = c.requires.state }

pub close_pei-requires-in-Spent : goal.close_pei-requires-in-Spent
close_pei-requires-in-Spent g c = record { state = c.requires.state }

pub close_pei-requires-in-Deep : goal.close_pei-requires-in-Deep
close_pei-requires-in-Deep g c = record { state = c.requires.state }

pub returns-in-Handoff-clause-row : goal.returns-in-Handoff-clause-row
returns-in-Handoff-clause-row g c = λ pei first left has. rw c.in-Handoff.is (c.boot_drivers.ensures.row pei first left has)

pub returns-in-NoMemory-clause-row : goal.returns-in-NoMemory-clause-row
returns-in-NoMemory-clause-row g c = λ pei first left has.
    rw c.in-NoMemory.is (closes _ _ pei M.NoMemory first c.args.sink.now pei.lines (record { «end» = E.NoMemory; handles = no_handles; before = record { starts = c.args.pei.now.starts; turn = None } }) c.close_pei.result (record { lines_are = refl; handles_are = refl; end_is = refl }) (ap (λ n. record { starts = n; turn = None }) left.starts_are) tt has (c.close_pei.ensures.row pei.store left.store_is tt))

pub returns-in-NoIpl-clause-row : goal.returns-in-NoIpl-clause-row
returns-in-NoIpl-clause-row g c = λ pei first left has.
    rw c.in-NoIpl.is (closes _ _ pei M.NoIpl first c.args.sink.now pei.lines (record { «end» = E.NoIpl; handles = no_handles; before = record { starts = c.args.pei.now.starts; turn = None } }) c.close_pei-in-NoIpl.result (record { lines_are = refl; handles_are = refl; end_is = refl }) (ap (λ n. record { starts = n; turn = None }) left.starts_are) tt has (c.close_pei-in-NoIpl.ensures.row pei.store left.store_is tt))

pub returns-in-Spent-clause-row : goal.returns-in-Spent-clause-row
returns-in-Spent-clause-row g c = λ pei first left has.
    rw c.in-Spent.is (closes _ _ pei M.Spent first c.args.sink.now pei.lines (record { «end» = E.Spent; handles = no_handles; before = record { starts = c.args.pei.now.starts; turn = None } }) c.close_pei-in-Spent.result (record { lines_are = refl; handles_are = refl; end_is = refl }) (ap (λ n. record { starts = n; turn = None }) left.starts_are) tt has (c.close_pei-in-Spent.ensures.row pei.store left.store_is tt))

pub returns-in-Deep-clause-row : goal.returns-in-Deep-clause-row
returns-in-Deep-clause-row g c = λ pei first left has.
    rw c.in-Deep.is (closes _ _ pei M.Deep first c.args.sink.now pei.lines (record { «end» = E.Deep; handles = no_handles; before = record { starts = c.args.pei.now.starts; turn = None } }) c.close_pei-in-Deep.result (record { lines_are = refl; handles_are = refl; end_is = refl }) (ap (λ n. record { starts = n; turn = None }) left.starts_are) tt has (c.close_pei-in-Deep.ensures.row pei.store left.store_is tt))
