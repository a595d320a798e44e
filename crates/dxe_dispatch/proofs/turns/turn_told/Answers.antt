use Rattle.std.proofs.Common.{◌+◌, ℕ, Bool, Option}
use Rattle.std.proofs.lemmas.Result.{err_from_is_err_and}
use Rattle.boot_model.specs.DxeMachine.{DxeMachine}
use Rattle.dxe_dispatch.specs.{Queue.owed, Ends.IsNow, Choices.NamesDriver, Choices.aimed_at, Turns.AreKeptFor, Turns.IsLeft}
use Rattle.dxe_dispatch.proofs.Chosen.{StepLaws, aim_by, has_aimed, not_aimed, turned_by, within_less}
use Rattle.dxe_dispatch.proofs.Turning.{on_ok}
use Rattle.dxe_dispatch.proofs.turns.turn_told.Goals as goal

pub aim-requires-clause-state : goal.aim-requires-clause-state
aim-requires-clause-state g c = let on = c.requires.state.3 in (c.requires.state.0, record { core = on.now.machine.core; queue = on.now.queue })

pub turn-requires-clause-state : goal.turn-requires-clause-state
turn-requires-clause-state g c =
    let laws : StepLaws = record { nearer = c.dxe_opens.ensures.nearer; own = c.dxe_goes_on.ensures.own; first = c.dxe_chooses_by_groups.ensures; groups = c.groups_are_aimed.ensures } in
    let catalog = c.args.catalog.now in
    let queue = c.args.agenda.now.queue in
    let m = c.requires.state.0 in
    let fuel = c.requires.state.1 in
    let on = c.requires.state.3 in
    let are : AreKeptFor catalog c.args.dxe.now queue m = record { core = on.now.machine.core; queue = on.now.queue } in
    let names : Option ℕ → Type 0 = (g.C.Choice.rules c.args.choice.now).drivers c.args.sink.now c.args.before in
    let Names : DxeMachine → Option ℕ → Type 0 = λ m named. names named in
    let by = aim_by Names names catalog c.args.dxe.now queue m c.named-driver.result (c.named-driver.ensures catalog) are (λ may. may) in
    let aimed = has_aimed laws Names g.M.PeiStore.stands_for c.args.store.now catalog fuel c.args.dxe.now queue c.aim.new.queue m (aimed_at catalog m c.named-driver.result) c.requires.catalog on by (c.in_ok-aim.ensures.row m are) in
    (aimed.target, fuel, c.requires.state.2, aimed.ready)

pub returns-in_err-aim-clause-row : goal.returns-in_err-aim-clause-row
returns-in_err-aim-clause-row g c m fuel first made on has =
    let T = g.S.Sink.text in
    let catalog = c.args.catalog.now in
    let queue = c.args.agenda.now.queue in
    let rules = g.C.Choice.rules c.args.choice.now in
    let Names = NamesDriver (record { rules = rules; text = T; faults = g.S.Sink.faults }) c.args.before first in
    let Lets : DxeMachine → ℕ → Bool = λ m number. rules.lets_in_dxe c.args.before number in
    let are : AreKeptFor catalog c.args.dxe.now queue m = record { core = on.now.machine.core; queue = on.now.queue } in
    let names : Option ℕ → Type 0 = rules.drivers c.args.sink.now c.args.before in
    let by = aim_by Names names catalog c.args.dxe.now queue m c.named-driver.result (c.named-driver.ensures catalog) are (λ may. record { sink = c.args.sink.now; has = has; is = may }) in
    let p = err_from_is_err_and c.from_residual.result c.from_residual.ensures.1 in
    let stands = g.M.PeiStore.stands_for in
    rw p.1 (not_aimed Names Lets (IsNow stands c.args.store.now catalog c.args.dxe.now c.aim.new.queue) (IsLeft stands c.args.store.now catalog c.args.dxe.now c.aim.new.queue) catalog fuel m (aimed_at catalog m c.named-driver.result) (T c.args.sink.now) _ _ _ by)

pub returns-clause-row : goal.returns-clause-row
returns-clause-row g c m fuel first made on has =
    let laws : StepLaws = record { nearer = c.dxe_opens.ensures.nearer; own = c.dxe_goes_on.ensures.own; first = c.dxe_chooses_by_groups.ensures; groups = c.groups_are_aimed.ensures } in
    let T = g.S.Sink.text in
    let catalog = c.args.catalog.now in
    let queue = c.args.agenda.now.queue in
    let stands = g.M.PeiStore.stands_for in
    let rules = g.C.Choice.rules c.args.choice.now in
    let Names = NamesDriver (record { rules = rules; text = T; faults = g.S.Sink.faults }) c.args.before first in
    let Lets : DxeMachine → ℕ → Bool = λ m number. rules.lets_in_dxe c.args.before number in
    let are : AreKeptFor catalog c.args.dxe.now queue m = record { core = on.now.machine.core; queue = on.now.queue } in
    let names : Option ℕ → Type 0 = rules.drivers c.args.sink.now c.args.before in
    let by = aim_by Names names catalog c.args.dxe.now queue m c.named-driver.result (c.named-driver.ensures catalog) are (λ may. record { sink = c.args.sink.now; has = has; is = may }) in
    let aimed = has_aimed laws Names stands c.args.store.now catalog fuel c.args.dxe.now queue c.aim.new.queue m (aimed_at catalog m c.named-driver.result) c.requires.catalog on by (c.in_ok-aim.ensures.row m are) in
    let few = on_ok c.turn.result (λ owes. within_less catalog fuel aimed.target (c.args.steps.now + owed queue) _ _ c.in_ok-aim.ensures.owes (owes aimed.target fuel made aimed.ready)) c.turn.ensures.owes in
    turned_by Names Lets stands c.args.store.now catalog fuel c.args.dxe.now c.turn.new.dxe c.aim.new.queue c.turn.new.queue m (record { old = T c.args.sink.now; new = T c.turn.new.sink }) (c.args.steps.now + owed queue) _ c.turn.result aimed
    (c.turn.ensures.row aimed.target fuel made aimed.ready) few

pub returns-clause-made : goal.returns-clause-made
returns-clause-made g c = c.turn.ensures.made

pub returns-clause-queue : goal.returns-clause-queue
returns-clause-queue g c = c.turn.ensures.queue

pub returns-clause-faults : goal.returns-clause-faults
returns-clause-faults g c = c.turn.ensures.faults
