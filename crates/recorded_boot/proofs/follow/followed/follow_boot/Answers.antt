use Rattle.std.proofs.{Common.refl, lemmas.Result.err_from_is_err_and}
use Rattle.boot_laws.specs.Naming.{Chooser}
use Rattle.boot_core.specs.Choices.{choices_of}
use Rattle.recorded_boot.specs.ByOrder.{order_rules}
use Rattle.recorded_boot.proofs.Calls.{NamesAlike, by_order, follows, stands_there}
use Rattle.recorded_boot.proofs.PeiOrder.{OrderBoot}
use Rattle.recorded_boot.proofs.follow.followed.follow_boot.Goals as goal

pub boot_by_choice-requires-clause-opening : goal.boot_by_choice-requires-clause-opening
boot_by_choice-requires-clause-opening g c = c.requires.opening

pub returns-clause-row : goal.returns-clause-row
returns-clause-row g c = λ board here.
    let T = g.S.Sink.text in
    let F = g.S.Sink.faults in
    let by = c.args.by.now in
    let order = by.order.now in
    let names = by.names.now.volumes.items in
    let sink = c.args.sink.now in
    let b : OrderBoot = record { board = board; catalog = by.catalog.now; fuel = c.args.fuel; order = order; well = c.requires.catalog; apart = c.requires.apart; few = c.requires.order } in
    let chooser : Chooser g.row.S.Denot = record { rules = order_rules by.catalog.now names order; text = T; faults = F } in
    let choices = choices_of chooser by.catalog.now c.args.fuel sink in
    let alike : NamesAlike b choices.peims choices.drivers choices.lets_driver = record { in_pei = λ m named may. may.is c.requires.names; in_dxe = λ pei earlier named may. may.is c.requires.names; lets = λ pei earlier m number. refl } in
    follows b choices.peims choices.drivers choices.lets_driver g.M.PeiStore.stands_for c.in_ok-booted.booted (record { old = T sink; new = T c.boot_by_choice.new.sink }) c.in_ok-followed.field-0 alike (c.in_ok-booted.ensures.row board here).by c.in_ok-followed.ensures

pub leave-followed-requires-clause-state : goal.leave-followed-requires-clause-state
leave-followed-requires-clause-state g c =
    let T = g.S.Sink.text in
    let board = c.requires.opening.0 in
    let b : OrderBoot = record { board = board; catalog = c.args.by.now.catalog.now; fuel = c.args.fuel; order = c.args.by.now.order.now; well = c.requires.catalog; apart = c.requires.apart; few = c.requires.order } in
    stands_there _ g.M.PeiStore.stands_for b (T c.args.sink.now) (T c.boot_by_choice.new.sink) c.in_ok-booted.booted (c.in_ok-booted.ensures.row board c.requires.opening.1).by

pub returns-in_err-booted-clause-row : goal.returns-in_err-booted-clause-row
returns-in_err-booted-clause-row g c board here = rw (err_from_is_err_and c.from_residual.result c.from_residual.ensures.1).1 tt

pub returns-in_err-followed-clause-row : goal.returns-in_err-followed-clause-row
returns-in_err-followed-clause-row g c board here = rw (err_from_is_err_and c.from_residual-in_err-followed.result c.from_residual-in_err-followed.ensures.1).1 tt
