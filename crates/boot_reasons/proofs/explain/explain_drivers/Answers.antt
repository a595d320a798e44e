use Rattle.std.proofs.Common.{subst}
use Rattle.boot_reasons.proofs.Phases.{Drives, Hands, barred_behind, both_phases}
use Rattle.boot_reasons.proofs.explain.explain_drivers.Goals as goal

pub returns-in-Ok : goal.returns-in-Ok
returns-in-Ok g c =
    let rules = g.C.Choice.rules c.args.choice.now in
    let stands = g.M.PeiStore.stands_for in
    let catalog = c.args.catalog.now in
    let hands : Hands stands c.args.pei.now c.store.result.now c.actions.result c.starts.result = record { store_is = c.store.ensures; taken_is = c.actions.ensures; starts_are = c.starts.ensures } in
    let drives = subst (Drives rules stands c.store.result.now catalog c.args.fuel c.actions.result c.starts.result) c.in-Ok-End.field-0-is c.in-Ok-End.ensures in
    both_phases rules stands catalog c.args.fuel c.args.pei.now c.store.result.now c.actions.result c.starts.result c.args.explained c.in-Ok-End.drivers c.in-Ok.all hands c.requires.handed drives c.in-Ok.ensures

pub returns-in-Ok-Barred : goal.returns-in-Ok-Barred
returns-in-Ok-Barred g c =
    let rules = g.C.Choice.rules c.args.choice.now in
    let stands = g.M.PeiStore.stands_for in
    let catalog = c.args.catalog.now in
    let hands : Hands stands c.args.pei.now c.store.result.now c.actions.result c.starts.result = record { store_is = c.store.ensures; taken_is = c.actions.ensures; starts_are = c.starts.ensures } in
    let drives = subst (Drives rules stands c.store.result.now catalog c.args.fuel c.actions.result c.starts.result) c.in-Ok-Barred.field-0-is c.in-Ok-Barred.ensures in
    barred_behind rules stands catalog c.args.fuel c.args.pei.now c.store.result.now c.actions.result c.starts.result c.args.explained c.in-Ok-Barred.number hands c.requires.handed drives
