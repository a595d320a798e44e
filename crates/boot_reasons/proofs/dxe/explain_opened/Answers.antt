use Rattle.std.proofs.Common.{◌∙◌, ap, sym, subst}
use Rattle.boot_model.specs.DxeRun.{dxe_opening}
use Rattle.dxe_core.specs.Order.{Drivers, IsOrderOf}
use Rattle.dxe_dispatch.specs.{Choices.came, PassList.GetsVolumes, Queue.Discovers}
use Rattle.dxe_dispatch.proofs.ChosenWays.{opening_drivers}
use Rattle.boot_reasons.proofs.DxeSteps.{at_opening}
use Rattle.boot_reasons.proofs.dxe.explain_opened.Goals as goal

pub discover-requires-clause-new : goal.discover-requires-clause-new
discover-requires-clause-new g c =
    let catalog = c.args.catalog.now in
    let o = c.requires.opening in
    let order = subst (IsOrderOf catalog _) (sym c.order-2.ensures) o.4.core.services.order in
    let shown = c.volumes-volumes.ensures ∙ ap (λ (order : Drivers). order.volumes) c.order.ensures ∙ o.4.core.services.order.volumes_are in
    opening_drivers catalog c.args.agenda.now.queue c.order-2.result.now (dxe_opening catalog o.0 o.1) c.volumes-volumes.result.now shown c.requires.new order (c.discovered_order_has_each_once.ensures catalog c.requires.catalog.parents o.2 0 o.0 o.1).once

pub run_to_end-requires-clause-opening : goal.run_to_end-requires-clause-opening
run_to_end-requires-clause-opening g c =
    let catalog = c.args.catalog.now in
    let o = c.requires.opening in
    let shown = c.volumes-volumes.ensures ∙ ap (λ (order : Drivers). order.volumes) c.order.ensures in
    let discovers = subst (λ volumes. Discovers catalog c.args.agenda.now.queue volumes c.discover.new.self) shown c.in_ok-discover.ensures.row in
    let gets = subst (λ volumes. GetsVolumes catalog volumes c.args.agenda.now.passes c.discover-2.new.self) shown c.in_ok-discover-2.ensures in (
      o.0,
      o.1,
      o.2,
      at_opening c.dxe_opens.ensures.opens c.unrequested_drivers_wait.ensures g.M.PeiStore.stands_for c.args.store.now catalog o.2 o.0 o.1 (g.C.Choice.rules c.args.choice.now).wants_turn c.args.dxe.now c.args.agenda.now
          (record { queue = c.discover.new.self; passes = c.discover-2.new.self }) c.new-told.result c.requires.catalog o.3 o.4 c.requires.new c.requires.passes discovers gets c.new-told.ensures.begun c.new-told.ensures.givers,
    )

pub returns-in-Ok : goal.returns-in-Ok
returns-in-Ok g c = record {
  row = λ s actions fuel made is.
      let catalog = c.args.catalog.now in
      let shown = c.volumes-volumes.ensures ∙ ap (λ (order : Drivers). order.volumes) c.order.ensures in
      let discovers = subst (λ volumes. Discovers catalog c.args.agenda.now.queue volumes c.discover.new.self) shown c.in_ok-discover.ensures.row in
      let gets = subst (λ volumes. GetsVolumes catalog volumes c.args.agenda.now.passes c.discover-2.new.self) shown c.in_ok-discover-2.ensures in
      let at = at_opening c.dxe_opens.ensures.opens c.unrequested_drivers_wait.ensures g.M.PeiStore.stands_for c.args.store.now catalog fuel s actions (g.C.Choice.rules c.args.choice.now).wants_turn c.args.dxe.now c.args.agenda.now
      (record { queue = c.discover.new.self; passes = c.discover-2.new.self }) c.new-told.result c.requires.catalog made is c.requires.new c.requires.passes discovers gets c.new-told.ensures.begun c.new-told.ensures.givers in
      let row = rw c.in-Ok-End.field-0-is at (c.in-Ok-End.ensures.row s actions fuel at) in
      let run = row.1 in
      record {
        earlier = row.0;
        run = run.run;
        explained = c.in-Ok.ensures row.0 (came catalog fuel (dxe_opening catalog s actions) row.0) run.ended run.stands_at_end run.is_told;
      };
}

pub returns-in-Ok-Barred : goal.returns-in-Ok-Barred
returns-in-Ok-Barred g c = record {
  row = λ s actions fuel made is.
      let catalog = c.args.catalog.now in
      let shown = c.volumes-volumes.ensures ∙ ap (λ (order : Drivers). order.volumes) c.order.ensures in
      let discovers = subst (λ volumes. Discovers catalog c.args.agenda.now.queue volumes c.discover.new.self) shown c.in_ok-discover.ensures.row in
      let gets = subst (λ volumes. GetsVolumes catalog volumes c.args.agenda.now.passes c.discover-2.new.self) shown c.in_ok-discover-2.ensures in
      let at = at_opening c.dxe_opens.ensures.opens c.unrequested_drivers_wait.ensures g.M.PeiStore.stands_for c.args.store.now catalog fuel s actions (g.C.Choice.rules c.args.choice.now).wants_turn c.args.dxe.now c.args.agenda.now
      (record { queue = c.discover.new.self; passes = c.discover-2.new.self }) c.new-told.result c.requires.catalog made is c.requires.new c.requires.passes discovers gets c.new-told.ensures.begun c.new-told.ensures.givers in
      rw c.in-Ok-Barred.field-0-is at (c.in-Ok-Barred.ensures.row s actions fuel at);
}
