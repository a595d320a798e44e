use Rattle.std.proofs.Common.{◌∙◌, ap, reverse, subst}
use Rattle.boot_model.specs.DxeChoice.{schedule_of}
use Rattle.dxe_dispatch.specs.{Choosing.Schedules, Queue.Queue}
use Rattle.dxe_dispatch.proofs.Filling.{found_group, group_drivers, group_flags, on_ok}
use Rattle.dxe_dispatch.proofs.Scheduling.{still_for}
use Rattle.dxe_dispatch.proofs.queue.DriverQueue.schedule_group_of.Goals as goal

pub schedule_group-requires : goal.schedule_group-requires
schedule_group-requires c =
    let m = c.requires.root.0 in
    let flags = c.as_slice.ensures ∙ ap (λ (q : Queue). q.waits) c.self.view_is in
    let found = found_group c.args.catalog.now m c.args.self.now c.args.order.now c.as_slice.result.now c.args.root c.in_ok-group.group c.requires.root.1 flags c.in_ok-group.ensures in
    record { numbers = group_flags c.args.catalog.now m c.args.self.now c.args.root c.in_ok-group.group found c.requires.made.flags }

pub returns-clause-row : goal.returns-clause-row
returns-clause-row c =
    let catalog = c.args.catalog.now in
    let flags = c.as_slice.ensures ∙ ap (λ (q : Queue). q.waits) c.self.view_is in
    on_ok c.schedule_group.result
    (λ scheduled m is.
    let found = found_group catalog m c.args.self.now c.args.order.now c.as_slice.result.now c.args.root c.in_ok-group.group is flags c.in_ok-group.ensures in
    subst (λ xs. Schedules c.args.self.now (schedule_of catalog xs) c.schedule_group.new.self) found.group scheduled)
    c.schedule_group.ensures

pub returns-clause-made : goal.returns-clause-made
returns-clause-made c =
    let catalog = c.args.catalog.now in
    let m = c.requires.root.0 in
    let flags = c.as_slice.ensures ∙ ap (λ (q : Queue). q.waits) c.self.view_is in
    let found = found_group catalog m c.args.self.now c.args.order.now c.as_slice.result.now c.args.root c.in_ok-group.group c.requires.root.1 flags c.in_ok-group.ensures in
    on_ok c.schedule_group.result
    (still_for catalog c.args.self.now c.schedule_group.new.self (schedule_of catalog (reverse c.in_ok-group.group)) c.requires.made (group_drivers catalog m c.args.root c.in_ok-group.group found))
    c.schedule_group.ensures
