use Rattle.std.proofs.Common.{ap, ◌∙◌}
use Rattle.boot_model.specs.DxeChoice.{companion_group, group_scheduled, schedule_of}
use Rattle.dxe_dispatch.specs.Choosing.{IsSeenRoot}
use Rattle.dxe_dispatch.proofs.Filling.{filled_before, filled_by, group_known, has_some, on_ok, root_is}
use Rattle.dxe_dispatch.proofs.queue.DriverQueue.fill.Goals as goal

pub returns-then-not-is_empty-clause-filled : goal.returns-then-not-is_empty-clause-filled
returns-then-not-is_empty-clause-filled g c m seen =
    filled_before c.args.catalog.now m c.args.self.now seen.queue (has_some c.is_empty.result c.args.self.now.scheduled c.is_empty.ensures c.if-not-is_empty.true)

pub returns-in-Some-clause-filled : goal.returns-in-Some-clause-filled
returns-in-Some-clause-filled g c =
    let catalog = c.args.catalog.now in
    let mid = c.first_eligible.new.self in
    let root = c.in-Some.root in
    on_ok c.schedule_group_of.result
    (λ row m seen.
    let here = c.first_eligible.ensures.queue m seen.queue in
    let first = c.first_eligible.ensures.first m seen.queue ∙ c.in-Some.is in
    let is : IsSeenRoot catalog m mid c.args.order.now root = record { seen = record { queue = here; order = seen.order }; is_root = root_is catalog m root first } in
    filled_by catalog m mid c.schedule_group_of.new.self (schedule_of catalog (companion_group catalog m root)) here
    (c.first_eligible.ensures.same ∙ c.is_empty.ensures.0 c.if-not-is_empty.false)
    (ap (group_scheduled catalog m) first) (group_known catalog m root c.args.order.now mid is) (row m is))
    c.schedule_group_of.ensures.row

pub schedule_group_of-requires-clause-root : goal.schedule_group_of-requires-clause-root
schedule_group_of-requires-clause-root g c =
    let m = c.requires.seen.0 in
    let seen = c.requires.seen.1 in
    let here = c.first_eligible.ensures.queue m seen.queue in
    (m, record { seen = record { queue = here; order = seen.order }; is_root = root_is c.args.catalog.now m c.in-Some.root (c.first_eligible.ensures.first m seen.queue ∙ c.in-Some.is) })
