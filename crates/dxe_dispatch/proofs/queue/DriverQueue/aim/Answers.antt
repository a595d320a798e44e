use Rattle.std.proofs.Common.{◌∙◌}
use Rattle.dxe_dispatch.specs.Choosing.{IsSeenRoot}
use Rattle.dxe_dispatch.proofs.Filling.{aimed_at, aimed_before, aimed_past, group_known, has_some, may_be_root, on_ok}
use Rattle.dxe_dispatch.proofs.queue.DriverQueue.aim.Goals as goal

pub returns-then-not-is_empty-clause-row : goal.returns-then-not-is_empty-clause-row
returns-then-not-is_empty-clause-row g c m seen =
    aimed_before c.args.catalog.now m c.args.self.now c.args.root seen.queue (has_some c.is_empty.result c.args.self.now.scheduled c.is_empty.ensures c.if-not-is_empty.true)

pub schedule_group_of-requires-clause-root : goal.schedule_group_of-requires-clause-root
schedule_group_of-requires-clause-root g c =
    let m = c.requires.seen.0 in
    let seen = c.requires.seen.1 in
    let may = c.may_be_next.ensures.may m seen.queue ∙ c.if-may_be_next.true in
    (m, record { seen = record { queue = c.may_be_next.ensures.queue m seen.queue; order = seen.order }; is_root = may_be_root c.args.catalog.now m c.args.root may })

pub returns-then-may_be_next-clause-row : goal.returns-then-may_be_next-clause-row
returns-then-may_be_next-clause-row g c =
    let catalog = c.args.catalog.now in
    let mid = c.may_be_next.new.self in
    let root = c.args.root in
    on_ok c.schedule_group_of.result
    (λ row m seen.
    let here = c.may_be_next.ensures.queue m seen.queue in
    let may = c.may_be_next.ensures.may m seen.queue ∙ c.if-may_be_next.true in
    let is : IsSeenRoot catalog m mid c.args.order.now root = record { seen = record { queue = here; order = seen.order }; is_root = may_be_root catalog m root may } in
    aimed_at catalog m mid c.schedule_group_of.new.self root here
    (c.may_be_next.ensures.same ∙ c.is_empty.ensures.0 c.if-not-is_empty.false) may (group_known catalog m root c.args.order.now mid is) (row m is))
    c.schedule_group_of.ensures.row

pub returns-else-may_be_next-clause-row : goal.returns-else-may_be_next-clause-row
returns-else-may_be_next-clause-row g c m seen =
    aimed_past c.args.catalog.now m c.may_be_next.new.self c.args.root (c.may_be_next.ensures.queue m seen.queue) (c.may_be_next.ensures.may m seen.queue ∙ c.if-may_be_next.false)
