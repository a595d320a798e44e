use Rattle.std.proofs.Common.{ap, sym, subst, ◌∙◌, Ok}
use Rattle.dxe_core.specs.{Answered.ProcessesVolume, Answered.did, Event.discovers, Order.IsOrderOf, Services.Services}
use Rattle.dxe_core.proofs.Discovered.{known_volume, new_volume, with_order}
use Rattle.dxe_core.proofs.process.discover.Goals as goal

pub add_counted-requires-clause-order : goal.add_counted-requires-clause-order
add_counted-requires-clause-order c =
    (c.requires.order.0, subst (λ (services : Services). IsOrderOf c.args.catalog.now c.requires.order.0 services.order) (sym c.services.view_is) c.requires.order.1)

pub returns-clause-row : goal.returns-clause-row
returns-clause-row c =
    let catalog = c.args.catalog.now in
    let inside = c.services.inside in
    let old : Services = record { handles = inside.handles; notes = inside.notes; order = inside.order; requested = inside.requested } in
    subst (λ s. ProcessesVolume catalog s c.args.volume (Ok c.did.result) (with_order old c.add_counted.new.self)) c.services.view_is
    (λ m frame v base has number mapped. new_volume catalog m frame v base c.args.volume old c.add_counted.new.self c.in_ok-count.count c.did.result has number mapped
    (sym c.has_volume.ensures ∙ c.if-has_volume.false) c.in_ok-count.ensures.grows c.in_ok-count.ensures.count
    (c.did.ensures ∙ ap (λ event. did event c.told.result) c.discovers.ensures ∙ ap (did (discovers c.in_ok-count.count)) c.told.ensures))

pub returns-then-has_volume-clause-row : goal.returns-then-has_volume-clause-row
returns-then-has_volume-clause-row c =
    let catalog = c.args.catalog.now in
    let inside = c.services.inside in
    let old : Services = record { handles = inside.handles; notes = inside.notes; order = inside.order; requested = inside.requested } in
    subst (λ s. ProcessesVolume catalog s c.args.volume (Ok c.refusal.result) s) c.services.view_is
    (λ m frame v base has number mapped. known_volume catalog m frame v base c.args.volume old c.refusal.result has number mapped (sym c.has_volume.ensures ∙ c.if-has_volume.true) c.refusal.ensures)
