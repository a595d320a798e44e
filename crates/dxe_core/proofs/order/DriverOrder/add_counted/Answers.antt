use Rattle.std.proofs.Common.{◌≡◌, ◌++◌, Some, length, sym, subst, ap, ◌∙◌}
use Rattle.mod_catalog.specs.declared.limits.TheConstants.{MOST_MODULES}
use Rattle.boot_model.specs.{DxeChoice.drivers_of, Reporting.newcomers}
use Rattle.dxe_core.specs.{Names.order_by, Order.IsOrderOf}
use Rattle.dxe_core.proofs.OrderMore.{new_part, room_more, order_more}
use Rattle.dxe_core.proofs.order.DriverOrder.add_counted.Goals as goal

pub push_drivers-requires-clause-room : goal.push_drivers-requires-clause-room
push_drivers-requires-clause-room c =
    let catalog = c.args.catalog.now in
    let inside = c.self.inside in
    let more = newcomers catalog inside.volumes (Some c.args.volume) in
    let old = c.requires.order.0 in
    let before = subst (IsOrderOf catalog old) (sym c.self.view_is) c.requires.order.1 in
    let new = new_part c.as_slice.result.now c.as_slice-known.result.now inside.volumes more (c.as_slice.ensures ∙ c.add.ensures.added) c.as_slice-known.ensures in
    room_more catalog inside.volumes more _ c.add.new.self inside.drivers MOST_MODULES c.requires.catalog.few_modules c.add.ensures.known c.add.ensures.added new
    (before.drivers_are ∙ ap (drivers_of catalog) (sym before.volumes_are))

pub returns-clause-grows : goal.returns-clause-grows
returns-clause-grows c volumes is =
    let catalog = c.args.catalog.now in
    let inside = c.self.inside in
    let more = newcomers catalog inside.volumes (Some c.args.volume) in
    let new = new_part c.as_slice.result.now c.as_slice-known.result.now inside.volumes more (c.as_slice.ensures ∙ c.add.ensures.added) c.as_slice-known.ensures in
    let grown = c.push_drivers.ensures ∙ ap (λ volumes. inside.drivers ++ drivers_of catalog volumes) new in
    let numbers = new_part c.as_slice-2.result.now c.as_slice-ordered.result.now inside.drivers (drivers_of catalog more) (c.as_slice-2.ensures ∙ grown) c.as_slice-ordered.ensures in
    let before = subst (IsOrderOf catalog volumes) (sym c.self.view_is) is in
    let same : inside.volumes ≡ volumes = before.volumes_are in
    subst (λ known. IsOrderOf catalog (known ++ newcomers catalog known (Some c.args.volume)) (order_by c.add.new.self c.push_drivers.new.drivers c.push_all.new.self)) same
    (order_more catalog inside.volumes more inside.volumes c.add.new.self inside.drivers c.push_drivers.new.drivers _ inside.names c.push_all.new.self c.add.ensures.known c.add.ensures.added grown numbers c.in_ok-push_all.ensures
    (subst (λ known. IsOrderOf catalog known (order_by inside.volumes inside.drivers inside.names)) (sym same) before))

pub returns-clause-count : goal.returns-clause-count
returns-clause-count c volumes is =
    let catalog = c.args.catalog.now in
    let inside = c.self.inside in
    let more = newcomers catalog inside.volumes (Some c.args.volume) in
    let new = new_part c.as_slice.result.now c.as_slice-known.result.now inside.volumes more (c.as_slice.ensures ∙ c.add.ensures.added) c.as_slice-known.ensures in
    let before = subst (IsOrderOf catalog volumes) (sym c.self.view_is) is in
    ap length new ∙ ap (λ known. length (newcomers catalog known (Some c.args.volume))) before.volumes_are
