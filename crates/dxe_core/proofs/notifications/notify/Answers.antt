use Rattle.std.proofs.Common.{subst, Ok}
use Rattle.act_code.specs.declared.action.Action.TheVariants as A
use Rattle.dxe_core.specs.{Answered.Serves, Services.Services}
use Rattle.dxe_core.proofs.Handling.{notifies, with_notes}
use Rattle.dxe_core.proofs.notifications.notify.Goals as goal

pub returns-clause-row : goal.returns-clause-row
returns-clause-row c = λ catalog.
    let frame = c.args.frame.now in
    let guid = c.args.guid.now in
    let inside = c.services.inside in
    let old : Services = record { handles = inside.handles; notes = inside.notes; order = inside.order; requested = inside.requested } in
    subst (λ s. Serves catalog s frame (A.DxeNotify guid c.args.block) (Ok c.told.result) (with_notes old c.push.new.self)) c.services.view_is
    (λ m has. notifies catalog m frame guid c.args.block old c.push.new.self c.told.result has c.in_ok-push.ensures.ok c.told.ensures)
