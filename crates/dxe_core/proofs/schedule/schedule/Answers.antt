use Rattle.std.proofs.Common.{◌≡◌, ◌<◌, ◌∙◌, ap, sym, subst, length, Some}
use Rattle.dxe_core.specs.{Answered.did, Event.requests, Order.asking_of, Requests.ServesRequest, Requests.first_down, Services.Services}
use Rattle.act_code.specs.declared.action.Action.TheVariants as A
use Rattle.dxe_core.proofs.Requested.{named, none_named, with_flag}
use Rattle.dxe_core.proofs.schedule.schedule.Goals as goal

pub returns-in-None-clause-row : goal.returns-in-None-clause-row
returns-in-None-clause-row c = λ frame m has waits. none_named c.args.catalog.now m frame c.args.services.now c.args.name.now c.refusal.result has waits c.in-None.ensures.first c.refusal.ensures

pub returns-in-Some-clause-row : goal.returns-in-Some-clause-row
returns-in-Some-clause-row c = λ frame.
    let catalog = c.args.catalog.now in
    let name = c.args.name.now in
    let number = c.in-Some.number in
    let inside = c.services.inside in
    let old : Services = record { handles = inside.handles; notes = inside.notes; order = inside.order; requested = inside.requested } in
    let within : number < length c.args.services.now.requested = subst (λ n. number < n) (sym c.requires.flags) c.in-Some.ensures.within in
    subst (λ requested. ServesRequest catalog c.args.services.now frame (A.Schedule name) c.did.result (record old { requested = requested })) (sym c.set.ensures)
    (subst (λ s. number < length s.requested → Some number ≡ first_down catalog s.requested (asking_of s.order name) → ServesRequest catalog s frame (A.Schedule name) c.did.result (with_flag old number)) c.services.view_is
    (λ few first m has waits. named catalog m frame old name number c.did.result has waits few first (c.did.ensures ∙ ap (λ event. did event c.told.result) c.requests.ensures ∙ ap (did (requests number)) c.told.ensures)) within c.in-Some.ensures.first)
