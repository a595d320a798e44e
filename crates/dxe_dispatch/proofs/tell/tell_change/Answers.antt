use Rattle.std.proofs.Common.{ap, ◌∙◌, subst, sym}
use Rattle.store_model.specs.HandleState.{has_protocol}
use Rattle.dxe_dispatch.specs.Events.{OwesForChange, TellsChange}
use Rattle.dxe_dispatch.proofs.Told.{has_protocol_now, none_changed, one_asked}
use Rattle.dxe_dispatch.proofs.tell.tell_change.Goals as goal

pub returns-in-Some-clause-row : goal.returns-in-Some-clause-row
returns-in-Some-clause-row c catalog made =
    let guid = c.in-Some.guid in
    let there = c.has.ensures ∙ ap (λ h. has_protocol h guid) c.handles.ensures in
    subst (λ changed. TellsChange catalog c.args.dxe.now c.args.queue.now changed c.change.new.self) (sym c.in-Some.is)
    (λ m new is has. c.change.ensures.row catalog made m new is (has_protocol_now c.args.dxe.now.services.handles guid c.has.result m new there has))

pub returns-in-Some-clause-owes : goal.returns-in-Some-clause-owes
returns-in-Some-clause-owes c catalog made =
    subst (λ changed. OwesForChange catalog c.args.queue.now changed c.change.new.self) (sym c.in-Some.is)
    (λ m is. one_asked catalog m c.in-Some.guid _ _ (c.change.ensures.owes catalog made m is))

pub returns-in_default-clause-row : goal.returns-in_default-clause-row
returns-in_default-clause-row c catalog made =
    subst (λ changed. TellsChange catalog c.args.dxe.now c.args.queue.now changed c.args.queue.now) (sym c.in_default.is)
    (λ m new is has. none_changed catalog c.args.queue.now c.args.dxe.now.services.handles m new is has)
