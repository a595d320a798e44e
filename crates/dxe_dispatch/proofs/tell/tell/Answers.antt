use Rattle.dxe_dispatch.proofs.Told.{has_handles, none_told, request_told, with_handles}
use Rattle.dxe_dispatch.proofs.tell.tell.Goals as goal

pub returns-in-Some-clause-row : goal.returns-in-Some-clause-row
returns-in-Some-clause-row c catalog made m new is has =
    let handles = c.args.dxe.now.services.handles in
    let here = c.tell_change.ensures.row catalog made m (with_handles m handles) is (has_handles handles catalog c.args.event.now m new has) in
    request_told catalog c.tell_change.new.queue c.request.new.self handles c.args.event.now c.in-Some.number m new c.in-Some.is has here (c.request.ensures.row catalog (c.tell_change.ensures.made catalog made))

pub returns-in_default-clause-row : goal.returns-in_default-clause-row
returns-in_default-clause-row c catalog made m new is has =
    let handles = c.args.dxe.now.services.handles in
    let here = c.tell_change.ensures.row catalog made m (with_handles m handles) is (has_handles handles catalog c.args.event.now m new has) in
    none_told catalog c.tell_change.new.queue handles c.args.event.now m new c.in_default.is has here
