use Rattle.std.proofs.Common.{◌≡◌, Some, slice_get}
use Rattle.wait_index.specs.Index.{order_in}
use Rattle.dxe_dispatch.proofs.WaitingDrivers.{not_there, place_within, requested_none}
use Rattle.dxe_dispatch.proofs.index.admit.Goals as goal

pub gate-requires : goal.gate-requires
gate-requires c =
    let at = (c.place_of.ensures.at c.in-Some.place).0 c.in-Some.is in record { within = place_within (order_in c.args.index.now) c.in-Some.place c.args.number at }

pub returns-in_default : goal.returns-in_default
returns-in_default c =
    requested_none c.args.number c.args.index.now
    (not_there c.place_of.result (λ place. slice_get (order_in c.args.index.now) place ≡ Some c.args.number) c.in_default.is (λ place at. (c.place_of.ensures.at place).1 at))
