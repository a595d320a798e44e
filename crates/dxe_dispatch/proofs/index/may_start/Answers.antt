use Rattle.std.proofs.Common.{ℕ, ◌≡◌, ◌<◌, length, sym, ◌∙◌, Some, arith, slice_get}
use Rattle.wait_index.specs.Index.{is_eligible_in, order_in}
use Rattle.dxe_dispatch.proofs.Eligible.{first_from_place, is_same_place, next_with_place, none_without_place, one_place}
use Rattle.dxe_dispatch.proofs.{Machines.stands_settled, WaitingDrivers.not_there, WaitingDrivers.place_within}
use Rattle.dxe_dispatch.proofs.index.may_start.Goals as goal

pub next-requires-clause-cursor : goal.next-requires-clause-cursor
next-requires-clause-cursor g c =
    let at = (c.place_of.ensures.at c.in-Some.place).0 c.in-Some.is in
    let below : c.in-Some.place < length (order_in c.settle.new.self) = place_within (order_in c.settle.new.self) c.in-Some.place c.args.number at in
    omega (arith, below)

pub returns-in-Some-clause-may : goal.returns-in-Some-clause-may
returns-in-Some-clause-may g c m stands =
    let catalog = c.args.catalog.now in
    let new = c.settle.new.self in
    let place = c.in-Some.place in
    let number = c.args.number in
    let index = c.settle.ensures.index in
    let at = (c.place_of.ensures.at place).0 c.in-Some.is in
    let here = stands_settled catalog m c.args.index.now new stands c.settle.ensures.same in
    let once : (other : ℕ) → slice_get (order_in new) other ≡ Some number → other ≡ place = λ other there. one_place other place (sym ((c.place_of.ensures.at other).1 there) ∙ c.in-Some.is) in
    next_with_place catalog m new place number index here at
    ∙ sym (c.eq.ensures ∙ is_same_place c.next.result place (is_eligible_in catalog new number) (first_from_place (is_eligible_in catalog new) (order_in new) place number c.next.result at once (c.next.ensures catalog index)))

pub returns-in-None-clause-may : goal.returns-in-None-clause-may
returns-in-None-clause-may g c m stands =
    let catalog = c.args.catalog.now in
    let new = c.settle.new.self in
    let here = stands_settled catalog m c.args.index.now new stands c.settle.ensures.same in
    none_without_place catalog m new c.args.number here
    (not_there c.place_of.result (λ place. slice_get (order_in new) place ≡ Some c.args.number) c.in-None.is (λ place at. (c.place_of.ensures.at place).1 at))
