use Rattle.std.proofs.Common.{sym, ap, ◌∙◌, option_and_then, slice_get}
use Rattle.wait_index.specs.Index.{order_in}
use Rattle.dxe_dispatch.proofs.Machines.{stands_settled}
use Rattle.dxe_dispatch.proofs.index.first_that_may_start.Goals as goal

pub returns-in-Some-clause-first : goal.returns-in-Some-clause-first
returns-in-Some-clause-first g c m stands =
    let catalog = c.args.catalog.now in
    let new = c.settle.new.self in
    let law = c.next_is_the_first_eligible_driver.ensures catalog m new c.settle.ensures.index (stands_settled catalog m c.args.index.now new stands c.settle.ensures.same) in
    sym (c.module_at.ensures ∙ sym (ap (option_and_then (slice_get (order_in new))) c.in-Some.is) ∙ c.next.ensures catalog c.settle.ensures.index ∙ law)

pub returns-in-None-clause-first : goal.returns-in-None-clause-first
returns-in-None-clause-first g c m stands =
    let catalog = c.args.catalog.now in
    let new = c.settle.new.self in
    let law = c.next_is_the_first_eligible_driver.ensures catalog m new c.settle.ensures.index (stands_settled catalog m c.args.index.now new stands c.settle.ensures.same) in
    sym (sym (ap (option_and_then (slice_get (order_in new))) c.in-None.is) ∙ c.next.ensures catalog c.settle.ensures.index ∙ law)
