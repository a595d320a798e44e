use Rattle.std.proofs.Common.{◌<◌, length, arith}
use Rattle.std.proofs.lemmas.Bool.Decides.{nat_tests}
use Rattle.choice_trials.proofs.SmallMachines.{seen_requested}
use Rattle.choice_trials.proofs.drivers.request_first.Goals as goal

pub returns-in-Some-clause-seen : goal.returns-in-Some-clause-seen
returns-in-Some-clause-seen c =
    let lookup = c.in-Some.ensures.lookup in
    let there = lookup.0 in
    let some : 0 < length c.drivers.result.now = grind (arith, nat_tests) in
    seen_requested c.args.catalog.now c.args.queue.now c.request.new.self c.args.order.now c.drivers.result.now c.in-Some.first.now c.requires.seen c.drivers.ensures some lookup.1
    (c.request.ensures.row c.args.catalog.now c.requires.made)
