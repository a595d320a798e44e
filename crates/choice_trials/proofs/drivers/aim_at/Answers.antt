use Rattle.choice_trials.proofs.SmallMachines.{on_ok, seen_aimed}
use Rattle.choice_trials.proofs.drivers.aim_at.Goals as goal

pub returns-in-Some-clause-seen : goal.returns-in-Some-clause-seen
returns-in-Some-clause-seen g c =
    on_ok c.aim.result (seen_aimed c.args.catalog.now c.in-Some.root c.args.queue.now c.aim.new.self c.args.order.now c.requires.seen) c.aim.ensures.row
