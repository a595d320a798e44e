use Rattle.phase_parts.proofs.Fitting.{is_here, is_of_phase, is_within}
use Rattle.phase_parts.proofs.next.next_action.Goals as goal

pub returns-in-Some-clause-fits : goal.returns-in-Some-clause-fits
returns-in-Some-clause-fits g c = is_of_phase c.args.phase c.args.catalog.now c.in-Some.frame.now c.action_at.result c.requires.catalog c.action_at.ensures

pub returns-in-Some-clause-place : goal.returns-in-Some-clause-place
returns-in-Some-clause-place g c = is_within c.args.phase c.args.catalog.now c.args.frames.now c.in-Some.frame.now c.action_at.result c.requires.catalog c.in-Some.ensures c.action_at.ensures

pub returns-in-Some-clause-here : goal.returns-in-Some-clause-here
returns-in-Some-clause-here g c frame below e =
    is_here c.args.phase c.args.catalog.now c.args.frames.now frame c.in-Some.frame.now below c.action_at.result c.requires.catalog c.in-Some.ensures c.action_at.ensures e
