use Rattle.pei_core.proofs.pei.Pei.step_by_case.Goals as goal

pub step_on-requires-clause-made : goal.step_on-requires-clause-made
step_on-requires-clause-made g c = c.requires.made

pub step_on-requires-clause-state : goal.step_on-requires-clause-state
step_on-requires-clause-state g c = (c.requires.state.0, c.requires.state.1, c.in-None.ensures c.requires.state.0 c.requires.state.1)

pub returns-in-Some-clause-kept : goal.returns-in-Some-clause-kept
returns-in-Some-clause-kept g c = c.fire.ensures.kept

pub returns-in-None-clause-kept : goal.returns-in-None-clause-kept
returns-in-None-clause-kept g c = c.step_on.ensures.kept

pub returns-in-None-clause-row : goal.returns-in-None-clause-row
returns-in-None-clause-row g c m fuel made stands anywhere = c.step_on.ensures.row m fuel made stands (c.in-None.ensures m stands)

pub returns-in-Some-clause-row : goal.returns-in-Some-clause-row
returns-in-Some-clause-row g c m fuel made stands anywhere = c.fire.ensures.row m fuel made stands (c.in-Some.ensures m stands)
