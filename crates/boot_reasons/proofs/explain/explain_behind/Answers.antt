use Rattle.boot_reasons.proofs.explain.explain_behind.Goals as goal

pub explain_drivers-requires-clause-state : goal.explain_drivers-requires-clause-state
explain_drivers-requires-clause-state g c = c.requires.state
