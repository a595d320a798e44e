use Rattle.boot_reasons.proofs.explain.explain_by.Goals as goal

pub explain_opened-reached-requires-clause-opening : goal.explain_opened-reached-requires-clause-opening
explain_opened-reached-requires-clause-opening g c = (c.requires.opening.0, c.in_ok-pei.ensures.opening c.requires.opening.0 c.requires.opening.1)

pub returns : goal.returns
returns g c board here = c.explain_opened-reached.ensures board (c.in_ok-pei.ensures.opening board here)
