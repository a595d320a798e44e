use Rattle.boot_reasons.proofs.pei.explain_with_ledger.Goals as goal

pub queue_of_opening-requires-clause-opening : goal.queue_of_opening-requires-clause-opening
queue_of_opening-requires-clause-opening g c = c.requires.opening

pub explain_opened-reached-requires-clause-opening : goal.explain_opened-reached-requires-clause-opening
explain_opened-reached-requires-clause-opening g c = c.requires.opening
