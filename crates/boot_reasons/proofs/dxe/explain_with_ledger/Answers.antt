use Rattle.boot_reasons.proofs.dxe.explain_with_ledger.Goals as goal

pub explain_opened-reached-requires-clause-opening : goal.explain_opened-reached-requires-clause-opening
explain_opened-reached-requires-clause-opening g c = c.requires.opening
