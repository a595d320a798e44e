use Rattle.boot_reasons.proofs.pei.explain_pei.Goals as goal

pub explain_with_ledger-requires-clause-opening : goal.explain_with_ledger-requires-clause-opening
explain_with_ledger-requires-clause-opening g c = c.requires.opening
