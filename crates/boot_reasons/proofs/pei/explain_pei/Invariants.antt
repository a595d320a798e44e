use Rattle.boot_reasons.proofs.pei.explain_pei.Given as goal

-- its steps are counted in the ledger of its blank
abbrev pub ghosts-explain_with_ledger : goal.ghosts-explain_with_ledger
ghosts-explain_with_ledger g a = record { name = a.blank.name; parts = a.blank.parts }
