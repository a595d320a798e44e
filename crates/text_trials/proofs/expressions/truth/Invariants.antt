use Rattle.text_trials.proofs.expressions.truth.Given as goal

abbrev pub ghosts-holds_in : goal.ghosts-holds_in
ghosts-holds_in g a = record { name = a.blank.name; parts = a.blank.parts }
