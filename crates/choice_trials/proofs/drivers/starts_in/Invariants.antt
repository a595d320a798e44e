use Rattle.choice_trials.proofs.drivers.starts_in.Given as goal

abbrev pub ghosts-starts_by : goal.ghosts-starts_by
ghosts-starts_by a = record { name = a.blank.name; parts = a.blank.parts }
