use Rattle.choice_trials.specs.Served.{IsServed}
use Rattle.choice_trials.proofs.calls.first_wrong.Given as goal

abbrev pub invariant-calls : goal.invariant-calls
invariant-calls l = IsServed l.catalog l.services
