-- The laws of stores on which the laws of runs stand.
use Rattle.store_laws.specs.{Keeping.KeepFacts, Steps.StepsKeepFacts, Fitting.StatesFit}

pub record StoreLaws : Type 0 where
  pub keep : KeepFacts
  pub steps : StepsKeepFacts
  pub fit : StatesFit
