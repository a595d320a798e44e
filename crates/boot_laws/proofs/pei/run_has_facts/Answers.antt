use Rattle.boot_laws.proofs.RunFacts.{run_has_facts}
use Rattle.boot_laws.proofs.pei.run_has_facts.Goals as goal

pub returns : goal.returns
returns c =
    run_has_facts (record {
      keep = c.services_keep_facts.ensures;
      steps = c.steps_keep_facts.ensures;
      fit = c.states_fit.ensures;
    })
