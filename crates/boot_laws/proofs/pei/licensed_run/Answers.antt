use Rattle.boot_laws.proofs.PeiLicences.{licensed_run}
use Rattle.boot_laws.proofs.pei.licensed_run.Goals as goal

pub returns : goal.returns
returns c =
    licensed_run (record {
      keep = c.services_keep_facts.ensures;
      steps = c.steps_keep_facts.ensures;
      fit = c.states_fit.ensures;
    })
