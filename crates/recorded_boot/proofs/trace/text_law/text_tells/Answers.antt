use Rattle.recorded_boot.proofs.Telling.{failed, goes_on}
use Rattle.recorded_boot.proofs.trace.text_law.text_tells.Goals as goal

pub returns-clause-goes : goal.returns-clause-goes
returns-clause-goes c = goes_on

pub returns-clause-parts : goal.returns-clause-parts
returns-clause-parts c = failed
