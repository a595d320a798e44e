use Rattle.volume_text.proofs.{Saying.says, Completing.complete}
use Rattle.volume_text.proofs.law.said_is_read.Goals as goal

pub returns-clause-says : goal.returns-clause-says
returns-clause-says c = says

pub returns-clause-leads : goal.returns-clause-leads
returns-clause-leads c = complete
