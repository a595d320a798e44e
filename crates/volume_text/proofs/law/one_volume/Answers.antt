use Rattle.volume_text.proofs.OneText.{one_leads, one_fault, leads_or_fault}
use Rattle.volume_text.proofs.law.one_volume.Goals as goal

pub returns-clause-volume : goal.returns-clause-volume
returns-clause-volume c = one_leads

pub returns-clause-fault : goal.returns-clause-fault
returns-clause-fault c = one_fault

pub returns-clause-apart : goal.returns-clause-apart
returns-clause-apart c = leads_or_fault
