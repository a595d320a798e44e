use Rattle.volume_text.proofs.Closing as A
use Rattle.volume_text.proofs.law.built_or_refused.Goals as goal

pub returns-clause-built : goal.returns-clause-built
returns-clause-built c = A.built

pub returns-clause-refused : goal.returns-clause-refused
returns-clause-refused c = A.refused

pub returns-clause-early : goal.returns-clause-early
returns-clause-early c = A.early
