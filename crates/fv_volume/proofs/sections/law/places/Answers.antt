use Rattle.fv_volume.proofs.SectionsStanding.{sections_stand}
use Rattle.fv_volume.proofs.sections.law.places.Goals as goal

pub returns-clause-inside : goal.returns-clause-inside
returns-clause-inside c = λ bytes sections s. λ k d within. ((sections_stand bytes 0 sections s.0 s.1).each k d within).1

pub returns-clause-in_order : goal.returns-clause-in_order
returns-clause-in_order c = λ bytes sections s. (sections_stand bytes 0 sections s.0 s.1).order
