use Rattle.program_edge.proofs.kept_files.KeptFilesFiles.read_whole.Goals as goal

pub returns-in-Some-clause-into : goal.returns-in-Some-clause-into
returns-in-Some-clause-into g c = c.read_whole-answer.ensures.into

pub returns-in-Some-clause-long : goal.returns-in-Some-clause-long
returns-in-Some-clause-long g c = c.read_whole-answer.ensures.long

pub returns-in_default-clause-into : goal.returns-in_default-clause-into
returns-in_default-clause-into g c = c.read_whole-answer.ensures.into

pub returns-in_default-clause-long : goal.returns-in_default-clause-long
returns-in_default-clause-long g c = c.read_whole-answer.ensures.long

pub returns-in-Err-clause-into : goal.returns-in-Err-clause-into
returns-in-Err-clause-into g c = c.read_whole-answer.ensures.into

pub returns-in-Err-clause-long : goal.returns-in-Err-clause-long
returns-in-Err-clause-long g c = c.read_whole-answer.ensures.long
