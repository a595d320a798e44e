use Rattle.line_words.specs.Line.{lines}
use Rattle.boot_plan.specs.Said.{said}
use Rattle.boot_plan.proofs.{OneReading.one_plan, OneReading.one_fault, SomeReading.some_reading}
use Rattle.std.proofs.Common.{length}
use Rattle.boot_plan.proofs.read.one_reading.Goals as goal

pub returns-clause-plans : goal.returns-clause-plans
returns-clause-plans c = λ text a b m n. one_plan (length (lines text)) (said (lines text)) a b m.1 n.1

pub returns-clause-faults : goal.returns-clause-faults
returns-clause-faults c = λ text a b f g. one_fault text a b f g

pub returns-clause-some : goal.returns-clause-some
returns-clause-some c = some_reading
