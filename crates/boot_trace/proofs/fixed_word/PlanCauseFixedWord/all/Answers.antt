use Rattle.boot_trace.proofs.FixedWords.{plan_cause_text_each, plan_cause_text_plain}
use Rattle.boot_trace.proofs.fixed_word.PlanCauseFixedWord.all.Goals as goal

pub returns-clause-each : goal.returns-clause-each
returns-clause-each c = plan_cause_text_each

pub returns-clause-plain : goal.returns-clause-plain
returns-clause-plain c = plan_cause_text_plain
