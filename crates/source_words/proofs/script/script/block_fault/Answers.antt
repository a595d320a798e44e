use Rattle.std.proofs.Common.{◌∙◌, sym}
use Rattle.source_words.proofs.Faults.{block_found, block_sound}
use Rattle.source_words.proofs.script.script.block_fault.Goals as goal

pub returns-in-Some-action_fault-clause-first : goal.returns-in-Some-action_fault-clause-first
returns-in-Some-action_fault-clause-first c =
    block_found c.args.count c.in-Some-action_fault.within c.in-Some-action_fault.cause c.args.before.now c.args.actions.now (sym c.block_cause.ensures ∙ c.in_default.is) c.in-Some-action_fault.ensures.first

pub returns-in-None-clause-first : goal.returns-in-None-clause-first
returns-in-None-clause-first c = block_sound c.args.count c.args.before.now c.args.actions.now (sym c.block_cause.ensures ∙ c.in_default.is) c.in-None.ensures.first
