use Rattle.pei_core.proofs.pei.Pei.step_on.Goals as goal

pub act-requires-clause-made : goal.act-requires-clause-made
act-requires-clause-made g c = c.requires.made

pub returns-then-memory_due-clause-kept : goal.returns-then-memory_due-clause-kept
returns-then-memory_due-clause-kept g c = c.move_memory.ensures.kept c.args.catalog.now

pub returns-then-is_some-clause-kept : goal.returns-then-is_some-clause-kept
returns-then-is_some-clause-kept g c = c.act.ensures.kept

pub returns-then-is_some-clause-faults : goal.returns-then-is_some-clause-faults
returns-then-is_some-clause-faults g c = c.act.ensures.faults

pub returns-then-memory_due-clause-faults : goal.returns-then-memory_due-clause-faults
returns-then-memory_due-clause-faults g c = c.move_memory.ensures.faults

pub returns-else-memory_due-clause-kept : goal.returns-else-memory_due-clause-kept
returns-else-memory_due-clause-kept g c = c.step_queue.ensures.kept

pub returns-else-memory_due-clause-faults : goal.returns-else-memory_due-clause-faults
returns-else-memory_due-clause-faults g c = c.step_queue.ensures.faults
