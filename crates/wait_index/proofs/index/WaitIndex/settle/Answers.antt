use Rattle.std.proofs.Common.{◌∙◌, refl}
use Rattle.wait_index.proofs.index.WaitIndex.settle.Goals as goal

pub settle-requires-clause-short : goal.settle-requires-clause-short
settle-requires-clause-short g c = c.well_formed_expressions_are_short.ensures c.args.self.now.phase c.args.catalog.now c.requires.catalog

pub settle-requires-clause-judged : goal.settle-requires-clause-judged
settle-requires-clause-judged g c = c.requires.index.judged

pub settle-requires-clause-in_order : goal.settle-requires-clause-in_order
settle-requires-clause-in_order g c = c.args.self.now.in_order

pub invariant_of-self : goal.invariant_of-self
invariant_of-self g c = record { in_order = c.settle.ensures.in_order; room = c.args.self.now.room }

pub returns-clause-index : goal.returns-clause-index
returns-clause-index g c = record { watched = c.requires.index.watched; judged = c.settle.ensures.judged; as_many = c.settle.ensures.as_many ∙ c.requires.index.as_many }

pub returns-clause-same : goal.returns-clause-same
returns-clause-same g c = record { phase = refl; installed = refl; kept = c.settle.ensures.kept }

pub returns-clause-settled : goal.returns-clause-settled
returns-clause-settled g c = c.settle.ensures.settled

pub returns-clause-counted : goal.returns-clause-counted
returns-clause-counted g c = c.settle.ensures.counted

pub returns-clause-few_steps : goal.returns-clause-few_steps
returns-clause-few_steps g c = c.settle.ensures.few_steps
