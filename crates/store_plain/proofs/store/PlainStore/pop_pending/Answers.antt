use Rattle.std.proofs.Common.{sym}
use Rattle.store_model.specs.StateFacts.{IsPending}
use Rattle.store_plain.specs.PlainState.{state_of}
use Rattle.store_laws.proofs.{Items.each_at, Named.pending_is_entry}
use Rattle.store_plain.proofs.store.PlainStore.pop_pending.Goals as goal

pub firing-firing-requires-clause-entry : goal.firing-firing-requires-clause-entry
firing-firing-requires-clause-entry c = pending_is_entry (state_of c.args.self.now) 0 c.in-Some.first c.requires (sym c.in-Some.ensures)

pub zero_node-requires : goal.zero_node-requires
zero_node-requires c = (each_at (IsPending (state_of c.args.self.now)) c.args.self.now.pendings.items 0 c.in-Some.first c.requires.pendings (sym c.in-Some.ensures)).0
