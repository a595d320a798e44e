use Rattle.std.proofs.Common.{sym}
use Rattle.store_plain.specs.PlainState.{state_of}
use Rattle.store_laws.proofs.Named.{pending_is_entry}
use Rattle.store_plain.proofs.store.PlainStore.tell_pending.Goals as goal

pub entry_at-requires : goal.entry_at-requires
entry_at-requires c = pending_is_entry (state_of c.args.self.now) c.args.place c.in-Some.pending c.requires (sym c.in-Some.ensures)
