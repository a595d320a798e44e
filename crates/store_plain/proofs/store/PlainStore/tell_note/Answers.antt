use Rattle.std.proofs.Common.{sym}
use Rattle.store_plain.specs.PlainState.{state_of}
use Rattle.store_laws.proofs.Named.{note_is_entry}
use Rattle.store_plain.proofs.store.PlainStore.tell_note.Goals as goal

pub entry_at-requires : goal.entry_at-requires
entry_at-requires c = note_is_entry (state_of c.args.self.now) c.args.kind c.args.place c.in-Some.entry c.requires (sym c.in-Some.ensures)
