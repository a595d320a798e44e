use Rattle.std.proofs.Common.{◌≡◌, ◌++◌, drop}
use Rattle.store_plain.specs.PlainState.{state_of}
use Rattle.store_model.specs.Service.Install.{row_of}
use Rattle.store_plain.proofs.store.PlainStore.add_row.Given as goal

abbrev pub invariant-notes : goal.invariant-notes
invariant-notes l = l.pairs.items ++ row_of (state_of l.self) l.ppi (drop l.note-index l.notes) ≡ l.fn.pairs.items ++ row_of (state_of l.self) l.ppi l.notes
