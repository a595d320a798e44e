use Rattle.std.proofs.Common.{◌≡◌, take}
use Rattle.std.specs.Io.KnownBytes.{Appends}
use Rattle.store_model.specs.StoreState.{StoreState}
use Rattle.boot_model.specs.Text.{text_of}
use Rattle.boot_trace.specs.EntryLines.{entry_lines}
use Rattle.boot_trace.proofs.EntryPlaces.{IsAt}
use Rattle.boot_trace.proofs.store_lists.put_entries.Given as goal

-- the lines so far, without a fault
abbrev pub invariant-entries : goal.invariant-entries
invariant-entries g l = record {
  text : (s : StoreState) → g.M.PeiStore.stands_for l.store s → Appends (g.S.Sink.text l.fn.sink) (g.S.Sink.text l.sink) (text_of (take l._place (entry_lines s l.list)));
  at : (s : StoreState) → g.M.PeiStore.stands_for l.store s → IsAt s l.list l.node l._place;
  count : g.S.Sink.faults l.sink ≡ g.S.Sink.faults l.fn.sink;
}
