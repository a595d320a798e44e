use Rattle.std.proofs.Common.{◌≡◌, take, flat_map}
use Rattle.std.specs.Io.KnownBytes.{Appends}
use Rattle.store_model.specs.StoreState.{StoreState}
use Rattle.boot_trace.specs.EntryLines.{list_text}
use Rattle.boot_trace.proofs.store_lists.put_lists.Given as goal

-- the lists so far, without a fault
abbrev pub invariant-loop-list : goal.invariant-loop-list
invariant-loop-list g l = record {
  text : (s : StoreState) → g.M.PeiStore.stands_for l.store s → Appends (g.S.Sink.text l.fn.sink) (g.S.Sink.text l.sink) (flat_map (list_text s) (take l.list-index l.lists));
  count : g.S.Sink.faults l.sink ≡ g.S.Sink.faults l.fn.sink;
}
