use Rattle.std.proofs.Common.{◌≡◌, ◌+◌, ◌-◌, ◌≤◌}
use Rattle.std.specs.Io.KnownBytes.{Appends}
use Rattle.hex.specs.Hex.{encode_lower}
use Rattle.store_model.specs.StoreState.{StoreState}
use Rattle.boot_trace.specs.HeapParts.{IsHeapPart, heap_part}
use Rattle.boot_trace.proofs.heap_bytes.put_heap_bytes.Given as goal

-- the bytes before the next were put
abbrev pub invariant-pieces : goal.invariant-pieces
invariant-pieces g l = record {
  text : (s : StoreState) → g.M.PeiStore.stands_for l.store s → IsHeapPart l.at l.len s → Appends (g.S.Sink.text l.fn.sink) (g.S.Sink.text l.sink) (encode_lower (heap_part s l.at (l.next - l.at)));
  low : l.at ≤ l.next;
  end : l.next + l.left ≡ l.at + l.len;
  count : g.S.Sink.faults l.sink ≡ g.S.Sink.faults l.fn.sink;
}

abbrev pub decreases-pieces : goal.decreases-pieces
decreases-pieces g l = l.left
