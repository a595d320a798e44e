use Rattle.std.proofs.Common.{◌≡◌, ◌≤◌, ◌+◌, length, drop}
use Rattle.store_model.specs.{declared.store_handle.EntryList.TheVariants.Dispatches, StoreState.StoreState, StateFacts.IsDesc}
use Rattle.store_model.specs.{Service.Descriptor.descriptors, Service.Install.row_of}
use Rattle.pei_heap.specs.{Linked.IsLinked, Walk.StandsAt}
use Rattle.pei_heap.proofs.links.pairs.count_row.Given as goal

abbrev pub invariant-notes : goal.invariant-notes
invariant-notes l = record {
  at : (s : StoreState) → IsLinked l.heap l.memory l.heads s → StandsAt s Dispatches l._place l.at;
  left : (s : StoreState) → IsLinked l.heap l.memory l.heads s → IsDesc s l.fn.ppi
      → l.count + length (row_of s l.fn.ppi.offset (descriptors (drop l._place s.dispatches))) ≡ length (row_of s l.fn.ppi.offset (descriptors s.dispatches));
  few : l.count ≤ l._place;
}
