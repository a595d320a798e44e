use Rattle.std.proofs.Common.{◌≡◌, ℕ}
use Rattle.store_model.specs.{declared.store_handle.EntryList.TheVariants.Callbacks, declared.store_handle.Sweep.Sweep}
use Rattle.store_model.specs.{StoreState.StoreState, Service.Sweep.first_firing, Service.Sweep.pairs_with}
use Rattle.pei_heap.specs.{HeapMemory.IsHeapOf, Matching.AreCallbacks, Matching.IsRow, Walk.StandsAt}
use Rattle.pei_heap.proofs.links.sweep.match_from.Given as goal

abbrev pub invariant-notes : goal.invariant-notes
invariant-notes l = record {
  at : (s : StoreState) → IsHeapOf l.heap l.memory s → AreCallbacks s l.first l.from l.to → StandsAt s Callbacks l.place l.at;
  left : (s : StoreState) (sweep : Sweep) (ppi : ℕ) → IsHeapOf l.heap l.memory s → AreCallbacks s l.first l.from l.to → IsRow s sweep ppi l.to l.guid
      → first_firing s sweep (pairs_with sweep l.place ppi) ≡ first_firing s sweep (pairs_with sweep l.from ppi);
}
