use Rattle.std.proofs.Common.{◌≡◌}
use Rattle.store_model.specs.{declared.store_handle.EntryList.TheVariants.Ppis, StoreState.StoreState, StateFacts.IsSweepOf}
use Rattle.store_model.specs.Service.Sweep.{first_firing, next_match, pairs_left}
use Rattle.store_laws.specs.Sweeps.{standing}
use Rattle.pei_heap.specs.{Linked.IsLinked, Matching.AreCallbacks, Walk.StandsAt}
use Rattle.pei_heap.proofs.links.sweep.next_pair.Given as goal

abbrev pub invariant-ppis : goal.invariant-ppis
invariant-ppis l = record {
  at : (s : StoreState) → IsLinked l.heap l.memory l.heads s → IsSweepOf s l.sweep → StandsAt s Ppis l.ppi l.at;
  first : (s : StoreState) → IsLinked l.heap l.memory l.heads s → IsSweepOf s l.sweep → AreCallbacks s l.first l.sweep.note_from l.sweep.note_to;
  notes : (s : StoreState) → IsLinked l.heap l.memory l.heads s → IsSweepOf s l.sweep → AreCallbacks s l.note l.from l.sweep.note_to;
  left : (s : StoreState) → IsLinked l.heap l.memory l.heads s → IsSweepOf s l.sweep
      → first_firing s l.sweep (pairs_left (standing l.sweep l.ppi l.from)) ≡ next_match s l.sweep;
}
