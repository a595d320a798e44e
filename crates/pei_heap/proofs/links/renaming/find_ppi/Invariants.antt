use Rattle.std.proofs.Common.{◌≡◌, ◌==◌, ◌+◌, drop}
use Rattle.std.specs.List.{list_any}
use Rattle.store_model.specs.{declared.store_handle.EntryList.TheVariants.Ppis, StoreState.StoreState}
use Rattle.store_model.specs.Service.Install.{is_installed, place_of}
use Rattle.pei_heap.specs.{Linked.IsLinked, Walk.StandsAt}
use Rattle.pei_heap.proofs.links.renaming.find_ppi.Given as goal

abbrev pub invariant-ppis : goal.invariant-ppis
invariant-ppis l = record {
  at : (s : StoreState) → IsLinked l.heap l.memory l.heads s → StandsAt s Ppis l.place l.at;
  before : (s : StoreState) → IsLinked l.heap l.memory l.heads s → l.place + place_of (drop l.place s.ppis) l.d.offset ≡ place_of s.ppis l.d.offset;
  left : (s : StoreState) → IsLinked l.heap l.memory l.heads s → list_any (λ entry. entry.descriptor == l.d.offset) (drop l.place s.ppis) ≡ is_installed s l.d;
}
