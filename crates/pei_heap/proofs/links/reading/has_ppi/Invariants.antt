use Rattle.std.proofs.Common.{◌≡◌, drop}
use Rattle.std.specs.List.{list_any}
use Rattle.pi_base.specs.Guids.{same_guid}
use Rattle.store_model.specs.{declared.store_handle.EntryList.TheVariants.Ppis, StoreState.StoreState, Service.Descriptor.guid_at}
use Rattle.store_model.specs.Service.Install.{has_ppi}
use Rattle.pei_heap.specs.{Linked.IsLinked, Walk.StandsAt}
use Rattle.pei_heap.proofs.links.reading.has_ppi.Given as goal

abbrev pub invariant-ppis : goal.invariant-ppis
invariant-ppis l = record {
  at : (s : StoreState) → IsLinked l.heap l.memory l.heads s → StandsAt s Ppis l._place l.at;
  left : (s : StoreState) → IsLinked l.heap l.memory l.heads s
      → list_any (λ entry. same_guid (guid_at s entry.descriptor) l.guid) (drop l._place s.ppis) ≡ has_ppi s l.guid;
}
