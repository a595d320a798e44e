use Rattle.std.proofs.Common.{◌≡◌, ◌+◌, drop, ◌==◌}
use Rattle.std.specs.List.{list_any}
use Rattle.store_model.specs.{Service.Descriptor.descriptors, Service.Install.place_of}
use Rattle.store_plain.proofs.store.PlainStore.place_of.Given as goal

abbrev pub invariant-ppis : goal.invariant-ppis
invariant-ppis l = record {
  place : l.place + place_of (drop l.place l.self.ppis.items) l.descriptor ≡ place_of l.self.ppis.items l.descriptor;
  there : list_any (λ named. named == l.descriptor) (descriptors (drop l.place l.self.ppis.items)) ≡ list_any (λ named. named == l.descriptor) (descriptors l.self.ppis.items);
}
