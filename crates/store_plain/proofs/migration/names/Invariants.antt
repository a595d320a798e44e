use Rattle.std.proofs.Common.{◌≡◌, ◌==◌, drop}
use Rattle.std.specs.List.{list_any}
use Rattle.store_model.specs.Service.Descriptor.{descriptors}
use Rattle.store_plain.proofs.migration.names.Given as goal

abbrev pub invariant-entries : goal.invariant-entries
invariant-entries l = list_any (λ named. named == l.place) (descriptors (drop l.entry-index l.entries)) ≡ list_any (λ named. named == l.place) (descriptors l.entries)
