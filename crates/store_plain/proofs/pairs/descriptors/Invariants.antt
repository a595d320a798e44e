use Rattle.std.proofs.Common.{◌≡◌, ◌++◌, drop}
use Rattle.store_model.specs.Service.Descriptor.{descriptors}
use Rattle.store_plain.proofs.pairs.descriptors.Given as goal

abbrev pub invariant-entries : goal.invariant-entries
invariant-entries l = l.places.items ++ descriptors (drop l.entry-index l.entries) ≡ descriptors l.entries
