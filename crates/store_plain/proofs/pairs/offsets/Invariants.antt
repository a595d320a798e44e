use Rattle.std.proofs.Common.{◌≡◌, ◌++◌, drop}
use Rattle.store_model.specs.Service.Descriptor.{offsets}
use Rattle.store_plain.proofs.pairs.offsets.Given as goal

abbrev pub invariant-descs : goal.invariant-descs
invariant-descs l = l.places.items ++ offsets (drop l.d-index l.list) ≡ offsets l.list
