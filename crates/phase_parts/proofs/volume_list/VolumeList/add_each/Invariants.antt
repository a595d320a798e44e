use Rattle.std.proofs.Common.{◌≡◌, drop}
use Rattle.mod_catalog.specs.declared.catalogue.Catalog.{Catalog}
use Rattle.phase_parts.specs.Known.{AreKnown, MayCome, with_new}
use Rattle.phase_parts.proofs.volume_list.VolumeList.add_each.Given as goal

-- the numbers so far, and those that are left, make the whole
abbrev pub invariant-volumes : goal.invariant-volumes
invariant-volumes l = record {
  added : with_new l.self (drop l.number-index l.numbers) ≡ with_new l.fn.self l.numbers;
  known : (catalog : Catalog) → MayCome catalog l.fn.self l.numbers → AreKnown catalog l.self;
}
