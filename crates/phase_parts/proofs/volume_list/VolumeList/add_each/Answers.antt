use Rattle.std.proofs.Common.{ℕ, List, ◌<◌, length, get_or, ap, not}
use Rattle.mod_catalog.specs.declared.catalogue.Catalog.{Catalog}
use Rattle.phase_parts.specs.Known.{AreInCatalog}
use Rattle.phase_parts.proofs.ListFacts.{each_get}
use Rattle.phase_parts.proofs.VolumeRoom.{known_more, room, added_more}
use Rattle.phase_parts.proofs.volume_list.VolumeList.add_each.Goals as goal

next_below : (catalog : Catalog) (numbers : List ℕ) (i : ℕ) → AreInCatalog catalog numbers → i < length numbers → get_or numbers i 0 < length catalog.volumes
next_below catalog numbers i in_catalog within = each_get (λ (n : ℕ). n < length catalog.volumes) numbers i 0 in_catalog within

pub push_where-requires : goal.push_where-requires
push_where-requires c =
    let catalog = c.requires.known.0 in
    let may = c.requires.known.1 in
    let below = next_below catalog c.args.numbers.now c.volumes.number-index may.in_catalog c.volumes-test.true in
    record { room = λ new. room catalog c.volumes.self _ _ (ap not c.has-is_new.ensures) may.formed (c.volumes.invariant.known catalog may) below new }

pub volumes-preserved : goal.volumes-preserved
volumes-preserved c = record {
  added = added_more c.volumes.self c.push_where.new.self c.args.numbers.now _ c.volumes.number-index _ (ap not c.has-is_new.ensures) c.push_where.ensures c.volumes-test.true c.volumes.invariant.added;
  known = λ catalog may.
      known_more catalog c.volumes.self c.push_where.new.self _ _ (ap not c.has-is_new.ensures) c.push_where.ensures (c.volumes.invariant.known catalog may)
      (next_below catalog c.args.numbers.now c.volumes.number-index may.in_catalog c.volumes-test.true);
}
