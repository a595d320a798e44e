use Rattle.std.proofs.Common.{◌≡◌, drop}
use Rattle.mod_catalog.specs.Parts.{volume_from}
use Rattle.phase_parts.proofs.mapped.volume_at.Given as goal

abbrev pub invariant-volumes : goal.invariant-volumes
invariant-volumes l = record {
  number : l.number ≡ l.entry-index;
  volume : volume_from l.base l.number (drop l.entry-index l.catalog.volumes) ≡ volume_from l.base 0 l.catalog.volumes;
}
