use Rattle.std.proofs.Common.{◌≡◌, ◌≤◌, ◌∷◌, [], drop, length, max}
use Rattle.mod_catalog.specs.{Parts.family_from, WellFormed.AreNumbered}
use Rattle.phase_parts.proofs.family.family_of.Given as goal

-- the family so far, with those that are left, makes the whole
abbrev pub invariant-volumes : goal.invariant-volumes
invariant-volumes l = record {
  number : l.number ≡ l.entry-index;
  numbered : AreNumbered l.number (drop l.entry-index l.catalog.volumes);
  few : length l.family ≤ max 1 l.number;
  family : family_from l.family l.number (drop l.entry-index l.catalog.volumes) ≡ family_from (l.volume ∷ []) 0 l.catalog.volumes;
}
