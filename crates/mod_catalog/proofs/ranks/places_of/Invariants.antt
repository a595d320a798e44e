use Rattle.std.proofs.Common.{◌≡◌, ◌*◌, length, map}
use Rattle.pi_base.specs.{Guids.guid_at, Lists.numbers}
use Rattle.mod_catalog.specs.Ranks.{AreKept}
use Rattle.mod_catalog.proofs.ranks.places_of.Given as goal

-- the names so far that are kept
abbrev pub invariant-names : goal.invariant-names
invariant-names l = record {
  kept : AreKept l.bearers (map (λ index. guid_at l.list (16 * index)) (numbers 0 l.index)) l.kept;
  len : length l.kept.places ≡ l.files;
}
