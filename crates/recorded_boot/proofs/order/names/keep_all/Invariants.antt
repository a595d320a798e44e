use Rattle.std.proofs.Common.{◌≡◌}
use Rattle.recorded_boot.specs.Named.{AreNames}
use Rattle.recorded_boot.proofs.order.names.keep_all.Given as goal

-- the names of the modules so far
abbrev pub invariant-modules : goal.invariant-modules
invariant-modules l = record {
  names : AreNames l.catalog l.member-index l.maps.items;
  number : l.number ≡ l.member-index;
}
