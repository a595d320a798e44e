use Rattle.std.proofs.Common.{◌≡◌, ◌++◌, drop}
use Rattle.boot_model.specs.Discovery.{discoveries}
use Rattle.phase_parts.specs.Known.{AreKnown}
use Rattle.phase_parts.proofs.volume_list.VolumeList.discover.Given as goal

-- the volumes so far, and those of the bases that are left, make the whole
abbrev pub invariant-bases : goal.invariant-bases
invariant-bases l = record {
  discovered : l.self ++ discoveries l.catalog l.self (drop l.base-index l.bases) ≡ l.fn.self ++ discoveries l.catalog l.fn.self l.bases;
  known : AreKnown l.catalog l.self;
}
