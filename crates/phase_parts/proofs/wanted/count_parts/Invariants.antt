use Rattle.std.proofs.Common.{◌≡◌, ◌≤◌, ◌+◌, length, drop}
use Rattle.mod_catalog.specs.Parts.{parts_from}
use Rattle.phase_parts.proofs.wanted.count_parts.Given as goal

-- the parts so far, and those that are left, make the whole
abbrev pub invariant-modules : goal.invariant-modules
invariant-modules l = record {
  few : l.count ≤ l.module-index;
  parts : l.count + length (parts_from l.phase l.volume l.module-index (drop l.module-index l.catalog.modules)) ≡ length (parts_from l.phase l.volume 0 l.catalog.modules);
}
