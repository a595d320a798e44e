use Rattle.std.proofs.Common.{◌≡◌, ◌++◌, drop}
use Rattle.mod_catalog.specs.Parts.{parts_from}
use Rattle.phase_parts.proofs.parts.Parts.push_all.Given as goal

-- the parts so far, and those that are left, make the whole
abbrev pub invariant-modules : goal.invariant-modules
invariant-modules l = record {
  number : l.number ≡ l.module-index;
  parts : l.self ++ parts_from l.phase l.volume l.number (drop l.module-index l.catalog.modules) ≡ l.fn.self ++ parts_from l.phase l.volume 0 l.catalog.modules;
}
