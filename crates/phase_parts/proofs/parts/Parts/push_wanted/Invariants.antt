use Rattle.std.proofs.Common.{◌≡◌, ◌++◌, drop}
use Rattle.phase_parts.specs.Parts.{wanted_from}
use Rattle.phase_parts.proofs.parts.Parts.push_wanted.Given as goal

-- the parts so far, and those that are left, make the whole
abbrev pub invariant-modules : goal.invariant-modules
invariant-modules l = record {
  number : l.number ≡ l.module-index;
  parts : l.self ++ wanted_from l.phase l.wanted l.volume l.number (drop l.module-index l.catalog.modules) ≡ l.fn.self ++ wanted_from l.phase l.wanted l.volume 0 l.catalog.modules;
}
