use Rattle.std.proofs.Common.{◌≡◌, ◌≤◌, ℕ, Some, drop}
use Rattle.phase_parts.specs.Parts.{wanted_from}
use Rattle.phase_parts.proofs.wanted.ranks_end.Given as goal

-- of the modules so far none has a rank at the end or above
abbrev pub invariant-modules : goal.invariant-modules
invariant-modules l = record {
  none : (rank : ℕ) → l.end ≤ rank
      → wanted_from l.phase (Some rank) l.volume l.module-index (drop l.module-index l.catalog.modules) ≡ wanted_from l.phase (Some rank) l.volume 0 l.catalog.modules;
}
