use Rattle.std.proofs.Common.{◌≡◌, ◌-◌, ◌++◌, Some, flat_map}
use Rattle.pi_base.specs.Lists.{numbers}
use Rattle.phase_parts.specs.Parts.{wanted_from}
use Rattle.phase_parts.proofs.parts.Parts.push_ranked.Given as goal

-- the parts so far, and those that are left, make the whole
abbrev pub invariant-ranks : goal.invariant-ranks
invariant-ranks l = record {
  parts : l.self ++ flat_map (λ rank. wanted_from l.phase (Some rank) l.volume 0 l.catalog.modules) (numbers l.rank (l.end - l.rank))
      ≡ l.fn.self ++ flat_map (λ rank. wanted_from l.phase (Some rank) l.volume 0 l.catalog.modules) (numbers 0 l.end);
}
