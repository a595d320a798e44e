use Rattle.std.proofs.Common.{◌≡◌, ◌++◌, length, map}
use Rattle.boot_reasons.specs.{Needs.need_of, Noting.giver_in}
use Rattle.boot_reasons.proofs.needs.needs_of.Given as goal

-- the needs so far, and those of the GUIDs that are left, are all
abbrev pub invariant-guids : goal.invariant-guids
invariant-guids l = l.needs ++ map (need_of (giver_in l.givers.map)) l.rest ≡ map (need_of (giver_in l.givers.map)) l.initial.rest

abbrev pub decreases-guids : goal.decreases-guids
decreases-guids l = length l.rest
