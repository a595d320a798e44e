use Rattle.std.proofs.Common.{◌≡◌, ◌++◌, flat_map, length}
use Rattle.boot_model.specs.{PeiMachine.PeiMachine, PeiStep.reason_of}
use Rattle.pei_core.specs.Standing.{StandsFor}
use Rattle.boot_reasons.specs.{Noting.giver_in, PeiReasons.pei_held_for}
use Rattle.boot_reasons.proofs.pei_held.held_parts.Given as goal

-- those so far, and those of the parts that are left, are all
abbrev pub invariant-parts : goal.invariant-parts
invariant-parts g l =
    (m : PeiMachine) → StandsFor g.M.PeiStore.stands_for l.pei m
    → l.held ++ flat_map (λ number. pei_held_for l.catalog m.store (giver_in l.givers.map) number (reason_of l.catalog m number)) l.rest
    ≡ flat_map (λ number. pei_held_for l.catalog m.store (giver_in l.givers.map) number (reason_of l.catalog m number)) l.order

abbrev pub decreases-parts : goal.decreases-parts
decreases-parts g l = length l.rest
