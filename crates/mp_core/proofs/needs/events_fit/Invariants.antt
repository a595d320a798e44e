use Rattle.std.proofs.Common.{length, ◌↔◌}
use Rattle.pi_base.specs.Lists.{Each}
use Rattle.mp_core.specs.Calls.{IsEvent}
use Rattle.mp_core.proofs.needs.events_fit.Given as goal

abbrev pub invariant-events : goal.invariant-events
invariant-events l = Each (IsEvent l.processors l.cells) l.events ↔ Each (IsEvent l.processors l.cells) l.rest

abbrev pub decreases-events : goal.decreases-events
decreases-events l = length l.rest
