use Rattle.std.proofs.Common.{take}
use Rattle.explain_text.specs.Flags.{AreStarted}
use Rattle.explain_text.proofs.flags.started.Given as goal

abbrev pub invariant-starts : goal.invariant-starts
invariant-starts l = AreStarted (take l.start-index l.begun) l.phase l.fn.count l.flags
