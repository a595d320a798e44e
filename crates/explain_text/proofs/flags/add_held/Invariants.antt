use Rattle.std.proofs.Common.{take}
use Rattle.explain_text.specs.Flags.{AddsHeld}
use Rattle.explain_text.proofs.flags.add_held.Given as goal

abbrev pub invariant-held : goal.invariant-held
invariant-held l = AddsHeld (take l.wait-index l.held) l.phase l.fn.flags l.flags
