use Rattle.std.proofs.Common.{take}
use Rattle.explain_text.specs.Givers.{AddsNames}
use Rattle.explain_text.proofs.givers.add_names.Given as goal

abbrev pub invariant-guids : goal.invariant-guids
invariant-guids l = AddsNames l.number (take l.guid-index l.guids) l.fn.givers l.givers
