use Rattle.std.proofs.Common.{◌≡◌, ◌++◌, List, flat_map, take}
use Rattle.mod_catalog.specs.declared.catalogue.Module.{Module}
use Rattle.explain_text.specs.{declared.reasons.Begun.Begun, Context.IsContext, HeldLines.need_line}
use Rattle.explain_text.proofs.held_lines.put_needs.Given as goal

abbrev pub invariant-needs : goal.invariant-needs
invariant-needs l =
    (begun : List Begun) (modules : List Module) → IsContext begun modules l.fn.phase l.context
    → l.out ≡ l.fn.out ++ flat_map (need_line begun modules l.fn.phase l.fn.number) (take l.need-index l.needs)
