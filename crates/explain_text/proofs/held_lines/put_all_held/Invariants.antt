use Rattle.std.proofs.Common.{◌≡◌, ◌++◌, List, flat_map, take}
use Rattle.mod_catalog.specs.declared.catalogue.Module.{Module}
use Rattle.explain_text.specs.{declared.reasons.Begun.Begun, Context.AreContexts, HeldLines.held_lines}
use Rattle.explain_text.proofs.held_lines.put_all_held.Given as goal

abbrev pub invariant-waits : goal.invariant-waits
invariant-waits l =
    (begun : List Begun) (modules : List Module) → AreContexts begun modules l.pei l.dxe → l.out ≡ l.fn.out ++ flat_map (held_lines begun modules) (take l.wait-index l.held)
