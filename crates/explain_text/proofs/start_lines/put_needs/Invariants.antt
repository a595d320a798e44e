use Rattle.std.proofs.Common.{◌≡◌, ◌++◌, flat_map, take}
use Rattle.explain_text.specs.StartLines.{needed_line}
use Rattle.explain_text.proofs.start_lines.put_needs.Given as goal

abbrev pub invariant-needs : goal.invariant-needs
invariant-needs l = l.out ≡ l.fn.out ++ flat_map (needed_line l.fn.number) (take l.need-index l.needs)
