use Rattle.std.proofs.Common.{◌≡◌, ◌++◌, flat_map, take}
use Rattle.explain_text.specs.StartLines.{start_lines}
use Rattle.explain_text.proofs.start_lines.put_starts.Given as goal

abbrev pub invariant-starts : goal.invariant-starts
invariant-starts l = l.out ≡ l.fn.out ++ flat_map start_lines (take l.start-index l.begun)
