use Rattle.std.proofs.Common.{◌≡◌, ◌++◌, drop}
use Rattle.explain_text.specs.{Flags.flag, LeftLines.left_lines}
use Rattle.explain_text.proofs.left_lines.put_left.Given as goal

-- the lines so far and those to come make the whole
abbrev pub invariant-modules : goal.invariant-modules
invariant-modules l =
    (l.number ≡ l.member-index)
    × (l.out ++ left_lines l.fn.phase (flag l.told) l.known l.number (drop l.member-index l.modules) ≡ l.fn.out ++ left_lines l.fn.phase (flag l.told) l.known 0 l.modules)
