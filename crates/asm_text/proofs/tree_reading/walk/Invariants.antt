use Rattle.std.proofs.Common.{◌+◌, ◌*◌, [], List, length, false}
use Rattle.asm_text.specs.Walk.{Place}
use Rattle.asm_text.proofs.Paths.{at, Path}
use Rattle.asm_text.proofs.tree_reading.walk.Given as goal

-- the place was come to from the text's beginning
abbrev pub invariant-walk : goal.invariant-walk
invariant-walk l = (path : List Place) × Path (at l.text false [] []) path (at l.rest l.ended l.waiting l.code)

abbrev pub decreases-walk : goal.decreases-walk
decreases-walk l = length l.waiting + 2 * length l.rest
