use Rattle.std.proofs.Common.{◌≡◌, ◌+◌, ◌++◌, List, ℕ, length}
use Rattle.std.specs.Io.KnownBytes.{Appends}
use Rattle.boot_io.proofs.writing.write_whole.Given as goal

-- what was taken and what is left make the piece
abbrev pub invariant-pieces : goal.invariant-pieces
invariant-pieces g l = (part : List ℕ) × Appends (g.W.Write.contents l.fn.writer) (g.W.Write.contents l.writer) part × (part ++ l.rest ≡ l.piece)

abbrev pub decreases-pieces : goal.decreases-pieces
decreases-pieces g l = length l.rest + l.tries
