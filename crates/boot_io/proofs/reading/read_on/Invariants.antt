use Rattle.std.proofs.Common.{◌≡◌, ◌++◌, List, ℕ}
use Rattle.std.specs.Io.KnownBytes.{Consumes}
use Rattle.boot_io.proofs.reading.read_on.Given as goal

-- what was read so far stands behind what was there
abbrev pub invariant-reads : goal.invariant-reads
invariant-reads g l = (more : List ℕ) × (l.bytes.items ≡ l.fn.bytes.items ++ more) × Consumes (g.R.Read.remaining l.fn.reader) (g.R.Read.remaining l.reader) more

abbrev pub decreases-reads : goal.decreases-reads
decreases-reads g l = l.tries
