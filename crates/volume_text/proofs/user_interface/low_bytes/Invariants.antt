use Rattle.std.proofs.Common.{◌≡◌, ◌++◌, length}
use Rattle.volume_text.specs.UserInterface.{low_bytes}
use Rattle.volume_text.proofs.user_interface.low_bytes.Given as goal

-- the bytes so far, and those of the pairs that are left, are all
abbrev pub invariant-pairs : goal.invariant-pairs
invariant-pairs l = l.name ++ low_bytes l.rest ≡ low_bytes l.bytes

abbrev pub decreases-pairs : goal.decreases-pairs
decreases-pairs l = length l.rest
