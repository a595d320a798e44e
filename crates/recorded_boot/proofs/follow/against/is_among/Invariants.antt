use Rattle.std.proofs.Common.{◌≡◌, length}
use Rattle.recorded_boot.specs.Finding.{is_among_asked}
use Rattle.recorded_boot.proofs.follow.against.is_among.Given as goal

-- it is that of one of the lines that are left, or of none
abbrev pub invariant-made : goal.invariant-made
invariant-made l = is_among_asked l.start l.rest ≡ is_among_asked l.start l.made

abbrev pub decreases-made : goal.decreases-made
decreases-made l = length l.rest
