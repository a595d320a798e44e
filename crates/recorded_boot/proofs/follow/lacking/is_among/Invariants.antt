use Rattle.std.proofs.Common.{◌≡◌, length}
use Rattle.boot_laws.specs.ChangedGuids.{is_among}
use Rattle.recorded_boot.proofs.follow.lacking.is_among.Given as goal

-- it is among those that are left, or among none
abbrev pub invariant-guids : goal.invariant-guids
invariant-guids l = is_among l.guid l.rest ≡ is_among l.guid l.guids

abbrev pub decreases-guids : goal.decreases-guids
decreases-guids l = length l.rest
