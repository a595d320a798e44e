use Rattle.std.proofs.Common.{◌≡◌, length}
use Rattle.boot_reasons.specs.NotedOnce.{AreSeen, noted_all}
use Rattle.boot_reasons.proofs.noted.Noted.note_all.Given as goal

-- what was noted, with what is left, is the whole
abbrev pub invariant-guids : goal.invariant-guids
invariant-guids l = record {
  seen : AreSeen l.self;
  whole : noted_all l.self.guids l.rest ≡ noted_all l.fn.self.guids l.guids;
}

abbrev pub decreases-guids : goal.decreases-guids
decreases-guids l = length l.rest
