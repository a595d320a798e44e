use Rattle.std.proofs.Common.{◌≡◌, length}
use Rattle.boot_reasons.specs.NotedOnce.{AreSeen, noted_code}
use Rattle.boot_reasons.proofs.noted.Noted.note_code.Given as goal

-- what was noted, with what the opcodes that are left push, is the whole
abbrev pub invariant-opcodes : goal.invariant-opcodes
invariant-opcodes l = record {
  seen : AreSeen l.self;
  whole : noted_code l.self.guids l.rest ≡ noted_code l.fn.self.guids l.code;
}

abbrev pub decreases-opcodes : goal.decreases-opcodes
decreases-opcodes l = length l.rest
