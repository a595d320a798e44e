use Rattle.std.proofs.Common.{◌≤◌, ◌-◌, length}
use Rattle.depex_code.proofs.TreeWalk.{HasRead}
use Rattle.depex_code.proofs.reading.tree_at.Given as goal

abbrev pub invariant-opcodes : goal.invariant-opcodes
invariant-opcodes l = record {
  read : HasRead l.bytes l.code l.depth l.rest;
  few : length l.code ≤ l.room;
}

abbrev pub decreases-opcodes : goal.decreases-opcodes
decreases-opcodes l = l.room - length l.code
