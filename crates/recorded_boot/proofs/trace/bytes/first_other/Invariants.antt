use Rattle.std.proofs.Common.{◌≡◌, ◌≤◌, length, take}
use Rattle.recorded_boot.proofs.trace.bytes.first_other.Given as goal

abbrev pub invariant-piece : goal.invariant-piece
invariant-piece l = record {
  there : l.place ≤ length l.bytes;
  same : take l.place l.bytes ≡ take l.place l.piece;
}
