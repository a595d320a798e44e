use Rattle.std.proofs.Common.{◌≡◌, ◌≤◌, take}
use Rattle.recorded_boot.specs.Lines.{feeds_in}
use Rattle.recorded_boot.proofs.trace.bytes.count_feeds.Given as goal

abbrev pub invariant-bytes : goal.invariant-bytes
invariant-bytes l = record {
  count : l.count ≡ feeds_in (take l.byte-index l.bytes);
  few : l.count ≤ l.byte-index;
}
