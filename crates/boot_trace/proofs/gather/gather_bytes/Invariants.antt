use Rattle.std.proofs.Common.{◌≡◌, ◌++◌, List, ℕ, length}
use Rattle.std.specs.Io.KnownBytes.{Appends}
use Rattle.hex.specs.Hex.{encode_lower}
use Rattle.boot_trace.proofs.gather.gather_bytes.Given as goal

-- the bytes before the rest were gathered
abbrev pub invariant-parts : goal.invariant-parts
invariant-parts g l = record {
  text : (done : List ℕ) × ((part : List ℕ) × Appends (g.S.Sink.text l.fn.sink) (g.S.Sink.text l.sink) part × (part ++ l.line.items ≡ l.fn.line.items ++ encode_lower done)) × (l.bytes ≡ done ++ l.rest);
  count : g.S.Sink.faults l.sink ≡ g.S.Sink.faults l.fn.sink;
}

abbrev pub decreases-parts : goal.decreases-parts
decreases-parts g l = length l.rest
