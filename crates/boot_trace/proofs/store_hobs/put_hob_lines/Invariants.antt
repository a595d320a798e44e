use Rattle.std.proofs.Common.{◌≡◌, ℕ, ◌-◌, ◌≤◌, length, take}
use Rattle.std.specs.Io.KnownBytes.{Appends}
use Rattle.store_model.specs.StoreState.{StoreState}
use Rattle.boot_model.specs.{Listing.hob_lines_from, Text.text_of}
use Rattle.boot_trace.specs.HobLines.{all_hobs}
use Rattle.boot_trace.proofs.HobPlaces.{place_of}
use Rattle.boot_trace.proofs.store_hobs.put_hob_lines.Given as goal

-- the lines before the next HOB, without a fault
abbrev pub invariant-hobs : goal.invariant-hobs
invariant-hobs g l = record {
  text : (s : StoreState) → g.M.PeiStore.stands_for l.store s
      → (n : ℕ) × (n ≤ length (all_hobs s)) × (l.offset ≡ place_of (all_hobs s) n) × Appends (g.S.Sink.text l.fn.sink) (g.S.Sink.text l.sink) (text_of (take n (hob_lines_from s 0 (all_hobs s))));
  count : g.S.Sink.faults l.sink ≡ g.S.Sink.faults l.fn.sink;
}

abbrev pub decreases-hobs : goal.decreases-hobs
decreases-hobs g l = 0x10000000000000000 - l.offset
