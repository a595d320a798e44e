use Rattle.std.proofs.Common.{◌≡◌, ◌≤◌, ◌<◌, ℕ, false}
use Rattle.mem_store.specs.{Indexed.held, Meeting.meets}
use Rattle.mem_store.proofs.index.Index.ppi_from.Given as goal

abbrev pub invariant-notes : goal.invariant-notes
invariant-notes l = record {
  none : (ppi note : ℕ) → l.from ≤ ppi → ppi < l.to → l.sweep.note_from ≤ note → note < l.note → meets (held l.self) ppi note ≡ false;
  on : l.from ≤ l.to;
  to : l.to ≤ l.sweep.ppi_to;
}
