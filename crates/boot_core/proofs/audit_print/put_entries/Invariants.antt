use Rattle.std.proofs.Common.{◌≡◌, drop}
use Rattle.boot_core.specs.AuditText.{entries_text}
use Rattle.boot_core.proofs.Rest.{Leaves}
use Rattle.boot_core.proofs.audit_print.put_entries.Given as goal

-- the lines so far, and those that are left, make the whole
abbrev pub invariant-entries : goal.invariant-entries
invariant-entries g l = record {
  number : l.number ≡ l.entry-index;
  text : Leaves (g.S.Sink.text l.fn.sink) (g.S.Sink.text l.sink) (entries_text l.modules l.number (drop l.entry-index l.entries)) (entries_text l.modules 0 l.entries);
  count : g.S.Sink.faults l.sink ≡ g.S.Sink.faults l.fn.sink;
}
