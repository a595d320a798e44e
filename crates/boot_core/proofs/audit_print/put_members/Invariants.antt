use Rattle.std.proofs.Common.{◌≡◌, drop}
use Rattle.boot_core.specs.AuditText.{members_text}
use Rattle.boot_core.proofs.Rest.{Leaves}
use Rattle.boot_core.proofs.audit_print.put_members.Given as goal

-- the lines so far, and those that are left, make the whole
abbrev pub invariant-modules : goal.invariant-modules
invariant-modules g l = record {
  number : l.number ≡ l.member-index;
  text : Leaves (g.S.Sink.text l.fn.sink) (g.S.Sink.text l.sink) (members_text l.volume l.number (drop l.member-index l.modules)) (members_text l.volume 0 l.modules);
  count : g.S.Sink.faults l.sink ≡ g.S.Sink.faults l.fn.sink;
}
