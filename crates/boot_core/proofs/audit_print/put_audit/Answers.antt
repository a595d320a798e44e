use Rattle.std.proofs.Common.{List, ℕ, sym, subst}
use Rattle.boot_io.specs.Sink.{Puts, AppendsPart}
use Rattle.boot_io.proofs.PutsLaws.{part_of_more, puts_err, puts_then}
use Rattle.boot_core.specs.AuditText.{audit_text, done_line, entries_text}
use Rattle.boot_core.proofs.AuditLines.{audit_is}
use Rattle.boot_core.proofs.audit_print.put_audit.Goals as goal

pub returns-clause-text : goal.returns-clause-text
unfolding done_line
returns-clause-text g c =
    let T = g.S.Sink.text in
    let catalog = c.args.catalog.now in
    let P : List ℕ → Type 0 = λ text. Puts c.put_made.result (T c.args.sink.now) (T c.put_made.new.sink) text in
    let entries = rw (c.as_slice.ensures, c.as_slice-2.ensures) at c.in_ok-put_entries.ensures.text in
    subst P (sym (audit_is catalog)) (puts_then c.put_made.result (T c.args.sink.now) (T c.put_entries.new.sink) (T c.put_made.new.sink) (entries_text catalog.modules 0 catalog.volumes) done_line entries c.put_made.ensures.text)

pub returns-in_err-put_entries-clause-text : goal.returns-in_err-put_entries-clause-text
returns-in_err-put_entries-clause-text g c =
    let T = g.S.Sink.text in
    let catalog = c.args.catalog.now in
    let P : List ℕ → Type 0 = λ text. AppendsPart (T c.args.sink.now) (T c.put_entries.new.sink) text in
    let entries = rw (c.as_slice.ensures, c.as_slice-2.ensures) at c.in_err-put_entries.ensures.text in
    puts_err c.from_residual.result (T c.args.sink.now) (T c.put_entries.new.sink) (audit_text catalog) c.from_residual.ensures.0
    (subst P (sym (audit_is catalog)) (part_of_more _ _ (entries_text catalog.modules 0 catalog.volumes) done_line entries))
