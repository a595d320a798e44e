use Rattle.std.proofs.Common.{◌+◌, drop, get_or, None, ap, ◌∙◌, arith}
use Rattle.boot_core.specs.AuditText.{entries_text, entry_text}
use Rattle.boot_core.proofs.Rest.{leaves_less, leaves_part}
use Rattle.std.proofs.lemmas.List.{drop_more}
use Rattle.mod_catalog.specs.declared.catalogue.VolumeEntry.{VolumeEntry}
use Rattle.boot_io.proofs.PutsLaws.{puts_err}
use Rattle.boot_core.proofs.audit_print.put_entries.Goals as goal

pub returns-in_err-put_entry-clause-text : goal.returns-in_err-put_entry-clause-text
returns-in_err-put_entry-clause-text g c =
    let T = g.S.Sink.text in
    let modules = c.args.modules.now in
    let n = c.entries.number in
    let d : VolumeEntry = record { base = 0; len = 0; name = None; parent = None } in
    let i = c.entries.entry-index in
    let x = get_or c.args.entries.now i d in
    let behind = drop (i + 1) c.args.entries.now in
    let next = ap (entries_text modules n) (drop_more c.args.entries.now i d c.entries-test.true) in
    puts_err c.from_residual.result (T c.args.sink.now) (T c.put_entry.new.sink) _ c.from_residual.ensures.0
    (leaves_part (T c.args.sink.now) (T c.entries.sink) (T c.put_entry.new.sink) (entry_text modules (record { number = n; item = x })) _ (entries_text modules (n + 1) behind) _ next c.entries.invariant.text c.in_err-put_entry.ensures.text)

pub entries-preserved : goal.entries-preserved
entries-preserved g c =
    let T = g.S.Sink.text in
    let modules = c.args.modules.now in
    let n = c.entries.number in
    let d : VolumeEntry = record { base = 0; len = 0; name = None; parent = None } in
    let i = c.entries.entry-index in
    let x = get_or c.args.entries.now i d in
    let behind = drop (i + 1) c.args.entries.now in
    let next = ap (entries_text modules n) (drop_more c.args.entries.now i d c.entries-test.true) in
    record {
      number = omega (arith, c.entries.invariant.number);
      text = leaves_less (T c.args.sink.now) (T c.entries.sink) (T c.put_entry.new.sink) (entry_text modules (record { number = n; item = x })) _ (entries_text modules (n + 1) behind) _ next c.entries.invariant.text c.in_ok-put_entry.ensures.text;
      count = c.in_ok-put_entry.ensures.cause ∙ c.entries.invariant.count;
    }
