use Rattle.boot_core.specs.AuditText.{members_text}
use Rattle.boot_io.proofs.PutsLaws.{part_of_more, puts_then, puts_err}
use Rattle.boot_core.proofs.audit_print.put_entry.Goals as goal

pub returns-clause-text : goal.returns-clause-text
returns-clause-text g c =
    let T = g.S.Sink.text in
    puts_then c.put_members.result (T c.args.sink.now) (T c.put_volume.new.sink) (T c.put_members.new.sink) _ (members_text c.args.number 0 c.args.modules.now) c.in_ok-put_volume.ensures.text c.put_members.ensures.text

pub returns-in_err-put_volume-clause-text : goal.returns-in_err-put_volume-clause-text
returns-in_err-put_volume-clause-text g c =
    let T = g.S.Sink.text in
    puts_err c.from_residual.result (T c.args.sink.now) (T c.put_volume.new.sink) _ c.from_residual.ensures.0
    (part_of_more _ _ _ (members_text c.args.number 0 c.args.modules.now) c.in_err-put_volume.ensures.text)
