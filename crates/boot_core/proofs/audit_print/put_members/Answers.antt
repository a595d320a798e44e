use Rattle.std.proofs.Common.{◌+◌, drop, ap, ◌∙◌, arith}
use Rattle.boot_core.specs.AuditText.{members_text, text_in}
use Rattle.boot_core.proofs.{Rest.leaves_less, Rest.leaves_part, AuditLines.next_item}
use Rattle.boot_io.proofs.PutsLaws.{puts_err}
use Rattle.boot_core.proofs.audit_print.put_members.Goals as goal

pub returns-in_err-put_module_in-clause-text : goal.returns-in_err-put_module_in-clause-text
returns-in_err-put_module_in-clause-text g c =
    let T = g.S.Sink.text in
    let v = c.args.volume in
    let n = c.modules.number in
    let x = c.member-item.result in
    let behind = drop (c.modules.member-index + 1) c.args.modules.now in
    let next = ap (members_text v n) (next_item c.args.modules.now c.modules.member-index x c.modules-test.true c.member-item.is) in
    puts_err c.from_residual.result (T c.args.sink.now) (T c.put_module_in.new.sink) _ c.from_residual.ensures.0
    (leaves_part (T c.args.sink.now) (T c.modules.sink) (T c.put_module_in.new.sink) (text_in v (record { number = n; item = x })) _ (members_text v (n + 1) behind) _ next c.modules.invariant.text c.in_err-put_module_in.ensures.text)

pub modules-preserved : goal.modules-preserved
modules-preserved g c =
    let T = g.S.Sink.text in
    let v = c.args.volume in
    let n = c.modules.number in
    let x = c.member-item.result in
    let behind = drop (c.modules.member-index + 1) c.args.modules.now in
    let next = ap (members_text v n) (next_item c.args.modules.now c.modules.member-index x c.modules-test.true c.member-item.is) in
    record {
      number = omega (arith, c.modules.invariant.number);
      text = leaves_less (T c.args.sink.now) (T c.modules.sink) (T c.put_module_in.new.sink) (text_in v (record { number = n; item = x })) _ (members_text v (n + 1) behind) _ next c.modules.invariant.text c.in_ok-put_module_in.ensures.text;
      count = c.in_ok-put_module_in.ensures.cause ∙ c.modules.invariant.count;
    }
