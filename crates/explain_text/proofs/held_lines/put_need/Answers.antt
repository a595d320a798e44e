use Rattle.std.proofs.Common.{◌++◌, sym, ap, ◌∙◌}
use Rattle.explain_text.specs.HeldLines.{asked_line}
use Rattle.explain_text.proofs.held_lines.put_need.Goals as goal

pub returns-in_ok-put_lacks-in-Absent : goal.returns-in_ok-put_lacks-in-Absent
returns-in_ok-put_lacks-in-Absent c = λ begun modules is.
    c.in_ok-put_lacks-in-Absent.ensures begun modules is
    ∙ ap (λ giver. c.args.out.now ++ asked_line begun modules c.args.phase c.args.number c.args.need.now.guid giver) (sym c.in-Absent.is)
