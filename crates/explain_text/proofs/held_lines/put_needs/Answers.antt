use Rattle.explain_text.specs.HeldLines.{need_line}
use Rattle.explain_text.proofs.HeldText.{text_next}
use Rattle.explain_text.proofs.held_lines.put_needs.Goals as goal

pub needs-preserved : goal.needs-preserved
needs-preserved c = λ begun modules is.
    text_next (need_line begun modules c.args.phase c.args.number) c.args.needs.now c.needs.need-index _ c.args.out.now c.needs.out c.put_need.new.out c.needs-test.true
    (c.in_ok-put_need.ensures begun modules is) (c.needs.invariant begun modules is)
