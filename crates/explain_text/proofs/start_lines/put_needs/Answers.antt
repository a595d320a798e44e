use Rattle.explain_text.specs.StartLines.{needed_line}
use Rattle.explain_text.proofs.HeldText.{text_put}
use Rattle.explain_text.proofs.start_lines.put_needs.Goals as goal

pub needs-preserved : goal.needs-preserved
needs-preserved c =
    text_put (needed_line c.args.number) c.args.needs.now c.needs.need-index _ c.args.out.now c.needs.out c.put_needed.new.out c.needs-test.true c.in_ok-put_needed.ensures c.needs.invariant
