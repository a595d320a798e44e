use Rattle.std.proofs.Common.{◌++◌, ap, ◌∙◌}
use Rattle.explain_text.specs.{declared.reasons.Held.Held, HeldLines.held_lines}
use Rattle.explain_text.proofs.HeldText.{text_next}
use Rattle.explain_text.proofs.held_lines.put_all_held.Goals as goal

pub waits-preserved : goal.waits-preserved
waits-preserved c = λ begun modules are.
    text_next (held_lines begun modules) c.args.held.now c.waits.wait-index c.wait-item.result c.args.out.now c.waits.out c.put_wait.new.out c.waits-test.true
    (c.in_ok-put_wait.ensures begun modules are ∙ ap (λ (wait : Held). c.waits.out ++ held_lines begun modules wait) c.wait-item.is) (c.waits.invariant begun modules are)
