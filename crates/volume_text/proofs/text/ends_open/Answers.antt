use Rattle.std.proofs.Common.{arith}
use Rattle.volume_text.proofs.Going.{moved}
use Rattle.volume_text.proofs.text.ends_open.Goals as goal

pub lines-preserved : goal.lines-preserved
lines-preserved c = record {
  reached = moved c.args.text.now c.lines.rest.now c.first_line.result.0.now c.first_line.result.1.now c.lines.state c.in-Ok.next c.lines.number c.lines.invariant.reached c.first_line.ensures.lines c.in-Ok.ensures.moves;
  said = c.in-Ok.ensures.said;
  few = omega (arith, c.lines.invariant.few, c.first_line.ensures.shorter);
}
