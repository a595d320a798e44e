use Rattle.std.proofs.Common.{◌<◌, arith, ◌∙◌}
use Rattle.line_words.specs.Line.{lines}
use Rattle.program_edge.proofs.Passing.{line_behind, no_line, one_on}
use Rattle.program_edge.proofs.plan_mistake.line_at.Goals as goal

pub lines-preserved : goal.lines-preserved
lines-preserved c =
    let some : 0 < c.lines.ahead = omega (arith, c.if-ahead-eq0.false) in
    record {
      line = line_behind c.args.text.now c.lines.rest.now c.first_line.result.1.now c.first_line.result.0.now c.first_line.ensures.lines c.lines.invariant.line;
      ahead = c.lines.invariant.ahead ∙ one_on (lines c.lines.rest.now) (lines c.first_line.result.1.now) c.first_line.result.0.now c.lines.ahead c.first_line.ensures.lines some;
    }

pub returns-clause-numbered : goal.returns-clause-numbered
returns-clause-numbered c =
    c.lines.invariant.ahead ∙ no_line c.lines.rest.now c.lines.ahead c.is_empty.result c.is_empty.ensures c.lines-test.false
