use Rattle.std.proofs.lemmas.Result.{err_from_is_err_and}
use Rattle.std.proofs.Common.{take, ◌∙◌, arith, rules, inl, below_more}
use Rattle.line_words.specs.Line.{lines}
use Rattle.boot_plan.specs.Said.{said}
use Rattle.boot_plan.proofs.Reading.{at_is, said_more}
use Rattle.boot_plan.proofs.OneReading.{read_ok, read_err, ended}
use Rattle.boot_plan.proofs.read.read_plan.Goals as goal

pub lines-preserved : goal.lines-preserved
lines-preserved c =
    let all = lines c.args.text.now in let n = c.lines.count in
    let at = at_is all n c.first_line.result.0.now (lines c.first_line.result.1.now) (c.lines.invariant.left ∙ c.first_line.ensures.lines) in
    let added = c.in_ok-add.ensures (said (take n all)) c.lines.invariant.keeps c.lines.invariant.range in
    record {
      within = omega (arith, at.within);
      short = omega (arith, c.first_line.ensures.shorter);
      left = at.rest_is;
      sound = below_more _ _ c.lines.invariant.sound (rw at.line_is added.0);
      keeps = rw (said_more all n c.first_line.result.0.now (lines c.first_line.result.1.now) at) added.1;
      range = added.2;
    }

pub returns-in_err-add-clause-fault : goal.returns-in_err-add-clause-fault
returns-in_err-add-clause-fault c =
    let p = err_from_is_err_and c.from_residual.result c.from_residual.ensures.1 in
    rw (p.1, p.2) (λ some.
    let all = lines c.args.text.now in let n = c.lines.count in
    let at = at_is all n c.first_line.result.0.now (lines c.first_line.result.1.now) (c.lines.invariant.left ∙ c.first_line.ensures.lines) in
    let fault = c.in_err-add.ensures (said (take n all)) c.lines.invariant.keeps c.lines.invariant.range some in
    inl (record {
      place = n;
      within = at.within;
      line = fault.0;
      cause = rw at.line_is fault.1;
      first = c.lines.invariant.sound;
    }))

pub returns-clause-plan : goal.returns-clause-plan
returns-clause-plan c =
    let all = lines c.args.text.now in let n = c.lines.count in let i = c.lines.invariant in
    let done = ended all n c.lines.rest.now i.within i.left (search rules) in
    read_ok c.finish.result c.args.text.now n c.lines.draft done.0 (λ place h. i.sound place (omega arith)) (rw done.1 at i.keeps) c.finish.ensures.plan

pub returns-clause-fault : goal.returns-clause-fault
returns-clause-fault c =
    let all = lines c.args.text.now in let n = c.lines.count in let i = c.lines.invariant in
    let done = ended all n c.lines.rest.now i.within i.left (search rules) in
    read_err c.finish.result c.args.text.now n c.lines.draft done.0 (λ place h. i.sound place (omega arith)) (rw done.1 at i.keeps) c.finish.ensures.fault
