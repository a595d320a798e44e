use Rattle.std.proofs.Common.{◌≡◌, ◌+◌, [], ◌∷◌, ap, ◌∙◌, arith}
use Rattle.line_words.specs.Line.{lines}
use Rattle.mp_core.specs.FileText.{numbered_from, spelled, first_without_event}
use Rattle.mp_core.proofs.EventLines.{numbered_first, first_behind, fault_behind, taken_more}
use Rattle.mp_core.proofs.lines.take_lines.Goals as goal

pub lines-preserved : goal.lines-preserved
lines-preserved c =
    let p = c.args.processors in
    let k = c.args.cells in
    let n = c.lines.number in
    let line = c.first_line.result.0.now in
    let after = lines c.first_line.result.1.now in
    let left : lines c.lines.rest.now ≡ line ∷ after = c.first_line.ensures.lines in
    record {
      short = omega (arith, c.first_line.ensures.shorter, c.lines.invariant.short);
      spelling = taken_more p k n line after c.lines.events c.take_line.new.events (spelled p k (numbered_from c.args.first (lines c.args.text.now)))
          c.in-Ok.ensures.line.1 (rw left at c.lines.invariant.spelling);
      sound = c.lines.invariant.sound ∙ ap (λ ls. first_without_event p k (numbered_from n ls)) left ∙ ap (first_without_event p k) (numbered_first n line after)
          ∙ first_behind p k (numbered_from n (line ∷ [])) (numbered_from (n + 1) after) c.in-Ok.ensures.line.0;
      fits = c.in-Ok.ensures.fits c.lines.invariant.fits;
    }

pub returns-in-Err-clause-fault : goal.returns-in-Err-clause-fault
returns-in-Err-clause-fault c =
    let p = c.args.processors in let k = c.args.cells in let n = c.lines.number in
    fault_behind p k n c.first_line.result.0.now (lines c.first_line.result.1.now) c.in-Err.fault (numbered_from c.args.first (lines c.args.text.now))
    (c.lines.invariant.sound ∙ ap (λ ls. first_without_event p k (numbered_from n ls)) c.first_line.ensures.lines) c.in-Err.ensures.line
