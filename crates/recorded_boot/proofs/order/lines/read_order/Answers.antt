use Rattle.std.proofs.Common.{◌≡◌, [], ◌∷◌, ◌++◌, ap, ◌∙◌, arith}
use Rattle.line_words.specs.Line.{lines}
use Rattle.recorded_boot.specs.OrderText.{numbered_from}
use Rattle.recorded_boot.proofs.OneMore.{before_more, lines_more}
use Rattle.recorded_boot.proofs.order.lines.read_order.Goals as goal

pub lines-preserved : goal.lines-preserved
lines-preserved c =
    let n = c.lines.number in
    let line = c.first_line.result.0.now in
    let after = lines c.first_line.result.1.now in
    let left : lines c.lines.rest.now ≡ line ∷ after = c.first_line.ensures.lines in
    let far = c.lines.invariant.far in
    let here = numbered_from n (line ∷ []) in
    record {
      short = omega (arith, c.first_line.ensures.shorter, c.lines.invariant.short);
      far = (far.0 ++ here, before_more n line after _ far.0 (far.1 ∙ ap (λ ls. far.0 ++ numbered_from n ls) left), lines_more far.0 here c.lines.order c.take_line.new.order far.2 c.in_ok-take_line.ensures);
    }
