use Rattle.boot_io.proofs.PutsLaws.{puts_then}
use Rattle.gcd_map.specs.MapText.{answers_text, map_text}
use Rattle.tools_core.proofs.print.put_report.Goals as goal

pub returns-in_ok-put_answers-in-Map-clause-text : goal.returns-in_ok-put_answers-in-Map-clause-text
returns-in_ok-put_answers-in-Map-clause-text g c =
    let T = g.S.Sink.text in
    rw c.in-Map.is (puts_then c.put_map.result (T c.args.sink.now) (T c.put_answers.new.sink) (T c.put_map.new.sink) (answers_text c.in-Map.steps) (map_text c.in-Map.map.ranges)
    (rw c.as_slice-in-Map.ensures at c.in_ok-put_answers-in-Map.ensures.text) (rw c.map.ensures.ranges at c.put_map.ensures.text))
