use Rattle.boot_io.proofs.PutsLaws.{puts_err}
use Rattle.boot_model.specs.{PeiStep.report_lines, Text.text_of}
use Rattle.pei_core.proofs.Reported.{part_of_reports}
use Rattle.pei_core.proofs.reports.put_reports.Goals as goal

pub returns-in_err-put_made-clause-text : goal.returns-in_err-put_made-clause-text
returns-in_err-put_made-clause-text g c =
    let T = g.S.Sink.text in
    puts_err c.from_residual.result (T c.args.sink.now) (T c.put_made.new.sink) (text_of (report_lines c.args.volumes.now)) c.from_residual.ensures.0
    (part_of_reports c.args.volumes.now c.volumes.volume-index (T c.args.sink.now) (T c.volumes.sink) (T c.put_made.new.sink) c.volumes-test.true c.volumes.invariant.text c.in_err-put_made.ensures.text)
