use Rattle.boot_io.specs.Words.{words_of}
use Rattle.tools_core.specs.Outcome.{Names, Outcome}
use Rattle.tools_core.proofs.Ending.{put_ends}
use Rattle.tools_core.proofs.tools.run_words.Goals as goal

pub returns-in-Ok : goal.returns-in-Ok
returns-in-Ok g c =
    let T = g.S.Sink.text in
    let N = g.S.Sink.faults in
    let F = g.F.Files.faults in
    let words = words_of c.args.words.now in
    let told = g.F.Files.told c.args.files.now in
    put_ends c.put_report-put.result (Outcome told words) (Names told words) c.in-Ok.report c.answer.result
    (record {
      old = T c.args.sink.now;
      new = T c.put_report-put.new.sink;
      before = N c.args.sink.now;
      now = N c.put_report-put.new.sink;
      files = record { before = F c.args.files.now; now = F c.with_words.new.files; missed = g.F.Files.missed c.with_words.new.files };
    })
    c.in-Ok.ensures.report (rw c.status.ensures at c.answer.ensures) c.put_report-put.ensures.text c.put_report-put.ensures.cause
