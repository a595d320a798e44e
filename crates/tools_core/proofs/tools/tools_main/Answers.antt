use Rattle.boot_io.specs.Words.{words_of}
use Rattle.tools_core.specs.{Ends.Trail, Outcome.Names, Outcome.Outcome}
use Rattle.tools_core.proofs.Faults.{file_fault, files_rose, nothing_put, sink_fault, sink_rose}
use Rattle.tools_core.proofs.{OneOutcome.answers_exactly, TextsAgain.again}
use Rattle.tools_core.proofs.tools.tools_main.Goals as goal

pub returns : goal.returns
returns g c =
    let T = g.S.Sink.text in
    let N = g.S.Sink.faults in
    let F = g.F.Files.faults in
    let trail : Trail = record {
      old = T c.args.sink.now;
      new = T c.run_words.new.sink;
      before = N c.args.sink.now;
      now = N c.run_words.new.sink;
      files = record { before = F c.args.files.now; now = F c.run_words.new.files; missed = g.F.Files.missed c.run_words.new.files };
    } in
    let told = g.F.Files.told c.args.files.now in
    let words = words_of c.args.words.now in
    let status = c.run_words.result in
    let ends = c.run_words.ensures in
    record {
      ends = ends;
      exactly = answers_exactly c.one_outcome.ensures told words status trail ends;
      file_fault = file_fault told words status trail ends;
      files_rose = files_rose (Outcome told words) (Names told words) status trail ends;
      sink_fault = sink_fault (Outcome told words) (Names told words) status trail ends;
      sink_rose = sink_rose (Outcome told words) (Names told words) status trail ends;
      memory = nothing_put (Outcome told words) (Names told words) status trail ends;
      any_moment = c.jobs_in_order.ensures.any_moment;
      idle = c.jobs_in_order.ensures.idle;
      again = again (record { made = c.made_of_its_text.ensures; refused = c.refused_for_room.ensures });
    }
