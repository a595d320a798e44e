use Rattle.std.proofs.Common.{ℕ, List, Option, subst}
use Rattle.std.specs.Io.Buffered.{writer_contents}
use Rattle.boot_io.specs.Words.{words_of}
use Rattle.tools_core.specs.{Ends.Ends, OneOutcome.AnswersExactly, Outcome.Names, Outcome.Outcome}
use Rattle.tools_core.proofs.OneOutcome.{handed_on}
use Rattle.tools_core.proofs.tools.tools_and_print.Goals as goal

pub returns-clause-left : goal.returns-clause-left
returns-clause-left g c =
    let W = g.W.Write.contents in
    let F = g.F.Files.faults in
    let told = g.F.Files.told c.args.files.now in
    let words = words_of c.args.words.now in
    let text = writer_contents W c.tools_main-ran.new.sink.to in
    let E : Option (List ℕ) → ℕ → Type 0 = λ old before. Ends (Outcome told words) (Names told words) c.tools_main-ran.result (record {
      old = old;
      new = text;
      before = before;
      now = c.tools_main-ran.new.sink.faults;
      files = record { before = F c.args.files.now; now = F c.tools_main-ran.new.files; missed = g.F.Files.missed c.tools_main-ran.new.files };
    }) in
    let start = c.in-Ok.ensures in
    let ends = subst (λ old. E old 0) start.text (subst (E (writer_contents W c.in-Ok.sink.to)) start.faults c.tools_main-ran.ensures.ends) in
    record {
      text = text;
      ran = c.tools_main-ran.result;
      put = (c.tools_main-ran.new.sink.faults, ends);
      handed = c.finish-output.result.1;
      left_is = c.finish-output.ensures;
      status_is = c.answer.ensures;
    }

pub returns-clause-exactly : goal.returns-clause-exactly
returns-clause-exactly g c =
    let W = g.W.Write.contents in
    let told = g.F.Files.told c.args.files.now in
    let words = words_of c.args.words.now in
    let text = writer_contents W c.tools_main-ran.new.sink.to in
    let E : Option (List ℕ) → Type 0 = λ old. AnswersExactly told words old text c.tools_main-ran.result in
    handed_on c.finish-output.result.1 told words (W c.args.to) text (W c.finish-output.result.0) c.tools_main-ran.result c.answer.result c.finish-output.ensures c.answer.ensures
    (subst E c.in-Ok.ensures.text c.tools_main-ran.ensures.exactly)
