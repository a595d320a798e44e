use Rattle.std.proofs.Common.{ℕ, List, Option, subst}
use Rattle.std.specs.Io.Buffered.{writer_contents}
use Rattle.boot_io.specs.Words.{words_of}
use Rattle.boot_core.specs.{CommandLine.AskForBoot, Deciding.Names, Outcome.Ends, Outcome.Outcome, WantOfMemory.IsWantedOutside}
use Rattle.boot_core.proofs.{LeftBy.handed_comes, LeftBy.stopped_comes, OneStatus.Laws, OneStatus.comes_exactly}
use Rattle.boot_core.proofs.leaving.boot_and_print.Goals as goal

pub returns-clause-left : goal.returns-clause-left
returns-clause-left g c =
    let W = g.W.Write.contents in
    let F = g.F.Files.faults in
    let told = g.F.Files.told c.args.files.now in
    let words = words_of c.args.words.now in
    let text = writer_contents W c.boot_main-ran.new.sink.to in
    let E : Option (List ℕ) → ℕ → Type 0 = λ old before. Ends (Outcome told words) (Names told words) (AskForBoot words) c.boot_main-ran.result (record {
      old = old;
      new = text;
      sink_before = before;
      sink_now = c.boot_main-ran.new.sink.faults;
      files_before = F c.args.files.now;
      files_now = F c.boot_main-ran.new.files;
      missed = g.F.Files.missed c.boot_main-ran.new.files;
    }) in
    let start = c.in-Ok.ensures in
    let ends = subst (λ old. E old 0) start.text (subst (E (writer_contents W c.in-Ok.sink.to)) start.faults c.boot_main-ran.ensures.ends) in
    record {
      text = text;
      ran = c.boot_main-ran.result;
      put = record {
        faults = c.boot_main-ran.new.sink.faults;
        ends = ends;
        memory = λ is. subst (λ old. IsWantedOutside told words (record { old = old; new = text })) start.text (c.boot_main-ran.ensures.memory is);
      };
      handed = c.finish-output.result.1;
      left_is = c.finish-output.ensures;
      status_is = c.answer.ensures;
    }

pub returns-clause-exactly : goal.returns-clause-exactly
returns-clause-exactly g c = λ due answer.
    let words = words_of c.args.words.now in
    let told = g.F.Files.told c.args.files.now in
    let laws : Laws = record {
      plans = c.one_reading.ensures.plans;
      plan_or_fault = c.one_reading.ensures.apart;
      catalogues = c.one_catalogue.ensures.catalogues;
      catalogue_or_fault = c.one_catalogue.ensures.apart;
    } in
    handed_comes c.finish-output.result.1 told words due c.boot_main-ran.result c.answer.result answer c.answer.ensures
    (comes_exactly laws told words (Names told words) (AskForBoot words) c.boot_main-ran.result due _ answer c.boot_main-ran.ensures.ends)

pub returns-in-Err-clause-exactly : goal.returns-in-Err-clause-exactly
returns-in-Err-clause-exactly g c = λ due answer. stopped_comes _ _ due _ answer tt
