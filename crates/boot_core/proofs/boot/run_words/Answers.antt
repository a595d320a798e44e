use Rattle.std.proofs.Common.{inl}
use Rattle.boot_core.specs.CommandLine.{AskForBoot}
use Rattle.boot_io.specs.Words.{words_of}
use Rattle.boot_core.specs.Deciding.{IsBoot, IsRefused, Names}
use Rattle.boot_core.specs.Outcome.{AskedOutcome, Outcome, asked_done, kind_of}
use Rattle.boot_core.proofs.{Asking.boots_of, Asking.due_of_words, Ending.ends_up, Ending.refused_ends, Causes.memory_kept}
use Rattle.boot_core.proofs.WantOfMemory.{wanted_of}
use Rattle.boot_core.proofs.boot.run_words.Goals as goal

pub returns-in-Ok-clause-ends : goal.returns-in-Ok-clause-ends
returns-in-Ok-clause-ends g c =
    let words = words_of c.args.words.now in
    let told = g.F.Files.told c.args.files.now in
    let asked = c.in-Ok.asked in
    let is = c.in-Ok.ensures.row.0 in
    ends_up (kind_of c.run.result) (AskedOutcome asked) (Outcome told words) (Names told words) (IsBoot asked) (AskForBoot words) c.run.result _
    (λ s t o. asked_done asked is o) (boots_of told words asked is) c.in-Ok.ensures.row.1 c.run.ensures.ends

pub returns-in-Err-clause-ends : goal.returns-in-Err-clause-ends
returns-in-Err-clause-ends g c =
    let words = words_of c.args.words.now in
    let told = g.F.Files.told c.args.files.now in
    refused_ends c.in-Err.no_job (IsRefused told words) (Outcome told words) (Names told words) (AskForBoot words) c.refuse.result _
    (due_of_words told words) c.in-Err.ensures.row c.refuse.ensures

pub returns-in-Ok-clause-memory : goal.returns-in-Ok-clause-memory
returns-in-Ok-clause-memory g c = λ is.
    wanted_of (g.F.Files.told c.args.files.now) (words_of c.args.words.now) _ c.in-Ok.asked c.in-Ok.ensures.row.0 (c.run.ensures.memory is)

pub returns-in-Err-clause-memory : goal.returns-in-Err-clause-memory
returns-in-Err-clause-memory g c = λ is.
    let words = words_of c.args.words.now in
    let told = g.F.Files.told c.args.files.now in
    inl (memory_kept (Outcome told words) (Names told words) ⊥ c.refuse.result _
    (refused_ends c.in-Err.no_job (IsRefused told words) (Outcome told words) (Names told words) ⊥ c.refuse.result _ (due_of_words told words) c.in-Err.ensures.row c.refuse.ensures)
    (λ begun. begun) is)
