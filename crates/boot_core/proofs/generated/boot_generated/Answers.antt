use Rattle.std.proofs.Common.{◌∙◌, ap, refl}
use Rattle.boot_core.specs.{BootEnd.status_of, GeneratedOutcome.GeneratedOutcome, GeneratedOutcome.summary_text, Refusing.status_after}
use Rattle.boot_core.specs.Summing.{IsGeneratedRefusal}
use Rattle.boot_core.proofs.{Ending.answer_ends, Ending.refused_ends, RunEnds.answer_of}
use Rattle.boot_core.proofs.Summed.{due_of_generated, lacks_of_summed, outcome_of}
use Rattle.boot_core.proofs.generated.boot_generated.Goals as goal

pub returns-in-Ok : goal.returns-in-Ok
returns-in-Ok g c =
    let n = c.args.n in
    let summary = c.in-Ok.summary in
    answer_ends c.put_summary-put.result (GeneratedOutcome n) (λ _. ⊥) ⊥ (status_of summary.«end») c.answer.result (summary_text summary.lines) _
    (c.answer.ensures ∙ ap (status_after c.put_summary-put.result) c.status_of.ensures) (answer_of summary.«end») (outcome_of n summary c.in-Ok.ensures) refl c.put_summary-put.ensures.text c.put_summary-put.ensures.cause

pub returns-in-Err : goal.returns-in-Err
returns-in-Err g c =
    let n = c.args.n in
    refused_ends c.in-Err.no_catalog (IsGeneratedRefusal n) (GeneratedOutcome n) (λ _. ⊥) ⊥ c.refuse.result _ (due_of_generated n) (lacks_of_summed n c.in-Err.no_catalog c.in-Err.ensures) c.refuse.ensures
