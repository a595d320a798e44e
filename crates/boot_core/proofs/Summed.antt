-- What follows of a boot that was summed up.
use Rattle.std.proofs.Common.{ℕ, List, None, Err, refl, subst, inl}
use Rattle.boot_plan.specs.declared.plan.Plan.{Plan}
use Rattle.boot_model.specs.declared.line.Line.{Line}
use Rattle.boot_core.specs.{declared.plan_files.reading.NoJob.NoJob, Reading.Lacks, BootEnd.status_of}
use Rattle.boot_core.specs.declared.plan_files.reading.NoJob.TheVariants as N
use Rattle.boot_core.specs.{Examining.AreRefused, Examining.IsJob, Outcome.images_sound, declared.generated.Summary.Summary}
use Rattle.boot_core.specs.GeneratedOutcome.{GeneratedOutcome, SummaryOutcome, generated_images, generated_plan, summary_text}
use Rattle.boot_core.specs.Summing.{IsGeneratedRefusal, IsSummaryOf, SumsUp}
use Rattle.boot_core.proofs.{Ending.IsDue, Examined.due_of_image}

-- a summary is what a generated volume leads to
pub outcome_of : (n : ℕ) (summary : Summary) → IsSummaryOf n summary → GeneratedOutcome n (status_of summary.«end») (summary_text summary.lines)
outcome_of n summary is =
    let leads : SummaryOutcome n is.catalog (status_of summary.«end») (summary_text summary.lines) = record { end = summary.«end»; ended = is.summed.ended; status_is = refl; text_is = rw is.summed.lines_are refl } in
    record { of_bytes = is.of_bytes; leads = images_sound is.catalog is.sound leads }

-- and so is the line that refuses it
pub due_of_generated : (n : ℕ) (line : Line) → IsGeneratedRefusal n line → IsDue (GeneratedOutcome n) line
due_of_generated n line r =
    let due = due_of_image (SummaryOutcome n) generated_plan (generated_images n) line r.refused in
    record { kind = due.kind; outcome = record { of_bytes = r.of_bytes; leads = due.outcome } }

-- no file failed
pub lacks_of_summed : (n : ℕ) (none : NoJob) → SumsUp n (Err none) → Lacks (IsGeneratedRefusal n) (λ _. ⊥) (record { before = 0; now = 0; missed = None }) none
lacks_of_summed n (N.Refused line) r = inl (r, refl)
lacks_of_summed n N.Memory r = refl

-- a job whose images are refused is not summed up
pub refused_up : (n : ℕ) (plan : Plan) (images : List (List ℕ)) (none : NoJob) → IsJob n plan images → AreRefused plan images none → SumsUp n (Err none)
refused_up n plan images (N.Refused line) job r =
    let P : Plan → List (List ℕ) → Type 0 = λ p x. AreRefused p x (N.Refused line) in
    record { of_bytes = job.of_bytes; refused = subst (λ p. P p (generated_images n)) job.plan_is (subst (P plan) job.images_are r) }
refused_up n plan images N.Memory job r = tt
