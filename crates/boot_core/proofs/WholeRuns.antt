-- The words of a boot of a plan and images without a fault lead to its run alone.
use Rattle.std.proofs.Common.{◌≡◌, ℕ, List, Option, refl, ap, ◌∙◌, subst, inl, inr}
use Rattle.boot_plan.specs.declared.plan.Plan.{Plan}
use Rattle.mod_catalog.specs.{declared.catalogue.Catalog.Catalog, Catalogue.IsCatalogue}
use Rattle.pi_base.specs.{Field.AreBytes, Lists.Each}
use Rattle.boot_core.specs.{declared.plan_files.job.Job.Job, Job.IsJob, Job.IsRefusal, declared.status.Status.Status}
use Rattle.boot_core.specs.declared.status.Status.TheVariants as V
use Rattle.boot_core.specs.{declared.command_line.Command.TheVariants.Boot, Causes.AreTold}
use Rattle.boot_core.specs.declared.deciding.Asked.TheVariants as A
use Rattle.boot_core.specs.Deciding.{asked_of, job_asked, number_asked, words_refused, job_refused}
use Rattle.boot_core.specs.Outcome.{Outcome, AskedOutcome, ImagesOutcome, CommandOutcome, BootOutcome, Trail, Ends, Answered, refusal_told, asked_done, image_refused, images_sound}
use Rattle.boot_core.specs.Completeness.{AskForBootOf, HasRun, IsComplete}
use Rattle.boot_core.proofs.OneStatus.{Laws, job_bytes, job_or_refusal, number_or_plan, one_asked, one_job, one_plan, plan_told}

of_images : Laws → (plan : Plan) (catalog : Catalog) (images : List (List ℕ)) (status : Status) (text : List ℕ) → Each AreBytes images → IsCatalogue plan images catalog
    → ImagesOutcome (CommandOutcome Boot plan images) plan images status text → BootOutcome plan catalog images status text
of_images laws plan catalog images status text are sound (image_refused f is p x) = absurd (laws.catalogue_or_fault plan images catalog f are sound is)
of_images laws plan catalog images status text are sound (images_sound other also o) =
    let P : Catalog → Type 0 = λ c. CommandOutcome Boot plan images c status text in
    subst P (laws.catalogues plan images other catalog also sound) o

-- the job of the words' plan
of_job : Laws → (told : List ℕ → Option (List ℕ)) (words : List (List ℕ)) (plan : Plan) (catalog : Catalog) (images : List (List ℕ)) (status : Status) (text : List ℕ)
    → (asks : AskForBootOf told words plan images catalog) → AreTold told words → (job : Job) → IsJob told asks.name job → AskedOutcome (A.Boot job) status text → BootOutcome plan catalog images status text
of_job laws told words plan catalog images status text asks all job is o =
    let some = all.plan_file Boot asks.name asks.asked in
    let files = plan_told told words Boot asks.name all asks.asked in
    let this : Job = record { plan = plan; images = images } in
    let same : job ≡ this = one_job laws told asks.name some files job this is asks.job in
    of_images laws plan catalog images status text (job_bytes told asks.name files this asks.job) asks.sound (subst (λ j. AskedOutcome (A.Boot j) status text) same o)

of_words : Laws → (told : List ℕ → Option (List ℕ)) (words : List (List ℕ)) (plan : Plan) (catalog : Catalog) (images : List (List ℕ)) (status : Status) (text : List ℕ)
    → AskForBootOf told words plan images catalog → AreTold told words → Outcome told words status text → BootOutcome plan catalog images status text
of_words laws told words plan catalog images status text asks all (refusal_told line (words_refused none e) is t) = absurd (none.no_plan Boot asks.name asks.asked)
of_words laws told words plan catalog images status text asks all (refusal_told line (job_refused command name also refusal) is t) =
    let here = subst (λ n. IsRefusal told n line) (one_plan words Boot command asks.name name asks.asked also) refusal in
    absurd (job_or_refusal laws told asks.name (all.plan_file Boot asks.name asks.asked) (plan_told told words Boot asks.name all asks.asked) (record { plan = plan; images = images }) line asks.job here)
of_words laws told words plan catalog images status text asks all (asked_done asked (number_asked n also e) o) = absurd (number_or_plan words n Boot asks.name also asks.asked)
of_words laws told words plan catalog images status text asks all (asked_done asked (job_asked command name also job is e) o) =
    let here = subst (λ n. IsJob told n job) (one_plan words Boot command asks.name name asks.asked also) is in
    let boots = e ∙ ap (λ c. asked_of c job) (one_asked words Boot command asks.name name asks.asked also) in
    of_job laws told words plan catalog images status text asks all job here (subst (λ x. AskedOutcome x status text) boots o)

answered : Laws → (told : List ℕ → Option (List ℕ)) (words : List (List ℕ)) (status : Status) (t : Trail) → Answered (Outcome told words) status t
    → (plan : Plan) (images : List (List ℕ)) (catalog : Catalog) → AreTold told words → AskForBootOf told words plan images catalog → HasRun plan images catalog status t
answered laws told words status t a plan images catalog all asks = record {
  text = a.text;
  ran = of_words laws told words plan catalog images status a.text asks all a.outcome;
  whole = a.whole;
}

pub complete : Laws → (told : List ℕ → Option (List ℕ)) (words : List (List ℕ)) (Named : List ℕ → Type 0) (Boots : Type 0) (status : Status) (t : Trail)
    → Ends (Outcome told words) Named Boots status t → IsComplete told words status t
complete laws told words Named Boots V.Done t e = λ plan images catalog all asks none. inr (answered laws told words V.Done t e plan images catalog all asks)
complete laws told words Named Boots V.Usage t e = λ plan images catalog all asks none. inr (answered laws told words V.Usage t e plan images catalog all asks)
complete laws told words Named Boots V.FileFault t e = λ plan images catalog all asks none. absurd (none.files e.failed.rose)
complete laws told words Named Boots V.TooLong t e = λ plan images catalog all asks none. inr (answered laws told words V.TooLong t e plan images catalog all asks)
complete laws told words Named Boots V.PlanRefused t e = λ plan images catalog all asks none. inr (answered laws told words V.PlanRefused t e plan images catalog all asks)
complete laws told words Named Boots V.ImageRefused t e = λ plan images catalog all asks none. inr (answered laws told words V.ImageRefused t e plan images catalog all asks)
complete laws told words Named Boots V.NoHandoff t e = λ plan images catalog all asks none. inr (answered laws told words V.NoHandoff t e plan images catalog all asks)
complete laws told words Named Boots V.Spent t e = λ plan images catalog all asks none. inr (answered laws told words V.Spent t e plan images catalog all asks)
complete laws told words Named Boots V.Deep t e = λ plan images catalog all asks none. inr (answered laws told words V.Deep t e plan images catalog all asks)
complete laws told words Named Boots V.SinkFault t e = λ plan images catalog all asks none. absurd (none.sink e.sink)
complete laws told words Named Boots V.Memory t e = λ plan images catalog all asks none. inl refl
