-- What the words ask for, seen from what it leads to.
use Rattle.std.proofs.Common.{◌≡◌, ℕ, List, Option, refl, ap, subst, inl, inr}
use Rattle.boot_model.specs.declared.line.Line.{Line}
use Rattle.boot_core.specs.{declared.plan_files.job.Job.Job, declared.plan_files.reading.NoJob.NoJob}
use Rattle.boot_core.specs.declared.plan_files.reading.NoJob.TheVariants.{Refused, Memory}
use Rattle.boot_core.specs.Job.{IsRefusal, plan_long, plan_refused, volume_long}
use Rattle.boot_core.specs.{Reading.FilesTrail, Reading.Lacks, declared.command_line.Command.Command}
use Rattle.boot_core.specs.declared.command_line.Command.TheVariants.{Boot, Audit}
use Rattle.boot_core.specs.{declared.deciding.Asked.Asked, CommandLine.AskFor, CommandLine.AskForBoot, Refusing.refusal_status}
use Rattle.boot_core.specs.Deciding.{IsAsked, IsBoot, IsRefused, asked_of, job_asked, number_asked, words_refused, job_refused}
use Rattle.boot_core.specs.Outcome.{OfAnswer, Outcome, kind_of, refusal_told}
use Rattle.boot_core.proofs.Ending.{IsDue}

-- why there is nothing, told of more
pub lacks_up : (Near Far : Line → Type 0) (Names Named : List ℕ → Type 0) (t : FilesTrail) (none : NoJob) → ((line : Line) → Near line → Far line) → ((name : List ℕ) → Names name → Named name)
    → Lacks Near Names t none → Lacks Far Named t none
lacks_up Near Far Names Named t (Refused line) up names (inl h) = inl (up line h.0, h.1)
lacks_up Near Far Names Named t (Refused line) up names (inr h) =
    inr (record { name = h.name; named = names h.name h.named; missed = h.missed; rose = h.rose; line_is = h.line_is })
lacks_up Near Far Names Named t Memory up names h = h

-- the line of a refusal is answered
answered_of_job : (told : List ℕ → Option (List ℕ)) (name : List ℕ) (line : Line) → IsRefusal told name line → kind_of (refusal_status line) ≡ OfAnswer
answered_of_job told name line (plan_long r) = ap (λ l. kind_of (refusal_status l)) r.line_is
answered_of_job told name line (plan_refused content read fault is e) = ap (λ l. kind_of (refusal_status l)) e
answered_of_job told name line (volume_long content read plan is r) = ap (λ l. kind_of (refusal_status l)) r.long.line_is

answered_of_words : (told : List ℕ → Option (List ℕ)) (words : List (List ℕ)) (line : Line) → IsRefused told words line → kind_of (refusal_status line) ≡ OfAnswer
answered_of_words told words line (words_refused none e) = ap (λ l. kind_of (refusal_status l)) e
answered_of_words told words line (job_refused command plan asks refusal) = answered_of_job told plan line refusal

-- and is what the words lead to
pub due_of_words : (told : List ℕ → Option (List ℕ)) (words : List (List ℕ)) (line : Line) → IsRefused told words line → IsDue (Outcome told words) line
due_of_words told words line is = record { kind = answered_of_words told words line is; outcome = refusal_told line is refl refl }

-- a boot is asked for as one
boots_of_job : (words : List (List ℕ)) (command : Command) (plan : List ℕ) (job : Job) → AskFor words command plan → IsBoot (asked_of command job) → AskForBoot words
boots_of_job words Boot plan job asks boots = (plan, asks)
boots_of_job words Audit plan job asks boots = absurd boots

pub boots_of : (told : List ℕ → Option (List ℕ)) (words : List (List ℕ)) (asked : Asked) → IsAsked told words asked → IsBoot asked → AskForBoot words
boots_of told words asked (job_asked command plan asks job is e) boots = boots_of_job words command plan job asks (subst IsBoot e boots)
boots_of told words asked (number_asked n asks e) boots = absurd (subst IsBoot e boots)
