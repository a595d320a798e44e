use Rattle.std.proofs.Common.{◌≡◌, List, ℕ, Option, subst}
use Rattle.boot_model.specs.declared.line.Line.{Line}
use Rattle.boot_core.specs.declared.plan_files.job.Job.{Job}
use Rattle.boot_core.specs.Job.{IsJob, IsJobOf, IsNamed, IsNamedIn, IsRefusal, IsTextRefusal, plan_refused, volume_long, of_volume, text_long, text_refused}
use Rattle.boot_core.specs.Reading.{IsRead, plan_limit, Reads}
use Rattle.boot_core.proofs.PlanImages.{reads_up}
use Rattle.boot_core.proofs.plan_files.job.read_job.Goals as goal

-- what a text leads to, told of its file
job_up : (told : List ℕ → Option (List ℕ)) (name text : List ℕ) → IsRead (told name) plan_limit text → (job : Job) → IsJobOf told text job → IsJob told name job
job_up told name text read job is = record { content = text; read = read; plan_is = is.plan_is; images_are = is.images_are }

refusal_up : (told : List ℕ → Option (List ℕ)) (name text : List ℕ) → IsRead (told name) plan_limit text → (line : Line) → IsTextRefusal told text line → IsRefusal told name line
refusal_up told name text read line (text_refused fault is e) = plan_refused text read fault is e
refusal_up told name text read line (text_long plan is long) = volume_long text read plan is long

name_up : (told : List ℕ → Option (List ℕ)) (plan text : List ℕ) → IsRead (told plan) plan_limit text → (name : List ℕ) → IsNamedIn told text name → IsNamed told plan name
name_up told plan text read name is = of_volume text read is.0 is.1 is.2

pub returns-clause-row : goal.returns-clause-row
returns-clause-row g c =
    let F = g.F.Files.faults in
    let told = g.F.Files.told c.args.files.now in
    let mid = g.F.Files.told c.read_file.new.files in
    let told_same : mid ≡ told = λ j other. c.in_ok-text.ensures.same other j in
    let name = c.args.name.now in
    let text = c.in_ok-text.text in
    let read = c.in_ok-text.ensures.row.0 in
    let P : (List ℕ → Option (List ℕ)) → List ℕ → Type 0 = λ t xs. Reads (IsJobOf t xs) (IsTextRefusal t xs) (IsNamedIn t xs)
    (record { before = F c.read_file.new.files; now = F c.job_of.new.files; missed = g.F.Files.missed c.job_of.new.files }) c.job_of.result in
    let here = subst (λ t. P t text) told_same (subst (P mid) c.as_slice.ensures c.job_of.ensures.row) in
    reads_up (IsJobOf told text) (IsJob told name) (IsTextRefusal told text) (IsRefusal told name) (IsNamedIn told text) (IsNamed told name)
    (F c.args.files.now) (F c.read_file.new.files) (F c.job_of.new.files) (g.F.Files.missed c.job_of.new.files) c.job_of.result
    (job_up told name text read) (refusal_up told name text read) (name_up told name text read) c.in_ok-text.ensures.row.1 here
