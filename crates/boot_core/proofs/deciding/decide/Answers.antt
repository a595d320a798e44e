use Rattle.std.proofs.Common.{ap, refl, sym, subst}
use Rattle.std.proofs.lemmas.Result.{err_from_is_err_and}
use Rattle.boot_core.specs.{Job.IsNamed, Job.IsRefusal, Reading.FilesTrail, Reading.Lacks}
use Rattle.boot_io.specs.Words.{words_of}
use Rattle.boot_core.specs.Deciding.{IsRefused, asked_of, Names, job_asked, job_refused, number_asked}
use Rattle.boot_core.proofs.Asking.{lacks_up}
use Rattle.boot_core.proofs.deciding.decide.Goals as goal

pub returns-in_err-job-clause-row : goal.returns-in_err-job-clause-row
returns-in_err-job-clause-row g c =
    let told = g.F.Files.told c.args.files.now in
    let words = words_of c.args.words.now in
    let command = c.in-Some.command in
    let plan = c.in-Some.plan.now in
    let asks = c.in-Some.ensures.found in
    let t : FilesTrail = record { before = g.F.Files.faults c.args.files.now; now = g.F.Files.faults c.read_job.new.files; missed = g.F.Files.missed c.read_job.new.files } in
    let p = err_from_is_err_and c.from_residual.result c.from_residual.ensures.1 in
    rw p.1 (subst (Lacks (IsRefused told words) (Names told words) t) (sym p.2)
    (lacks_up (IsRefusal told plan) (IsRefused told words) (IsNamed told plan) (Names told words) t c.in_err-job.field-0.0 (λ line r. job_refused command plan asks r) (λ name n. (command, plan, asks, n)) c.in_err-job.ensures.row))

pub returns-in-Boot-clause-row : goal.returns-in-Boot-clause-row
returns-in-Boot-clause-row g c =
    (job_asked c.in-Some.command c.in-Some.plan.now c.in-Some.ensures.found c.in_ok-job.job c.in_ok-job.ensures.row.0 (sym (ap (λ x. asked_of x c.in_ok-job.job) c.in-Boot.is)), c.in_ok-job.ensures.row.1)

pub returns-in-Audit-clause-row : goal.returns-in-Audit-clause-row
returns-in-Audit-clause-row g c =
    (job_asked c.in-Some.command c.in-Some.plan.now c.in-Some.ensures.found c.in_ok-job.job c.in_ok-job.ensures.row.0 (sym (ap (λ x. asked_of x c.in_ok-job.job) c.in-Audit.is)), c.in_ok-job.ensures.row.1)

pub returns-in-Some-asked_number-clause-row : goal.returns-in-Some-asked_number-clause-row
returns-in-Some-asked_number-clause-row g c = (number_asked c.in-Some-asked_number.number c.in-Some-asked_number.ensures.found refl, refl)
