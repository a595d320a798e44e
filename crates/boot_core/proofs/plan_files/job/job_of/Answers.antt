use Rattle.std.proofs.Common.{List, ℕ, All, ◌∙◌, sym, ap, subst, length, refl}
use Rattle.std.proofs.lemmas.Result.{err_from_is_err_and}
use Rattle.boot_model.specs.declared.line.Line.{Line}
use Rattle.boot_plan.specs.{declared.plan.PlanVolume.PlanVolume, Range.IsVolumeInRange}
use Rattle.boot_core.specs.Job.{IsNamedIn, IsTextRefusal, text_long, text_refused}
use Rattle.boot_core.specs.Parsing.{IsFaultLine}
use Rattle.boot_core.specs.Reading.{AreImages, IsLongVolume, IsReached, FilesTrail, Lacks}
use Rattle.boot_core.proofs.PlanImages.{images_len, images_short, lacks_up, lacks_fault}
use Rattle.boot_core.proofs.plan_files.job.job_of.Goals as goal

pub returns-in_err-plan-clause-row : goal.returns-in_err-plan-clause-row
returns-in_err-plan-clause-row g c =
    let F = g.F.Files.faults in
    let told = g.F.Files.told c.args.files.now in
    let text = c.args.text.now in
    let t : FilesTrail = record { before = F c.args.files.now; now = F c.args.files.now; missed = g.F.Files.missed c.args.files.now } in
    let up : (line : Line) → IsFaultLine text line → IsTextRefusal told text line = λ line is. text_refused is.fault is.is is.line_is in
    let p = err_from_is_err_and c.from_residual.result c.from_residual.ensures.1 in
    rw p.1 (subst (Lacks (IsTextRefusal told text) (IsNamedIn told text) t) (sym p.2) (lacks_fault text (IsTextRefusal told text) (IsNamedIn told text) t c.in_err-plan.field-0.0 up refl c.in_err-plan.ensures.row))

pub returns-in_err-images-clause-row : goal.returns-in_err-images-clause-row
returns-in_err-images-clause-row g c =
    let F = g.F.Files.faults in
    let told = g.F.Files.told c.args.files.now in
    let text = c.args.text.now in
    let volumes = c.as_slice.result.now in
    let t : FilesTrail = record { before = F c.args.files.now; now = F c.read_volumes.new.files; missed = g.F.Files.missed c.read_volumes.new.files } in
    let plan = c.in_ok-plan.plan in
    let plan_is = c.in_ok-plan.ensures.row in
    let up : (line : Line) → IsLongVolume told volumes line → IsTextRefusal told text line = λ line is.
    text_long plan plan_is (subst (λ vs. IsLongVolume told vs line) c.as_slice.ensures is) in
    let names : (n : List ℕ) → IsReached told volumes n → IsNamedIn told text n = λ n is.
    (plan, plan_is, subst (λ vs. IsReached told vs n) c.as_slice.ensures is) in
    let p = err_from_is_err_and c.from_residual-in_err-images.result c.from_residual-in_err-images.ensures.1 in
    rw p.1 (subst (Lacks (IsTextRefusal told text) (IsNamedIn told text) t) (sym p.2)
    (lacks_up (IsLongVolume told volumes) (IsTextRefusal told text) (IsReached told volumes) (IsNamedIn told text) (F c.args.files.now) (F c.args.files.now) (F c.read_volumes.new.files) (g.F.Files.missed c.read_volumes.new.files)
    c.in_err-images.field-0.0 up names refl c.in_err-images.ensures.row))

pub returns-clause-as_many : goal.returns-clause-as_many
returns-clause-as_many g c =
    images_len (g.F.Files.told c.args.files.now) c.as_slice.result.now c.in_ok-images.images c.in_ok-images.ensures.row.0 ∙ ap length c.as_slice.ensures

pub returns-clause-short : goal.returns-clause-short
returns-clause-short g c = images_short (g.F.Files.told c.args.files.now) c.as_slice.result.now c.in_ok-images.images c.in_ok-images.ensures.row.0

pub returns-in_err-plan-clause-same : goal.returns-in_err-plan-clause-same
returns-in_err-plan-clause-same g c = λ other. refl

pub returns-in_err-images-clause-same : goal.returns-in_err-images-clause-same
returns-in_err-images-clause-same g c = c.in_err-images.ensures.same

pub returns-in_err-plan-clause-range : goal.returns-in_err-plan-clause-range
returns-in_err-plan-clause-range g c = rw (err_from_is_err_and c.from_residual.result c.from_residual.ensures.1).1 tt

pub returns-in_err-plan-clause-as_many : goal.returns-in_err-plan-clause-as_many
returns-in_err-plan-clause-as_many g c = rw (err_from_is_err_and c.from_residual.result c.from_residual.ensures.1).1 tt

pub returns-in_err-plan-clause-short : goal.returns-in_err-plan-clause-short
returns-in_err-plan-clause-short g c = rw (err_from_is_err_and c.from_residual.result c.from_residual.ensures.1).1 tt

pub returns-in_err-images-clause-range : goal.returns-in_err-images-clause-range
returns-in_err-images-clause-range g c =
    rw (err_from_is_err_and c.from_residual-in_err-images.result c.from_residual-in_err-images.ensures.1).1 tt

pub returns-in_err-images-clause-as_many : goal.returns-in_err-images-clause-as_many
returns-in_err-images-clause-as_many g c =
    rw (err_from_is_err_and c.from_residual-in_err-images.result c.from_residual-in_err-images.ensures.1).1 tt

pub returns-in_err-images-clause-short : goal.returns-in_err-images-clause-short
returns-in_err-images-clause-short g c =
    rw (err_from_is_err_and c.from_residual-in_err-images.result c.from_residual-in_err-images.ensures.1).1 tt

pub returns-clause-same : goal.returns-clause-same
returns-clause-same g c = c.in_ok-images.ensures.same

pub returns-clause-range : goal.returns-clause-range
returns-clause-range g c = c.in_ok-plan.ensures.range

pub returns-clause-row : goal.returns-clause-row
returns-clause-row g c =
    let Are : List PlanVolume → Type 0 = λ volumes. AreImages (g.F.Files.told c.args.files.now) volumes c.in_ok-images.images in
    let row = c.in_ok-images.ensures.row in
    (record { plan_is = c.in_ok-plan.ensures.row; images_are = subst Are c.as_slice.ensures row.0 }, row.1)

pub read_volumes-requires : goal.read_volumes-requires
read_volumes-requires g c = subst (All IsVolumeInRange) (sym c.as_slice.ensures) c.in_ok-plan.ensures.range.volumes
