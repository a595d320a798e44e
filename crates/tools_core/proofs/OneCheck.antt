-- A plan and its images have one report on a trace, where their catalogue has; and so on the HOB list that is handed on.
use Rattle.std.proofs.Common.{◌≡◌, ℕ, List, Option, inl, inr, sym, ap, ◌∙◌, subst, arith}
use Rattle.std.proofs.lemmas.Bool.{cases_lt}
use Rattle.boot_plan.specs.{declared.plan.Plan.Plan, declared.fault.PlanFault.PlanFault, declared.fault.PlanCause.PlanCause}
use Rattle.boot_plan.specs.PlanText.{IsPlan, IsPlanFault}
use Rattle.mod_catalog.specs.{declared.catalogue.Catalog.Catalog, declared.image_fault.ImageFault.ImageFault, Catalogue.IsCatalogue}
use Rattle.mod_catalog.specs.ImageFault.{IsImageFault}
use Rattle.boot_model.specs.{declared.line.Line.Line, FreeRun.AreFreeLines, PlanBoard.board_of, PeiMachine.PeiMachine, PeiRun.pei_end}
use Rattle.boot_model.specs.declared.line.Line.TheVariants as L
use Rattle.recorded_boot.specs.{Verdict.IsFirstOff, Named.HasNoTwins, Named.IsFirstWithTwins}
use Rattle.pi_base.specs.{Field.AreBytes, Lists.Each}
use Rattle.boot_core.specs.{declared.plan_files.job.Job.Job, Reading.AreImages, Reading.IsLongVolume}
use Rattle.boot_core.specs.Job.{IsJobOf, IsNamedIn, IsTextRefusal, text_long, text_refused}
use Rattle.tools_core.specs.{declared.command_line.TraceTool.TraceTool, ReportText.end_status, declared.status.ToolStatus.ToolStatus}
use Rattle.tools_core.specs.CheckReport.{VerdictReport, no, yes}
use Rattle.boot_core.specs.declared.handing_on.HandOff.TheVariants.{Hobs, Ended}
use Rattle.boot_core.specs.{declared.handing_on.HandOff.HandOff, HandOff.HandsOn, HandOff.IsHandOff}
use Rattle.boot_model.specs.declared.line.RunEnd.{RunEnd}
use Rattle.recorded_boot.proofs.Handed.{one_handed}
use Rattle.tools_core.specs.HobsReport.{HobsReport, bad_image, ended, handed}
use Rattle.tools_core.specs.JobOutcome.{JobOutcome, JobReport, job_long, job_plan, job_read, no_job}
use Rattle.tools_core.specs.OneOutcome.{AreAllTold, IsOne}
use Rattle.tools_core.specs.TraceReport.{SaidBy, TextsOutcome, TraceReport, image_refused, said, twins}
use Rattle.tools_core.specs.Refusals.{end_line, image_line, long_line, no_line, plan_line, twins_line}
use Rattle.tools_core.proofs.ToldFiles.{VolumesTold, images_bytes, long_told, one_images, one_long_volume}

-- what the crates of plans and images say: a text has one plan, or one fault; images have one catalogue, or one fault; and never both
pub record Laws : Type 0 where
  pub plans : (text : List ℕ) (a b : Plan) → IsPlan text a → IsPlan text b → a ≡ b
  pub plan_faults : (text : List ℕ) (f g : PlanFault) → IsPlanFault text f → IsPlanFault text g → f ≡ g
  pub plan_or_fault : (text : List ℕ) (plan : Plan) (fault : PlanFault) → IsPlan text plan → IsPlanFault text fault → ⊥
  pub catalogues : (plan : Plan) (images : List (List ℕ)) (a b : Catalog) → IsCatalogue plan images a → IsCatalogue plan images b → a ≡ b
  pub image_faults : (plan : Plan) (images : List (List ℕ)) (f g : ImageFault) → Each AreBytes images → IsImageFault plan images f → IsImageFault plan images g → f ≡ g
  pub catalogue_or_fault : (plan : Plan) (images : List (List ℕ)) (catalog : Catalog) (fault : ImageFault) → Each AreBytes images → IsCatalogue plan images catalog → IsImageFault plan images fault → ⊥

-- the first line that is off, and the first volume with twins, are one
pub one_off : (Lines : List Line → Type 0) (text : List ℕ) (m n : ℕ) → IsFirstOff Lines text m → IsFirstOff Lines text n → m ≡ n
one_off Lines text m n p q = elim (cases_lt m n) [
  | inl less ↦ absurd (p.off (q.first m p.some less))
  | inr least ↦ elim (cases_lt n m) [ inl more ↦ absurd (q.off (p.first n q.some more)) | inr most ↦ omega (arith, least, most) ]
]

pub one_volume : (catalog : Catalog) (m n : ℕ) → IsFirstWithTwins catalog m → IsFirstWithTwins catalog n → m ≡ n
one_volume catalog m n p q = elim (cases_lt m n) [
  | inl less ↦ absurd (q.first m less p.twins)
  | inr least ↦ elim (cases_lt n m) [ inl more ↦ absurd (p.first n more q.twins) | inr most ↦ omega (arith, least, most) ]
]

pub one_verdict : (plan : Plan) (images : List (List ℕ)) (catalog : Catalog) (text : List ℕ) → IsOne (VerdictReport plan images catalog text)
one_verdict plan images catalog text a b s t (yes boot e u) (yes other f v) = (e ∙ sym f, u ∙ sym v)
one_verdict plan images catalog text a b s t (yes boot e u) (no n off f v) = absurd (off.no_boot boot)
one_verdict plan images catalog text a b s t (no m off e u) (yes boot f v) = absurd (off.no_boot boot)
one_verdict plan images catalog text a b s t (no m off e u) (no n also f v) =
    (e ∙ sym f, u ∙ ap no_line (one_off (AreFreeLines (board_of plan catalog images) catalog plan.fuel) text m n off also) ∙ sym v)

-- a tool says one thing of a trace over the images' catalogue
abbrev pub IsOneSaid : TraceTool → List ℕ → Plan → List (List ℕ) → Type 0
IsOneSaid tool text plan images = (catalog : Catalog) → IsCatalogue plan images catalog → HasNoTwins catalog → IsOne (SaidBy tool plan images catalog text)

pub one_report : Laws → (tool : TraceTool) (text : List ℕ) (plan : Plan) (images : List (List ℕ)) → IsOneSaid tool text plan images → Each AreBytes images → IsOne (TraceReport tool plan images text)
one_report laws tool text plan images one are a b s t (image_refused f p e u) (image_refused g q h v) = (e ∙ sym h, u ∙ ap image_line (laws.image_faults plan images f g are p q) ∙ sym v)
one_report laws tool text plan images one are a b s t (image_refused f p e u) (twins c sound n q h v) = absurd (laws.catalogue_or_fault plan images c f are sound p)
one_report laws tool text plan images one are a b s t (image_refused f p e u) (said c sound apart o) = absurd (laws.catalogue_or_fault plan images c f are sound p)
one_report laws tool text plan images one are a b s t (twins c sound m p e u) (image_refused g q h v) = absurd (laws.catalogue_or_fault plan images c g are sound q)
one_report laws tool text plan images one are a b s t (twins c sound m p e u) (twins d also n q h v) =
    let here : IsFirstWithTwins c n = subst (λ (x : Catalog). IsFirstWithTwins x n) (laws.catalogues plan images d c also sound) q in
    (e ∙ sym h, u ∙ ap twins_line (one_volume c m n p here) ∙ sym v)
one_report laws tool text plan images one are a b s t (twins c sound m p e u) (said d also apart o) =
    let here : IsFirstWithTwins d m = subst (λ (x : Catalog). IsFirstWithTwins x m) (laws.catalogues plan images c d sound also) p in
    absurd (apart m here.twins)
one_report laws tool text plan images one are a b s t (said c sound apart o) (image_refused g q h v) = absurd (laws.catalogue_or_fault plan images c g are sound q)
one_report laws tool text plan images one are a b s t (said c sound apart o) (twins d also n q h v) =
    let here : IsFirstWithTwins c n = subst (λ (x : Catalog). IsFirstWithTwins x n) (laws.catalogues plan images d c also sound) q in
    absurd (apart n here.twins)
one_report laws tool text plan images one are a b s t (said c sound apart o) (said d also other u) =
    let P : Catalog → Type 0 = λ x. SaidBy tool plan images x text b t in
    one c sound apart a b s t o (subst P (laws.catalogues plan images d c also sound) u)

-- a line has one report
one_fault : (f g : PlanFault) → f.line ≡ g.line → f.cause ≡ g.cause → f ≡ g
one_fault f g line cause =
    let with_line : ℕ → PlanFault = λ n. record { line = n; cause = f.cause } in
    let with_cause : PlanCause → PlanFault = λ c. record { line = g.line; cause = c } in
    ap with_line line ∙ ap with_cause cause

one_line : (line : Line) → IsOne (JobReport line)
one_line line a b s t (job_long name p e u) (job_long other q f v) = let same : name ≡ other = cc in (e ∙ sym f, u ∙ ap long_line same ∙ sym v)
one_line line a b s t (job_long name p e u) (job_plan fault q f v) = absurd (cc)
one_line line a b s t (job_plan fault p e u) (job_long name q f v) = absurd (cc)
one_line line a b s t (job_plan fault p e u) (job_plan other q f v) =
    let at : fault.line ≡ other.line = cc in
    let cause : fault.cause ≡ other.cause = cc in
    (e ∙ sym f, u ∙ ap plan_line (one_fault fault other at cause) ∙ sym v)

-- the volumes' files that a plan's text names
named_told : (told : List ℕ → Option (List ℕ)) (content : List ℕ) (plan : Plan) → AreAllTold told (IsNamedIn told content) → IsPlan content plan → VolumesTold told plan.volumes
named_told told content plan all is name reached = all name (plan, is, reached)

one_refusal : Laws → (told : List ℕ → Option (List ℕ)) (content : List ℕ) → AreAllTold told (IsNamedIn told content) → (a b : Line) → IsTextRefusal told content a → IsTextRefusal told content b → a ≡ b
one_refusal laws told content all a b (text_refused f p e) (text_refused g q u) = e ∙ ap (λ (x : PlanFault). L.RefusedPlan x.line x.cause) (laws.plan_faults content f g p q) ∙ sym u
one_refusal laws told content all a b (text_refused f p e) (text_long plan is o) = absurd (laws.plan_or_fault content plan f is p)
one_refusal laws told content all a b (text_long plan is o) (text_refused g q u) = absurd (laws.plan_or_fault content plan g is q)
one_refusal laws told content all a b (text_long plan is o) (text_long other also u) =
    let P : Plan → Type 0 = λ x. IsLongVolume told x.volumes b in
    one_long_volume told plan.volumes (named_told told content plan all is) a b o (subst P (laws.plans content other plan also is) u)

-- a text has one job, and no refusal beside it
one_job : Laws → (told : List ℕ → Option (List ℕ)) (content : List ℕ) → AreAllTold told (IsNamedIn told content) → (a b : Job) → IsJobOf told content a → IsJobOf told content b → a ≡ b
one_job laws told content all a b p q =
    let plan : a.plan ≡ b.plan = laws.plans content a.plan b.plan p.plan_is q.plan_is in
    let read : AreImages told b.plan.volumes a.images = subst (λ (x : Plan). AreImages told x.volumes a.images) plan p.images_are in
    let images : a.images ≡ b.images = one_images told b.plan.volumes (named_told told content b.plan all q.plan_is) a.images b.images read q.images_are in
    let with_plan : Plan → Job = λ x. record { plan = x; images = a.images } in
    let with_images : List (List ℕ) → Job = λ x. record { plan = b.plan; images = x } in
    ap with_plan plan ∙ ap with_images images

job_or_refusal : Laws → (told : List ℕ → Option (List ℕ)) (content : List ℕ) → AreAllTold told (IsNamedIn told content) → (job : Job) (line : Line) → IsJobOf told content job → IsTextRefusal told content line → ⊥
job_or_refusal laws told content all job line is (text_refused f p e) = laws.plan_or_fault content job.plan f is.plan_is p
job_or_refusal laws told content all job line is (text_long plan p o) =
    let P : Plan → Type 0 = λ x. IsLongVolume told x.volumes line in
    long_told told job.plan.volumes line (named_told told content job.plan all is.plan_is) (subst P (laws.plans content plan job.plan p is.plan_is) o) job.images is.images_are

-- what a plan's text leads to is one, where what a plan and its images lead to is
pub one_of_job : Laws → (Of : Plan → List (List ℕ) → ToolStatus → List ℕ → Type 0) → ((plan : Plan) (images : List (List ℕ)) → Each AreBytes images → IsOne (Of plan images)) → (told : List ℕ → Option (List ℕ)) (content : List ℕ)
    → AreAllTold told (IsNamedIn told content) → IsOne (JobOutcome Of told content)
one_of_job laws Of each told content all a b s t (no_job line p o) (no_job other q u) =
    let P : Line → Type 0 = λ x. JobReport x b t in
    one_line line a b s t o (subst P (one_refusal laws told content all other line q p) u)
one_of_job laws Of each told content all a b s t (no_job line p o) (job_read job is u) = absurd (job_or_refusal laws told content all job line is p)
one_of_job laws Of each told content all a b s t (job_read job is o) (no_job line q u) = absurd (job_or_refusal laws told content all job line is q)
one_of_job laws Of each told content all a b s t (job_read job is o) (job_read other also u) =
    let P : Job → Type 0 = λ x. Of x.plan x.images b t in
    let are = images_bytes told job.plan.volumes (named_told told content job.plan all is.plan_is) job.images is.images_are in
    each job.plan job.images are a b s t o (subst P (one_job laws told content all other job also is) u)

pub one_trace : Laws → (tool : TraceTool) (told : List ℕ → Option (List ℕ)) (content text : List ℕ) → ((plan : Plan) (images : List (List ℕ)) → IsOneSaid tool text plan images) → AreAllTold told (IsNamedIn told content)
    → IsOne (TextsOutcome tool told content text)
one_trace laws tool told content text one all =
    one_of_job laws (λ plan images. TraceReport tool plan images text) (λ plan images are. one_report laws tool text plan images (one plan images) are) told content all

-- the images have one catalogue of which such a thing is handed on, and one such thing
pub record HandsOneOn (plan : Plan) (images : List (List ℕ)) (Hands : HandOff → Type 0) : Type 0 where
  pub one : (x y : HandOff) → Hands x → Hands y → x ≡ y
  pub catalogue : (x : HandOff) → Hands x → (catalog : Catalog) × IsCatalogue plan images catalog

no_fault : Laws → (plan : Plan) (images : List (List ℕ)) (Hands : HandOff → Type 0) → HandsOneOn plan images Hands → Each AreBytes images → (x : HandOff) (fault : ImageFault) → Hands x → IsImageFault plan images fault → ⊥
no_fault laws plan images Hands on are x fault p q = let of = on.catalogue x p in laws.catalogue_or_fault plan images of.0 fault are of.1 q

one_list : (a b : List ℕ) → Hobs a ≡ Hobs b → a ≡ b
one_list a b same = cc

one_end : (a b : RunEnd) → Ended a ≡ Ended b → a ≡ b
one_end a b same = cc

list_or_end : (a : List ℕ) (b : RunEnd) → Hobs a ≡ Ended b → ⊥
list_or_end a b same = cc

pub one_hobs_report : Laws → (plan : Plan) (images : List (List ℕ)) (Hands : HandOff → Type 0) → HandsOneOn plan images Hands → Each AreBytes images → IsOne (HobsReport Hands plan images)
one_hobs_report laws plan images Hands on are a b s t (bad_image f p e u) (bad_image g q h v) = (e ∙ sym h, u ∙ ap image_line (laws.image_faults plan images f g are p q) ∙ sym v)
one_hobs_report laws plan images Hands on are a b s t (bad_image f p e u) (handed hobs q h v) = absurd (no_fault laws plan images Hands on are (Hobs hobs) f q p)
one_hobs_report laws plan images Hands on are a b s t (bad_image f p e u) (ended end q h v) = absurd (no_fault laws plan images Hands on are (Ended end) f q p)
one_hobs_report laws plan images Hands on are a b s t (handed hobs p e u) (bad_image g q h v) = absurd (no_fault laws plan images Hands on are (Hobs hobs) g p q)
one_hobs_report laws plan images Hands on are a b s t (ended end p e u) (bad_image g q h v) = absurd (no_fault laws plan images Hands on are (Ended end) g p q)
one_hobs_report laws plan images Hands on are a b s t (handed hobs p e u) (handed others q h v) = (e ∙ sym h, u ∙ one_list hobs others (on.one (Hobs hobs) (Hobs others) p q) ∙ sym v)
one_hobs_report laws plan images Hands on are a b s t (handed hobs p e u) (ended end q h v) = absurd (list_or_end hobs end (on.one (Hobs hobs) (Ended end) p q))
one_hobs_report laws plan images Hands on are a b s t (ended end p e u) (handed others q h v) = absurd (list_or_end others end (on.one (Hobs others) (Ended end) q p))
one_hobs_report laws plan images Hands on are a b s t (ended end p e u) (ended other q h v) =
    let same : end ≡ other = one_end end other (on.one (Ended end) (Ended other) p q) in
    (e ∙ ap end_status same ∙ sym h, u ∙ ap end_line same ∙ sym v)

-- the machine's own boot hands one thing on
pub hands_one_on : Laws → (plan : Plan) (images : List (List ℕ)) → HandsOneOn plan images (IsHandOff plan images)
hands_one_on laws plan images = record {
  one = λ x y p q.
      let same : pei_end (board_of plan q.catalog images) q.catalog plan.fuel ≡ pei_end (board_of plan p.catalog images) p.catalog plan.fuel =
      ap (λ (c : Catalog). pei_end (board_of plan c images) c plan.fuel) (laws.catalogues plan images q.catalog p.catalog q.sound p.sound) in
      one_handed (pei_end (board_of plan p.catalog images) p.catalog plan.fuel) x y p.is (subst (λ (m : PeiMachine). HandsOn m y) same q.is);
  catalogue = λ x p. (p.catalog, p.sound);
}
