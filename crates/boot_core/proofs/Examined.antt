-- What follows of an examination of images: what a boot hands back, and which statuses a refusal has.
use Rattle.std.proofs.Common.{◌≡◌, ◌≢◌, ℕ, List, None, Result, Ok, Err, refl, subst, sym, inl}
use Rattle.boot_io.specs.declared.sink.SinkFault.{SinkFault}
use Rattle.boot_plan.specs.declared.plan.Plan.{Plan}
use Rattle.mod_catalog.specs.{declared.catalogue.Catalog.Catalog, Catalogue.IsCatalogue, ImageFault.IsImageFault}
use Rattle.mod_catalog.specs.declared.image_fault.ImageFault.{ImageFault}
use Rattle.mod_catalog.specs.declared.image_fault.ImageCause.TheVariants as I
use Rattle.boot_model.specs.{declared.line.Line.Line, PeiRun.pei_end, PlanBoard.board_of}
use Rattle.boot_core.specs.{declared.plan_files.reading.NoJob.NoJob, Reading.Lacks, declared.plan_boot.Booted.Booted}
use Rattle.boot_core.specs.declared.plan_files.reading.NoJob.TheVariants as N
use Rattle.boot_core.specs.declared.status.Status.{Status}
use Rattle.boot_core.specs.Examining.{AreRefused, IsFaultTold, IsImageRefusal}
use Rattle.boot_core.specs.Handing.{HandsBack, HandsBackOf, StandsWhere}
use Rattle.boot_core.specs.Outcome.{Ends, ImagesOutcome, IsOfRun, image_refused}
use Rattle.boot_core.specs.Refusing.{IsTold, SinkTrail, image_line, refusal_status, status_after}
use Rattle.boot_core.proofs.Ending.{IsDue, refused_ends}

-- images have one catalogue, so the store stands for the last state over each
pub of_catalogue : ((plan : Plan) (images : List (List ℕ)) (a b : Catalog) → IsCatalogue plan images a → IsCatalogue plan images b → a ≡ b) → (plan : Plan) (images : List (List ℕ)) (catalog : Catalog) (booted : Booted)
    → IsCatalogue plan images catalog → HandsBack plan catalog images booted → HandsBackOf plan images booted
of_catalogue one plan images catalog booted sound back = record {
  where_ran = back.where_ran;
  stands = λ other also.
      let P : Catalog → Type 0 = λ c. StandsWhere (pei_end (board_of plan c images) c plan.fuel).store booted.store in
      subst P (one plan images catalog other sound also) back.stands;
}

-- the line of an image's fault is an outcome of its images
pub due_of_image : (Leads : Catalog → Status → List ℕ → Type 0) (plan : Plan) (images : List (List ℕ)) (line : Line) → IsImageRefusal plan images line → IsDue (ImagesOutcome Leads plan images) line
due_of_image Leads plan images line r =
    let P : Line → Type 0 = λ l. IsDue (ImagesOutcome Leads plan images) l in
    let here : IsDue (ImagesOutcome Leads plan images) (image_line r.fault) = record { kind = refl; outcome = image_refused r.fault r.is refl refl } in
    subst P (sym r.line_is) here

-- no file failed where images are refused
lacks_of : (plan : Plan) (images : List (List ℕ)) (none : NoJob) → AreRefused plan images none → Lacks (IsImageRefusal plan images) (λ _. ⊥) (record { before = 0; now = 0; missed = None }) none
lacks_of plan images (N.Refused line) r = inl (r, refl)
lacks_of plan images N.Memory r = refl

-- how a call ends whose images are refused
pub image_refused_ends : (Leads : Catalog → Status → List ℕ → Type 0) (plan : Plan) (images : List (List ℕ)) (none : NoJob) (Boots : Type 0) (result : Status) (t : SinkTrail)
    → AreRefused plan images none → IsTold none result t
    → Ends (ImagesOutcome Leads plan images) (λ _. ⊥) Boots result (record { old = t.old; new = t.new; sink_before = t.before; sink_now = t.now; files_before = 0; files_now = 0; missed = None })
image_refused_ends Leads plan images none Boots result t r told =
    refused_ends none (IsImageRefusal plan images) (ImagesOutcome Leads plan images) (λ _. ⊥) Boots result _ (due_of_image Leads plan images) (lacks_of plan images none r) told

-- the line of a fault refuses the images
pub refused_by : (plan : Plan) (images : List (List ℕ)) (fault : ImageFault) (none : NoJob) → (fault.cause ≢ I.Memory → IsImageFault plan images fault) → IsFaultTold fault none → AreRefused plan images none
refused_by plan images fault (N.Refused line) is told = record { fault = fault; is = is told.0; line_is = told.1 }
refused_by plan images fault N.Memory is told = tt

-- a refusal is no status of a run
image_status : (line : Line) (fault : ImageFault) → line ≡ image_line fault → IsOfRun (refusal_status line) → ⊥
image_status line fault e ran = subst (λ l. IsOfRun (refusal_status l)) e ran

put_status : (put : Result (Unit {0}) SinkFault) (due : Status) → (IsOfRun due → ⊥) → IsOfRun (status_after put due) → ⊥
put_status (Ok u) due never ran = never ran
put_status (Err e) due never ran = ran

pub none_ran : (plan : Plan) (images : List (List ℕ)) (none : NoJob) (status : Status) (t : SinkTrail) → AreRefused plan images none → IsTold none status t → IsOfRun status → ⊥
none_ran plan images (N.Refused line) status t r told ran = put_status told.put (refusal_status line) (image_status line r.fault r.line_is) (subst IsOfRun told.status_is ran)
none_ran plan images N.Memory status t r told ran = subst IsOfRun told.0 ran
