-- What the file of a plan leads to: the plan with the images of its volumes, or the line of a refusal.
-- Own.
use Rattle.std.specs.Prelude.{◌≡◌, ℕ, List, Option}
use Rattle.boot_plan.specs.{declared.plan.Plan.Plan, declared.fault.PlanFault.PlanFault, PlanText.IsPlan, PlanText.IsPlanFault}
use Rattle.boot_model.specs.declared.line.Line.{Line}
use Rattle.boot_model.specs.declared.line.Line.TheVariants as L
use Rattle.boot_core.specs.declared.plan_files.job.Job.{Job}
use Rattle.boot_core.specs.Reading.{plan_limit, IsRead, IsLongFile, IsLongVolume, IsReached, AreImages}

-- a plan by its text and the images of its volumes as they are told
pub record IsJobOf (told : List ℕ → Option (List ℕ)) (text : List ℕ) (job : Job) : Type 0 where
  pub plan_is : IsPlan text job.plan
  pub images_are : AreImages told job.plan.volumes job.images

-- the line of the first refusal of a plan's text: its first fault, or the first volume whose file is too long
pub data IsTextRefusal (told : List ℕ → Option (List ℕ)) (text : List ℕ) (line : Line) : Type 0 where
  text_refused : (fault : PlanFault) → IsPlanFault text fault → line ≡ L.RefusedPlan fault.line fault.cause → IsTextRefusal told text line
  text_long : (plan : Plan) → IsPlan text plan → IsLongVolume told plan.volumes line → IsTextRefusal told text line

-- a name of a volume's file to which the reading behind a plan's text comes
abbrev pub IsNamedIn : (List ℕ → Option (List ℕ)) → List ℕ → List ℕ → Type 0
IsNamedIn told text name = (plan : Plan) × IsPlan text plan × IsReached told plan.volumes name

-- a plan by its file and the images of its volumes, all as they are told
pub record IsJob (told : List ℕ → Option (List ℕ)) (name : List ℕ) (job : Job) : Type 0 where
  pub content : List ℕ
  pub read : IsRead (told name) plan_limit content
  pub plan_is : IsPlan content job.plan
  pub images_are : AreImages told job.plan.volumes job.images

-- the line of the first refusal: a plan that is too long, the plan's first fault, or the first volume whose file is too long
pub data IsRefusal (told : List ℕ → Option (List ℕ)) (name : List ℕ) (line : Line) : Type 0 where
  plan_long : IsLongFile (told name) plan_limit name line → IsRefusal told name line
  plan_refused : (content : List ℕ) → IsRead (told name) plan_limit content → (fault : PlanFault) → IsPlanFault content fault → line ≡ L.RefusedPlan fault.line fault.cause → IsRefusal told name line
  volume_long : (content : List ℕ) → IsRead (told name) plan_limit content → (plan : Plan) → IsPlan content plan → IsLongVolume told plan.volumes line → IsRefusal told name line

-- a name of a file to which the reading comes: the plan's, or a volume's
pub data IsNamed (told : List ℕ → Option (List ℕ)) (plan : List ℕ) (name : List ℕ) : Type 0 where
  of_plan : name ≡ plan → IsNamed told plan name
  of_volume : (content : List ℕ) → IsRead (told plan) plan_limit content → (job : Plan) → IsPlan content job → IsReached told job.volumes name → IsNamed told plan name
