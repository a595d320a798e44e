-- The report for a plan, the images of its volumes and the text of an order of starts: the refusal of the order's first bad line, that of the images' first
-- fault, the first volume with two modules of one name, or the boot in that order. Own.
use Rattle.std.specs.Prelude.{◌≡◌, ℕ, List, [], ◌++◌, Option, Some, Ok}
use Rattle.boot_plan.specs.declared.plan.Plan.{Plan}
use Rattle.mod_catalog.specs.{declared.catalogue.Catalog.Catalog, declared.image_fault.ImageFault.ImageFault, Catalogue.IsCatalogue}
use Rattle.mod_catalog.specs.ImageFault.{IsImageFault}
use Rattle.boot_model.specs.PlanBoard.{board_of}
use Rattle.recorded_boot.specs.{Named.HasNoTwins, Named.IsFirstWithTwins, declared.order.lines.StartOrder.StartOrder}
use Rattle.recorded_boot.specs.{OrderText.IsFirstBad, OrderText.IsOrder, declared.follow.followed.Followed.Followed, Answer.FollowsTo}
use Rattle.boot_core.specs.{Job.IsNamedIn, Reading.plan_limit}
use Rattle.tools_core.specs.{declared.status.ToolStatus.ToolStatus, FileReading.IsRead, FileReading.LongOutcome}
use Rattle.tools_core.specs.declared.status.ToolStatus.TheVariants.{ImageRefused, OrderRefused, Twins}
use Rattle.tools_core.specs.{FollowText.order_line, FollowText.last_text, JobOutcome.JobOutcome, Refusals.image_line, Refusals.twins_line}
use Rattle.tools_core.specs.ReportText.{followed_status}

-- how many bytes an order may have
abbrev pub order_limit : ℕ
order_limit = 0x100000

-- a boot over the catalogue of the images ends this way in the order, with these lines
abbrev pub BootsSo : Plan → List (List ℕ) → Catalog → StartOrder → Followed → List ℕ → Type 0
BootsSo plan images catalog order followed lines =
    FollowsTo (board_of plan catalog images) catalog plan.fuel order (record { old = Some []; new = Some lines }) (Ok followed)

-- what the images and an order lead to
pub data OrderReport (plan : Plan) (images : List (List ℕ)) (order : StartOrder) (status : ToolStatus) (out : List ℕ) : Type 0 where
  image_refused : (fault : ImageFault) → IsImageFault plan images fault → status ≡ ImageRefused → out ≡ image_line fault → OrderReport plan images order status out
  twins : (catalog : Catalog) → IsCatalogue plan images catalog → (volume : ℕ) → IsFirstWithTwins catalog volume → status ≡ Twins → out ≡ twins_line volume
      → OrderReport plan images order status out
  boots : (catalog : Catalog) → IsCatalogue plan images catalog → HasNoTwins catalog → (followed : Followed) (lines : List ℕ)
      → BootsSo plan images catalog order followed lines → status ≡ followed_status followed → out ≡ lines ++ last_text followed → OrderReport plan images order status out

-- what the images and the text of an order lead to
pub data FollowReport (plan : Plan) (images : List (List ℕ)) (text : List ℕ) (status : ToolStatus) (out : List ℕ) : Type 0 where
  bad_order : (line : ℕ) → IsFirstBad text line → status ≡ OrderRefused → out ≡ order_line line → FollowReport plan images text status out
  in_order : (order : StartOrder) → IsOrder text order → OrderReport plan images order status out → FollowReport plan images text status out

-- what the texts of a plan and of an order lead to
abbrev pub OrderTextsOutcome : (List ℕ → Option (List ℕ)) → List ℕ → List ℕ → ToolStatus → List ℕ → Type 0
OrderTextsOutcome told content text = JobOutcome (λ plan images. FollowReport plan images text) told content

-- what the files of a plan and of an order lead to: both are read before the plan is examined
pub data FollowOutcome (told : List ℕ → Option (List ℕ)) (plan order : List ℕ) (status : ToolStatus) (out : List ℕ) : Type 0 where
  long_plan : LongOutcome (told plan) plan_limit plan status out → FollowOutcome told plan order status out
  long_order : (content : List ℕ) → IsRead (told plan) plan_limit content → LongOutcome (told order) order_limit order status out
      → FollowOutcome told plan order status out
  texts_read : (content text : List ℕ) → IsRead (told plan) plan_limit content → IsRead (told order) order_limit text → OrderTextsOutcome told content text status out
      → FollowOutcome told plan order status out

-- a name of a file to which the reading comes: the plan's, then the order's, and then those of the volumes
pub data FollowNames (told : List ℕ → Option (List ℕ)) (plan order name : List ℕ) : Type 0 where
  names_plan : name ≡ plan → FollowNames told plan order name
  names_order : (content : List ℕ) → IsRead (told plan) plan_limit content → name ≡ order → FollowNames told plan order name
  names_volume : (content text : List ℕ) → IsRead (told plan) plan_limit content → IsRead (told order) order_limit text → IsNamedIn told content name
      → FollowNames told plan order name
