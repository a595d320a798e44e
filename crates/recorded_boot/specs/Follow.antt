-- What a plan, its images and an order lead to: the images' first fault, the first volume with two modules of one name, or a boot along the order.
-- Own.
use Rattle.std.specs.Prelude.{◌≡◌, ◌≢◌, ◌≤◌, ℕ, List, [], Result, Ok, Err, ⊤}
use Rattle.std.specs.Io.KnownBytes.{Appends}
use Rattle.boot_io.specs.Faults.{Rose}
use Rattle.boot_plan.specs.declared.plan.Plan.{Plan}
use Rattle.mod_catalog.specs.{declared.catalogue.Catalog.Catalog, declared.image_fault.ImageFault.ImageFault, Catalogue.IsCatalogue}
use Rattle.mod_catalog.specs.declared.image_fault.ImageCause.TheVariants as I
use Rattle.mod_catalog.specs.ImageFault.{IsImageFault}
use Rattle.boot_model.specs.PlanBoard.{board_of}
use Rattle.boot_trace.specs.Printing.{Texts}
use Rattle.recorded_boot.specs.{Named.HasNoTwins, Named.IsFirstWithTwins, declared.order.lines.StartOrder.StartOrder}
use Rattle.recorded_boot.specs.{declared.follow.images.FollowFault.FollowFault, declared.follow.followed.Followed.Followed}
use Rattle.recorded_boot.specs.declared.follow.images.FollowFault.TheVariants.{Image, Twins, Sink, Memory}
use Rattle.recorded_boot.specs.Answer.{FollowsTo}

-- a fault of images is returned as it is; running out of memory is not one
abbrev pub IsFaultTold : ImageFault → FollowFault → Type 0
IsFaultTold fault (Image told) = (fault.cause ≢ I.Memory) × (told ≡ fault)
IsFaultTold fault (Twins volume) = ⊥
IsFaultTold fault Sink = ⊥
IsFaultTold fault Memory = fault.cause ≡ I.Memory

-- over a catalogue: the boot, or its first volume with two modules of one name
abbrev pub FollowsCatalog : Plan → Catalog → List (List ℕ) → StartOrder → Texts → Result Followed FollowFault → Type 0
FollowsCatalog plan catalog images order t (Ok followed) = HasNoTwins catalog × FollowsTo (board_of plan catalog images) catalog plan.fuel order t (Ok followed)
FollowsCatalog plan catalog images order t (Err (Image fault)) = ⊥
FollowsCatalog plan catalog images order t (Err (Twins volume)) = IsFirstWithTwins catalog volume × Appends t.old t.new []
FollowsCatalog plan catalog images order t (Err Sink) = ⊤
FollowsCatalog plan catalog images order t (Err Memory) = ⊤

-- the images have a catalogue in which a line of the order names one module, and a boot of it was followed
pub record IsFollowed (plan : Plan) (images : List (List ℕ)) (order : StartOrder) (t : Texts) (followed : Followed) : Type 0 where
  pub catalog : Catalog
  pub sound : IsCatalogue plan images catalog
  pub apart : HasNoTwins catalog
  pub is : FollowsTo (board_of plan catalog images) catalog plan.fuel order t (Ok followed)

-- a volume of the images' catalogue is the first that has two modules of one name
pub record HasTwins (plan : Plan) (images : List (List ℕ)) (volume : ℕ) : Type 0 where
  pub catalog : Catalog
  pub sound : IsCatalogue plan images catalog
  pub is : IsFirstWithTwins catalog volume

abbrev pub Follows : Plan → List (List ℕ) → StartOrder → Texts → Result Followed FollowFault → Type 0
Follows plan images order t (Ok followed) = IsFollowed plan images order t followed
Follows plan images order t (Err (Image fault)) = IsImageFault plan images fault × Appends t.old t.new []
Follows plan images order t (Err (Twins volume)) = HasTwins plan images volume × Appends t.old t.new []
Follows plan images order t (Err Sink) = ⊤
Follows plan images order t (Err Memory) = ⊤

-- the sink's count rises if a line could not be written, and only then
abbrev pub FaultsAfter : {A : Type 0} → Result A FollowFault → ℕ → ℕ → Type 0
FaultsAfter (Ok answer) before now = now ≡ before
FaultsAfter (Err (Image fault)) before now = now ≡ before
FaultsAfter (Err (Twins volume)) before now = now ≡ before
FaultsAfter (Err Sink) before now = (before ≤ now) × Rose before now
FaultsAfter (Err Memory) before now = now ≡ before
