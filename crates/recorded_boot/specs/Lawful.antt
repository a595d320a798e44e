-- What `check` accepts and what `follow` prints obeys the laws of both phases: no module starts twice, each start has its licence, and a phase stops only when no
-- module may start. PI 1.8, volume 1, "PEI Dispatcher", and volume 2, "DXE Dispatcher".
use Rattle.std.specs.Prelude.{◌≡◌, ℕ, List, [], ◌++◌, Ok}
use Rattle.std.specs.Io.KnownBytes.{Appends}
use Rattle.boot_plan.specs.{declared.plan.Plan.Plan, Range.IsPlanInRange}
use Rattle.mod_catalog.specs.{declared.catalogue.Catalog.Catalog, Catalogue.IsCatalogue}
use Rattle.boot_model.specs.{declared.line.Line.Line, PlanBoard.board_of, Text.text_of}
use Rattle.boot_trace.specs.Printing.{Texts}
use Rattle.free_laws.specs.FreeBoots.{AreLawfulLines}
use Rattle.recorded_boot.specs.{declared.order.lines.StartOrder.StartOrder, declared.follow.followed.Followed.Followed, Follow.Follows}
use Rattle.recorded_boot.specs.declared.follow.followed.Followed.TheVariants.{Ended, Stopped, No}
use Rattle.recorded_boot.specs.{declared.trace.verdict.Verdict.TheVariants.Yes, Checking.Checks}

-- a boot of a plan and its images that obeys the laws has these lines
pub record BootsLawfully (plan : Plan) (images : List (List ℕ)) (lines : List Line) : Type 0 where
  pub catalog : Catalog
  pub sound : IsCatalogue plan images catalog
  pub lawful : AreLawfulLines (board_of plan catalog images) catalog plan.fuel lines

-- a text for which `check` answers `yes` is that of such a boot
abbrev pub YesIsLawful : Type 0
YesIsLawful = (plan : Plan) (images : List (List ℕ)) (text : List ℕ) → IsPlanInRange plan → Checks plan images text (Ok Yes)
    → (lines : List Line) × BootsLawfully plan images lines × (text ≡ text_of lines)

-- the lines of such a boot were put, all but the rest
abbrev pub PutsLawfully : Plan → List (List ℕ) → Texts → List Line → Type 0
PutsLawfully plan images t rest = (printed : List Line) × BootsLawfully plan images (printed ++ rest) × Appends t.old t.new (text_of printed)

-- all of them if the boot ended
abbrev pub IsLawfullyFollowed : Plan → List (List ℕ) → Texts → Followed → Type 0
IsLawfullyFollowed plan images t (Ended end) = PutsLawfully plan images t []
IsLawfullyFollowed plan images t Stopped = (rest : List Line) × PutsLawfully plan images t rest
IsLawfullyFollowed plan images t (No line against) = (rest : List Line) × PutsLawfully plan images t rest

-- so is what `follow` puts, however the boot along the order ends
abbrev pub FollowedIsLawful : Type 0
FollowedIsLawful = (plan : Plan) (images : List (List ℕ)) (order : StartOrder) (t : Texts) (followed : Followed) → IsPlanInRange plan
    → Follows plan images order t (Ok followed) → IsLawfullyFollowed plan images t followed
