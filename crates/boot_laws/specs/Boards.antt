-- The board of a plan and its images has the facts of a board: temporary RAM, RAM and the volumes do not meet.
-- So what needs them holds of each boot of images.
-- Own.
use Rattle.std.specs.Prelude.{ℕ, List}
use Rattle.boot_plan.specs.{declared.plan.Plan.Plan, Range.IsPlanInRange}
use Rattle.mod_catalog.specs.{declared.catalogue.Catalog.Catalog, Catalogue.IsCatalogue}
use Rattle.store_model.specs.StateFacts.{IsBoard}
use Rattle.boot_model.specs.{Licence.AlongRun, Licence.IsLicensedStep, PlanBoard.board_of, PeiRun.pei_opening, PeiRun.pei_run}
use Rattle.boot_laws.specs.RunFacts.{HasFacts}

abbrev pub BoardsAreSound : Type 0
BoardsAreSound =
    (plan : Plan) (images : List (List ℕ)) (catalog : Catalog) → IsPlanInRange plan → IsCatalogue plan images catalog
    → IsBoard (board_of plan catalog images)

-- every machine of PEI of a plan and its images has its facts
abbrev pub BootsHaveFacts : Type 0
BootsHaveFacts =
    (plan : Plan) (images : List (List ℕ)) (catalog : Catalog) → IsPlanInRange plan → IsCatalogue plan images catalog
    → (fuel n : ℕ) → HasFacts (pei_run catalog fuel n (pei_opening (board_of plan catalog images) catalog))

-- and each of its steps has its licence
abbrev pub BootsAreLicensed : Type 0
BootsAreLicensed =
    (plan : Plan) (images : List (List ℕ)) (catalog : Catalog) → IsPlanInRange plan → IsCatalogue plan images catalog
    → (fuel n : ℕ) → AlongRun catalog fuel (IsLicensedStep catalog) n (pei_opening (board_of plan catalog images) catalog)
