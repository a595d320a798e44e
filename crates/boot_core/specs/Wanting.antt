-- Where memory may be wanting in a boot over a store that takes none: before anything is put, or behind all lines of PEI.
-- Own.
use Rattle.std.specs.Prelude.{ℕ, List, ⊤}
use Rattle.boot_plan.specs.declared.plan.Plan.{Plan}
use Rattle.mod_catalog.specs.{declared.catalogue.Catalog.Catalog, Catalogue.IsCatalogue}
use Rattle.store_model.specs.StoreState.{Board}
use Rattle.boot_model.specs.PlanBoard.{board_of}
use Rattle.boot_core.specs.Outcome.{Kind, OfFiles, OfSink, OfMemory, OfAnswer}
use Rattle.boot_trace.specs.Printing.{Texts}
use Rattle.boot_core.specs.FirstBoot.{IsOutsidePei}

-- by the kind of its status
abbrev pub IsWantedOutsidePei : Kind → Board → Catalog → ℕ → Texts → Type 0
IsWantedOutsidePei OfFiles board catalog fuel t = ⊤
IsWantedOutsidePei OfSink board catalog fuel t = ⊤
IsWantedOutsidePei OfMemory board catalog fuel t = IsOutsidePei board catalog fuel t
IsWantedOutsidePei OfAnswer board catalog fuel t = ⊤

-- the same of images, whatever their catalogue
abbrev pub IsWantedOutsidePeiOf : Kind → Plan → List (List ℕ) → Texts → Type 0
IsWantedOutsidePeiOf kind plan images t =
    (catalog : Catalog) → IsCatalogue plan images catalog → IsWantedOutsidePei kind (board_of plan catalog images) catalog plan.fuel t
