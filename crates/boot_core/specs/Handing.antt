-- What a boot hands back: the store of the last machine, where the boot came to its end.
-- Own.
use Rattle.std.specs.Prelude.{◌≡◌, ℕ, List, Option, Some, None, Result, Ok, Err, ⊤}
use Rattle.boot_plan.specs.declared.plan.Plan.{Plan}
use Rattle.boot_io.specs.declared.halt.Halt.{Halt}
use Rattle.boot_io.specs.declared.halt.Halt.TheVariants as H
use Rattle.mod_catalog.specs.{declared.catalogue.Catalog.Catalog, Catalogue.IsCatalogue}
use Rattle.boot_model.specs.{PeiRun.pei_end, PlanBoard.board_of}
use Rattle.store_model.specs.StoreState.{StoreState}
use Rattle.mem_store.specs.{declared.store.MemStore.MemStore, MemState.StandsFor}
use Rattle.boot_core.specs.{declared.whole.boot.Ran.Ran, declared.plan_boot.Booted.Booted, declared.status.Status.Status, BootEnd.status_of}
use Rattle.boot_core.specs.declared.status.Status.TheVariants as V
use Rattle.boot_core.specs.Outcome.{IsOfRun}

-- the answer of a boot that ran, or of why it did not come to its end
abbrev pub IsBooted : Result (Ran MemStore) Halt → Booted → Type 0
IsBooted (Ok ran) booted = (booted.status ≡ status_of ran.«end») × (booted.store ≡ Some ran.pei.store)
IsBooted (Err H.Sink) booted = (booted.status ≡ V.SinkFault) × (booted.store ≡ None)
IsBooted (Err H.Memory) booted = (booted.status ≡ V.Memory) × (booted.store ≡ None)

-- a store that stands for this state, where there is one
abbrev pub StandsWhere : StoreState → Option MemStore → Type 0
StandsWhere s None = ⊤
StandsWhere s (Some store) = StandsFor store s

-- a store exactly after the end of a run
abbrev pub IsWhereRan : Status → Option MemStore → Type 0
IsWhereRan status None = IsOfRun status → ⊥
IsWhereRan status (Some store) = IsOfRun status

-- and it stands for the state of the last machine
pub record HandsBack (plan : Plan) (catalog : Catalog) (images : List (List ℕ)) (booted : Booted) : Type 0 where
  pub where_ran : IsWhereRan booted.status booted.store
  pub stands : StandsWhere (pei_end (board_of plan catalog images) catalog plan.fuel).store booted.store

-- the same of images, whatever their catalogue
pub record HandsBackOf (plan : Plan) (images : List (List ℕ)) (booted : Booted) : Type 0 where
  pub where_ran : IsWhereRan booted.status booted.store
  pub stands : (catalog : Catalog) → IsCatalogue plan images catalog → StandsWhere (pei_end (board_of plan catalog images) catalog plan.fuel).store booted.store
