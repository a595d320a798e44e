-- What PEI hands on in the boot in the order of EDK2's dispatchers: the HOB list that DXE gets, or how PEI ended without a hand-off.
-- PI 1.8, volume 1, "PEI Dispatcher", and volume 3, "HOB List"; the order is own.
use Rattle.std.specs.Prelude.{◌≡◌, ℕ, List, Some}
use Rattle.boot_plan.specs.declared.plan.Plan.{Plan}
use Rattle.mod_catalog.specs.{declared.catalogue.Catalog.Catalog, Catalogue.IsCatalogue, WellFormed.IsWellFormed}
use Rattle.store_model.specs.StoreState.{Board, StoreState}
use Rattle.boot_model.specs.{declared.phase_end.PeiEnd.PeiEnd, PeiMachine.PeiMachine, PeiRun.pei_opening, PlanBoard.board_of}
use Rattle.pei_dispatch.specs.Choices.{ComesTo}
use Rattle.boot_core.specs.{declared.handing_on.HandOff.HandOff, declared.whole.boot.Booted.Booted, HandOff.HandsOn}
use Rattle.boot_core.specs.declared.whole.boot.Booted.TheVariants as B
use Rattle.recorded_boot.specs.Passes.{pass_choices}

-- PEI in that order comes to a machine that hands this on
pub record HandsOnInTurns (board : Board) (catalog : Catalog) (fuel : ℕ) (handed : HandOff) : Type 0 where
  pub pei : PeiMachine
  pub comes : ComesTo (pass_choices catalog fuel).peims (pass_choices catalog fuel).lets_peim catalog fuel (pei_opening board catalog) pei
  pub is : HandsOn pei handed

-- that of a plan's images
pub record IsHandOffInTurns (plan : Plan) (images : List (List ℕ)) (handed : HandOff) : Type 0 where
  pub catalog : Catalog
  pub sound : IsCatalogue plan images catalog
  pub is : HandsOnInTurns (board_of plan catalog images) catalog plan.fuel handed

-- a PEI that has ended so hands this on, for whose state its store stands so
abbrev pub HandsOnFrom : {M : Type 0} → (M → StoreState → Type 0) → M → PeiEnd → HandOff → Type 0
HandsOnFrom stands store end handed = (m : PeiMachine) → stands store m.store → m.ended ≡ Some end → HandsOn m handed

-- so the PEI of a boot that was not left in it
abbrev pub LeavesHandOff : {M : Type 0} → (M → StoreState → Type 0) → Booted M → HandOff → Type 0
LeavesHandOff stands (B.Ended ran) handed = HandsOnFrom stands ran.pei.store ran.pei.«end» handed
LeavesHandOff stands (B.BarredInPei barred) handed = ⊥
LeavesHandOff stands (B.BarredInDxe pei barred) handed = HandsOnFrom stands pei.store pei.«end» handed

-- two hand-offs in that order are the same
abbrev pub OneHandOff : Type 0
OneHandOff = (board : Board) (catalog : Catalog) (fuel : ℕ) → IsWellFormed catalog → (one other : HandOff) → HandsOnInTurns board catalog fuel one → HandsOnInTurns board catalog fuel other → one ≡ other
