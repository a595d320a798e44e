-- What holds of every free run of PEI, whichever of the eligible PEIMs the dispatcher starts. No PEIM starts twice, but one that registered for shadow. Each
-- start has its licence in the machine before it. PEI stops only when no PEIM of a reported volume may start. The move changes no PPI or notification. PI 1.8,
-- volume 1, "PEI Dispatcher", "A Priori File", "Dependency Expressions", `RegisterForShadow()` and "Installing PEI Memory".
use Rattle.std.specs.Prelude.{◌≡◌, ◌⊎◌, ℕ, List, [], ◌∷◌, Some, ⊤}
use Rattle.pi_base.specs.{declared.phase.Phase.TheVariants.Pei, Lists.Each}
use Rattle.mod_catalog.specs.{declared.catalogue.Catalog.Catalog, declared.catalogue.Part.Part, Parts.part_at, WellFormed.IsWellFormed}
use Rattle.store_model.specs.{StateFacts.IsBoard, StoreState.Board}
use Rattle.boot_model.specs.{Eligible.licence_at, FreeRun.IsFreePeiRun, PeiMachine.PeiMachine, PeiRun.pei_opening, PeiStep.started_by}
use Rattle.boot_model.specs.Licence.{IsLicensed, IsPartAmong, MovesUnchanged, StartedOnce, StopsIdle}

-- P holds of each two machines of a run that follow each other
abbrev pub EachStep : {M : Type 0} → (M → M → Type 0) → M → List M → Type 0
EachStep P m [] = ⊤
EachStep P m (later ∷ rest) = P m later × EachStep P later rest

-- in every free run of PEI no PEIM has started twice in any machine, but those that registered for shadow: once more, and after the move
abbrev pub FreePeimsStartOnce : Type 0
FreePeimsStartOnce = (board : Board) (catalog : Catalog) (fuel : ℕ) (run : List PeiMachine)
    → IsFreePeiRun catalog fuel (pei_opening board catalog) run → Each StartedOnce run

-- a PEIM of a reported volume has started by its licence, which it had in the machine before
pub record HasStarted (catalog : Catalog) (m later : PeiMachine) : Type 0 where
  pub number : ℕ
  pub part : Part
  pub part_is : part_at Pei catalog number ≡ Some part
  pub among : IsPartAmong Pei catalog m.reported number
  pub licensed : IsLicensed m number part (licence_at m number part)
  pub later_is : later ≡ started_by catalog m number part (licence_at m number part)

-- no PEIM has started, neither for the first time nor again
abbrev pub HasStartedNone : PeiMachine → PeiMachine → Type 0
HasStartedNone m later = (later.started ≡ m.started) × (later.again ≡ m.again)

-- a step starts no PEIM, or one with its licence
abbrev pub StartsLicensed : Catalog → PeiMachine → PeiMachine → Type 0
StartsLicensed catalog m later = HasStartedNone m later ⊎ HasStarted catalog m later

abbrev pub FreePeimsStartLicensed : Type 0
FreePeimsStartLicensed = (board : Board) (catalog : Catalog) (fuel : ℕ) (run : List PeiMachine)
    → IsFreePeiRun catalog fuel (pei_opening board catalog) run → EachStep (StartsLicensed catalog) (pei_opening board catalog) run

-- over a well-formed catalogue PEI stops only when no PEIM of a reported volume may start
abbrev pub FreePeiStopsIdle : Type 0
FreePeiStopsIdle = (board : Board) (catalog : Catalog) (fuel : ℕ) (run : List PeiMachine) → IsWellFormed catalog
    → IsFreePeiRun catalog fuel (pei_opening board catalog) run → EachStep (λ m later. StopsIdle catalog m) (pei_opening board catalog) run

-- over a well-formed catalogue and a board with its facts, the move changes no PPI, notification or other HOB
abbrev pub FreeMovesChangeNothing : Type 0
FreeMovesChangeNothing = (board : Board) (catalog : Catalog) (fuel : ℕ) (run : List PeiMachine) → IsWellFormed catalog → IsBoard board
    → IsFreePeiRun catalog fuel (pei_opening board catalog) run → EachStep (λ m later. MovesUnchanged catalog m) (pei_opening board catalog) run
