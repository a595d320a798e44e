-- The PEI order of volumes that differ has each PEI part of each of them once, and nothing else. Those that a machine of a run has reported differ.
-- PI 1.8, volume 1, "PEI Dispatcher" and "A Priori File".
use Rattle.std.specs.Prelude.{◌≡◌, ℕ, ◌<◌, ◌≤◌, true, List, length}
use Rattle.pi_base.specs.{declared.phase.Phase.TheVariants.Pei, Lists.Each}
use Rattle.mod_catalog.specs.{declared.catalogue.Catalog.Catalog, Parts.has_number, WellFormed.AreNumbered, WellFormed.IsWellFormed}
use Rattle.store_model.specs.StoreState.{Board}
use Rattle.boot_model.specs.{PeiMachine.PeiMachine, PeiRun.pei_opening, PeiRun.pei_run, PeiChoice.pei_order}
use Rattle.boot_model.specs.Licence.{AllDiffer, IsPartAmong}

-- no module is twice in an order, each is one of the catalogue, and so there are no more of them
pub record IsOfModules (catalog : Catalog) (order : List ℕ) : Type 0 where
  pub differ : AllDiffer order
  pub below : Each (λ number. number < length catalog.modules) order
  pub few : length order ≤ length catalog.modules

-- whatever the catalogue, well-formed or not
abbrev pub OrderIsOfModules : Type 0
OrderIsOfModules = (catalog : Catalog) (reported : List ℕ) → AllDiffer reported → IsOfModules catalog (pei_order catalog reported)

-- an order has the PEI parts of some volumes, each once
pub record HasEachPartOnce (catalog : Catalog) (reported order : List ℕ) : Type 0 where
  pub differ : AllDiffer order
  pub only : Each (IsPartAmong Pei catalog reported) order
  pub each : (number : ℕ) → IsPartAmong Pei catalog reported number → has_number order number ≡ true

abbrev pub OrderHasEachPartOnce : Type 0
OrderHasEachPartOnce =
    (catalog : Catalog) (reported : List ℕ) → IsWellFormed catalog → AllDiffer reported
    → HasEachPartOnce catalog reported (pei_order catalog reported)

-- the volumes that a machine of a run has reported are distinct, if each volume's parent comes before it, as in every well-formed catalogue
abbrev pub ReportedDiffer : Type 0
ReportedDiffer =
    (catalog : Catalog) (board : Board) → AreNumbered 0 catalog.volumes
    → (fuel n : ℕ) → AllDiffer (pei_run catalog fuel n (pei_opening board catalog)).reported

-- the order of a machine has the parts of what it has reported
abbrev pub OrderIsWhole : Catalog → PeiMachine → Type 0
OrderIsWhole catalog m = HasEachPartOnce catalog m.reported (pei_order catalog m.reported)

abbrev pub OrdersOfRuns : Type 0
OrdersOfRuns =
    (catalog : Catalog) (board : Board) → IsWellFormed catalog
    → (fuel n : ℕ) → OrderIsWhole catalog (pei_run catalog fuel n (pei_opening board catalog))
