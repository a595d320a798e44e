-- In each machine of a run of DXE the discovered order has each driver of a discovered volume once, and nothing else.
-- PI 1.8, volume 2, "DXE Dispatcher".
use Rattle.std.specs.Prelude.{◌≡◌, ◌↔◌, ℕ, true}
use Rattle.mod_catalog.specs.{declared.catalogue.Catalog.Catalog, WellFormed.AreNumbered, Parts.has_number}
use Rattle.store_model.specs.StoreState.{StoreState}
use Rattle.boot_model.specs.{Licence.AllDiffer, DxeMachine.DxeMachine, DxeChoice.discovered_order, DxeRun.dxe_run, DxeRun.dxe_opening}
use Rattle.boot_model.specs.DriverLicence.{IsDiscovered}

pub record HasEachOnce (catalog : Catalog) (m : DxeMachine) : Type 0 where
  pub once : AllDiffer (discovered_order catalog m)
  pub each : (number : ℕ) → IsDiscovered catalog m number ↔ (has_number (discovered_order catalog m) number ≡ true)

-- if each volume's parent comes before it, as in every well-formed catalogue
abbrev pub DiscoveredOrderHasEachOnce : Type 0
DiscoveredOrderHasEachOnce = (catalog : Catalog) → AreNumbered 0 catalog.volumes → (fuel n : ℕ) (s : StoreState) (actions : ℕ) → HasEachOnce catalog (dxe_run catalog fuel n (dxe_opening catalog s actions))
