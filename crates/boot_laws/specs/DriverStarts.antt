-- No driver starts twice in a run of DXE.
-- Each volume's parent must come before it, as it does in every well-formed catalogue: a volume that is nested in itself would be discovered twice.
-- PI 1.8, volume 2, "DXE Dispatcher".
use Rattle.std.specs.Prelude.{ℕ}
use Rattle.mod_catalog.specs.{declared.catalogue.Catalog.Catalog, WellFormed.AreNumbered}
use Rattle.store_model.specs.StoreState.{StoreState}
use Rattle.boot_model.specs.{Licence.AllDiffer, DxeRun.dxe_run, DxeRun.dxe_opening}

abbrev pub DriversStartOnce : Type 0
DriversStartOnce =
    (catalog : Catalog) → AreNumbered 0 catalog.volumes → (fuel n : ℕ) (s : StoreState) (actions : ℕ) → AllDiffer (dxe_run catalog fuel n (dxe_opening catalog s actions)).started
