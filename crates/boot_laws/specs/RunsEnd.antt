-- Every run ends, within as many steps as the definitions of the runs count. Own; PI 1.8, volumes 1 and 2, leave it to the dispatchers.
use Rattle.std.specs.Prelude.{◌≡◌, ℕ, true, is_some}
use Rattle.mod_catalog.specs.{declared.catalogue.Catalog.Catalog, WellFormed.AreNumbered}
use Rattle.store_model.specs.StoreState.{StoreState, Board}
use Rattle.boot_model.specs.{PeiRun.pei_end, DxeRun.dxe_end}

-- whatever the board and the catalogue, well-formed or not
abbrev pub PeiRunsEnd : Type 0
PeiRunsEnd = (board : Board) (catalog : Catalog) (fuel : ℕ) → is_some (pei_end board catalog fuel).ended ≡ true

-- if each volume's parent comes before it, as in every well-formed catalogue: a volume that is nested in itself would be discovered twice, and its drivers
-- start twice
abbrev pub DxeRunsEnd : Type 0
DxeRunsEnd = (catalog : Catalog) → AreNumbered 0 catalog.volumes → (fuel : ℕ) (s : StoreState) (actions : ℕ) → is_some (dxe_end catalog fuel s actions).ended ≡ true
