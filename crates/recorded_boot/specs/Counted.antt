-- A machine's lines show as many starts as it has counted: in PEI the first starts and the second ones, in DXE the drivers that have started. Own; PI 1.8,
-- volume 1, "PEI Dispatcher" and `RegisterForShadow()`, and volume 2, "DXE Dispatcher".
use Rattle.std.specs.Prelude.{◌≡◌, ◌+◌, ℕ, List, length}
use Rattle.mod_catalog.specs.declared.catalogue.Catalog.{Catalog}
use Rattle.store_model.specs.StoreState.{Board, StoreState}
use Rattle.boot_model.specs.{PeiMachine.PeiMachine, PeiRun.pei_opening, DxeMachine.DxeMachine, DxeRun.dxe_opening}
use Rattle.recorded_boot.specs.{Starts.starts, Leading.PeiComesTo, Leading.DxeComesTo}

abbrev pub PeiStartsCount : Type 0
PeiStartsCount = (board : Board) (catalog : Catalog) (fuel : ℕ) (earlier : List PeiMachine) (m : PeiMachine)
    → PeiComesTo catalog fuel (pei_opening board catalog) earlier m → length (starts m.lines) ≡ length m.started + length m.again

abbrev pub DxeStartsCount : Type 0
DxeStartsCount = (catalog : Catalog) (fuel : ℕ) (s : StoreState) (actions : ℕ) (earlier : List DxeMachine) (m : DxeMachine)
    → DxeComesTo catalog fuel (dxe_opening catalog s actions) earlier m → length (starts m.lines) ≡ length m.started
