-- No driver starts twice in a free run, and DXE stops only where none may start.
use Rattle.std.proofs.Common.{ℕ, List, [], ◌∷◌}
use Rattle.pi_base.specs.Lists.{Each}
use Rattle.mod_catalog.specs.{declared.catalogue.Catalog.Catalog, WellFormed.AreNumbered}
use Rattle.boot_model.specs.{Licence.AllDiffer, DriverLicence.DxeStopsIdle, DxeMachine.DxeMachine, DxeRun.dxe_opening, FreeRun.IsFreeDxeRun}
use Rattle.boot_model.proofs.Distinct.{all_differ}
use Rattle.boot_laws.specs.DxeUnderWay.{DxeOpensUnderWay, DxeStepsRunOut, IsUnderWay}
use Rattle.boot_laws.proofs.DxeStopsIdle as Stops
use Rattle.free_laws.specs.{FreeDxe.FreeDriversStartOnce, FreeDxe.FreeDxeStopsIdle, FreePei.EachStep}

run_once : DxeStepsRunOut → (catalog : Catalog) (fuel : ℕ) (m : DxeMachine) (run : List DxeMachine) → AreNumbered 0 catalog.volumes → IsUnderWay catalog m → IsFreeDxeRun catalog fuel m run → Each (λ m. AllDiffer m.started) run
run_once nearer catalog fuel m [] numbered way goes = tt
run_once nearer catalog fuel m (later ∷ rest) numbered way goes =
    let next : IsUnderWay catalog later = (nearer catalog fuel m later numbered goes.0 way goes.1).way in
    (all_differ later.started next.started_differ, run_once nearer catalog fuel later rest numbered next goes.2)

pub start_once : DxeOpensUnderWay → DxeStepsRunOut → FreeDriversStartOnce
start_once opens nearer catalog numbered fuel s actions run goes = run_once nearer catalog fuel (dxe_opening catalog s actions) run numbered (opens catalog fuel s actions numbered).way goes

run_stops : (catalog : Catalog) (m : DxeMachine) (run : List DxeMachine) → EachStep (λ m later. DxeStopsIdle catalog m) m run
run_stops catalog m [] = tt
run_stops catalog m (later ∷ rest) = (Stops.stops_idle catalog m, run_stops catalog later rest)

pub stops_idle : FreeDxeStopsIdle
stops_idle catalog fuel s actions run goes = run_stops catalog (dxe_opening catalog s actions) run
