-- The opening is sound, and each step keeps it so; and what the store answers to a step is there.
-- Own.
use Rattle.std.specs.Prelude.{◌≡◌, ℕ, ◌≤◌, length, Some, Ok}
use Rattle.mod_catalog.specs.{declared.catalogue.Catalog.Catalog, declared.limits.TheConstants.MOST_MODULES}
use Rattle.store_model.specs.{declared.store_handle.Firing.Firing, declared.store_handle.Sweep.Sweep}
use Rattle.store_model.specs.{StoreState.StoreState, StoreState.Board, StateFacts.IsStoreState, StateFacts.IsSweepOf}
use Rattle.store_model.specs.{Service.Sweep.next_match, Service.Queue.queue_pop, Service.Install.core_install}
use Rattle.boot_model.specs.{PeiMachine.PeiMachine, PeiStep.pei_step, PeiStep.started, PeiRun.pei_opening}
use Rattle.boot_laws.specs.Stay.{IsLater}
use Rattle.boot_model.specs.MachineFacts.{IsSound, IsFiring}

abbrev pub OpeningIsSound : Type 0
OpeningIsSound = (board : Board) (catalog : Catalog) → IsSound (pei_opening board catalog)

abbrev pub StepsKeepSound : Type 0
StepsKeepSound =
    (catalog : Catalog) (fuel : ℕ) (m : PeiMachine) → length catalog.modules ≤ MOST_MODULES → IsStoreState m.store → IsSound m
    → IsSound (pei_step catalog fuel m)

abbrev pub StartsKeepSound : Type 0
StartsKeepSound =
    (catalog : Catalog) (m : PeiMachine) (number : ℕ) → length catalog.modules ≤ MOST_MODULES → IsSound m
    → IsSound (started catalog m number)

-- the callback of a pair that fires, and the sweep after the pair
abbrev pub MatchesAreSound : Type 0
MatchesAreSound =
    (s : StoreState) (sweep later : Sweep) (firing : Firing) → next_match s sweep ≡ Some (firing, later) → IsStoreState s → IsSweepOf s sweep
    → IsFiring s firing × IsSweepOf s later

-- the notification that leaves the queue
abbrev pub PopsAreSound : Type 0
PopsAreSound = (s new : StoreState) (firing : Firing) → queue_pop s ≡ Some (firing, new) → IsStoreState s → IsFiring new firing

-- the sweep of the core's own call
abbrev pub CoreSweepsAreSound : Type 0
CoreSweepsAreSound = (s new : StoreState) (sweep : Sweep) → core_install s ≡ Ok (sweep, new) → IsSweepOf new sweep

-- what is within the lists is so later too
abbrev pub SweepsStay : Type 0
SweepsStay = (s new : StoreState) (sweep : Sweep) → IsLater s new → IsSweepOf s sweep → IsSweepOf new sweep
