-- A run of DXE: the machines from the hand-off on, each the step of the one before it, up to the one that has ended.
-- At the opening the volumes of the FV HOBs have just been discovered, and the actions of PEI are counted.
-- Own; PI 1.8, volume 2, leaves the run to the dispatcher.
use Rattle.std.specs.Prelude.{◌≡◌, ℕ, zero, suc, ◌+◌, ◌*◌, true, List, [], ◌∷◌, length, Some, None, is_some}
use Rattle.mod_catalog.specs.declared.catalogue.Catalog.{Catalog}
use Rattle.boot_model.specs.{declared.frame.TheConstants.MOST_FRAMES, DxeMachine.DxeMachine, DxeChoice.a_priori_drivers, DxeStep.dxe_step}
use Rattle.store_model.specs.{StoreState.StoreState, Service.Reading.fv_bases, HandleState.no_handles}
use Rattle.boot_model.specs.Discovery.{discoveries, discovery_lines}

-- the machine in which these volumes have just been discovered
abbrev pub dxe_opening_of : Catalog → StoreState → ℕ → List ℕ → DxeMachine
dxe_opening_of catalog s actions volumes = record {
  store = s;
  discovered = volumes;
  requested = [];
  scheduled = a_priori_drivers catalog volumes;
  started = [];
  handles = no_handles;
  notes = [];
  frames = [];
  actions = actions;
  lines = discovery_lines volumes;
  ended = None;
}

-- the machine at the opening, with the actions that were taken before
abbrev pub dxe_opening : Catalog → StoreState → ℕ → DxeMachine
dxe_opening catalog s actions = dxe_opening_of catalog s actions (discoveries catalog [] (fv_bases s))

-- these are the later machines of a run of DXE, up to the one that has ended
abbrev pub IsDxeRun : Catalog → ℕ → DxeMachine → List DxeMachine → Type 0
IsDxeRun catalog fuel m [] = is_some m.ended ≡ true
IsDxeRun catalog fuel m (later ∷ rest) = (m.ended ≡ None) × (later ≡ dxe_step catalog fuel m) × IsDxeRun catalog fuel later rest

-- the machine after at most n steps: once it has ended it stays as it is
abbrev pub dxe_run : Catalog → ℕ → ℕ → DxeMachine → DxeMachine
dxe_run catalog fuel zero m = m
dxe_run catalog fuel (suc n) m = elim m.ended [ Some end ↦ m | None ↦ dxe_run catalog fuel n (dxe_step catalog fuel m) ]

-- a run has at most so many steps: two for each action, more notifications than frames, a start for each driver and an end
abbrev pub dxe_bound : Catalog → ℕ → ℕ
dxe_bound catalog fuel = 2 * fuel + MOST_FRAMES + length catalog.modules + 1

-- DXE from the opening to its end
abbrev pub dxe_end : Catalog → ℕ → StoreState → ℕ → DxeMachine
dxe_end catalog fuel s actions = dxe_run catalog fuel (dxe_bound catalog fuel) (dxe_opening catalog s actions)
