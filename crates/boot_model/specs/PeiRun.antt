-- A run of PEI: the machines from the opening on, each the step of the one before it, up to the one that has ended.
-- At the opening volume 0 and the volumes nested in it have just been reported, and the heap holds the hand-off HOB alone.
-- Own; PI 1.8, volume 1, leaves the run to the dispatcher.
use Rattle.std.specs.Prelude.{◌≡◌, ℕ, zero, suc, ◌+◌, ◌*◌, true, List, [], ◌∷◌, length, Some, None, is_some}
use Rattle.mod_catalog.specs.{declared.catalogue.Catalog.Catalog, Parts.family}
use Rattle.boot_model.specs.{declared.frame.TheConstants.MOST_FRAMES, PeiMachine.PeiMachine, PeiStep.pei_step, PeiStep.report_lines}
use Rattle.store_model.specs.StoreState.{Board, empty_store}

-- the machine at the opening
abbrev pub pei_opening : Board → Catalog → PeiMachine
pei_opening board catalog = record {
  store = empty_store board;
  reported = family catalog 0;
  started = [];
  shadows = [];
  again = [];
  cursor = 0;
  frames = [];
  core_sweep = None;
  actions = 0;
  lines = report_lines (family catalog 0);
  ended = None;
}

-- these are the later machines of a run of PEI, up to the one that has ended
abbrev pub IsPeiRun : Catalog → ℕ → PeiMachine → List PeiMachine → Type 0
IsPeiRun catalog fuel m [] = is_some m.ended ≡ true
IsPeiRun catalog fuel m (later ∷ rest) = (m.ended ≡ None) × (later ≡ pei_step catalog fuel m) × IsPeiRun catalog fuel later rest

-- the last machine of a run
abbrev pub last_machine : PeiMachine → List PeiMachine → PeiMachine
last_machine m [] = m
last_machine m (later ∷ rest) = last_machine later rest

-- the machine after at most n steps: once it has ended it stays as it is
abbrev pub pei_run : Catalog → ℕ → ℕ → PeiMachine → PeiMachine
pei_run catalog fuel zero m = m
pei_run catalog fuel (suc n) m = elim m.ended [ Some end ↦ m | None ↦ pei_run catalog fuel n (pei_step catalog fuel m) ]

-- a run has at most so many steps: two for each action, more notifications than frames, two starts for each part, a move and an end
abbrev pub pei_bound : Catalog → ℕ → ℕ
pei_bound catalog fuel = 2 * fuel + MOST_FRAMES + 2 * length catalog.modules + 2

-- PEI from the opening to its end
abbrev pub pei_end : Board → Catalog → ℕ → PeiMachine
pei_end board catalog fuel = pei_run catalog fuel (pei_bound catalog fuel) (pei_opening board catalog)
