-- How a run of DXE answers: the end of the machine, with all of its lines; or why the end was not reached, with a part of them.
-- Own; PI 1.8, volume 2, "DXE Dispatcher".
use Rattle.std.specs.Prelude.{◌≡◌, ℕ, List, Option, Some, None}
use Rattle.std.specs.Io.KnownBytes.{Appends}
use Rattle.mod_catalog.specs.declared.catalogue.Catalog.{Catalog}
use Rattle.store_model.specs.StoreState.{StoreState}
use Rattle.boot_model.specs.{declared.phase_end.DxeEnd.DxeEnd, DxeMachine.DxeMachine, Text.text_of, DxeRun.dxe_opening}
use Rattle.dxe_dispatch.specs.Queue.{Queue, IsQueueOf}
use Rattle.dxe_core.specs.Standing.{DxeCore, StandsFor}

-- the run has ended so, and all of its lines were put
pub record HasEnded (how : DxeEnd) (end : DxeMachine) (old new : Option (List ℕ)) : Type 0 where
  pub ended : end.ended ≡ Some how
  pub text : Appends old new (text_of end.lines)

-- the machine for which the core beside its store stands now, and the queue
pub record IsNow {M : Type 0} (stands : M → StoreState → Type 0) (beside : M) (catalog : Catalog)
    (core : DxeCore) (kept : Queue) (m : DxeMachine) : Type 0 where
  pub machine : StandsFor stands beside catalog core m
  pub queue : IsQueueOf catalog m kept

-- the core beside its store, and the queue, stand for the last machine: that is the end as it was before it ended
abbrev pub StandsAtEnd : {M : Type 0} → (M → StoreState → Type 0) → M → Catalog → DxeCore → Queue → DxeMachine → Type 0
StandsAtEnd stands store catalog core queue end = IsNow stands store catalog core queue (record end { ended = None })

-- the core beside its store is at the opening of a run: it stands for it over some state, with some actions
abbrev pub IsAtOpening : {M : Type 0} → (M → StoreState → Type 0) → M → Catalog → DxeCore → Type 0
IsAtOpening stands store catalog core =
    (s : StoreState) × (actions : ℕ) × StandsFor stands store catalog core (dxe_opening catalog s actions)

-- the core beside its store is at the opening over each state for which the store stands, with the actions that PEI took
abbrev pub IsOpened : {M : Type 0} → (M → StoreState → Type 0) → M → Catalog → ℕ → DxeCore → Type 0
IsOpened stands store catalog taken core = (s : StoreState) → stands store s → StandsFor stands store catalog core (dxe_opening catalog s taken)
