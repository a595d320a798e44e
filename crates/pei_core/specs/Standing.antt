-- The machine that the core stands for, with any lines: what the core keeps is what the machine has.
-- Own.
use Rattle.std.specs.Prelude.{◌≡◌, ℕ, length, Option, None, ◌+◌, ◌-◌, ◌^◌, min}
use Rattle.mod_catalog.specs.declared.catalogue.Catalog.{Catalog}
use Rattle.store_model.specs.StoreState.{Board, StoreState, empty_store}
use Rattle.boot_model.specs.{MachineFacts.IsSound, PeiMachine.PeiMachine, PeiRun.pei_opening, PeimState.ArePeimStates}
use Rattle.phase_parts.specs.Known.{AreKnown}
use Rattle.pei_core.specs.{Started.RunsStarted, declared.core_state.Core.Core, declared.pei.Pei.Pei}

-- the fields
pub record IsCoreOf (core : Core) (m : PeiMachine) : Type 0 where
  pub frames : m.frames ≡ core.frames
  pub sweep : m.core_sweep ≡ core.sweep
  pub reported : m.reported ≡ core.reported
  pub states : ArePeimStates m core.states
  pub actions : m.actions ≡ core.fuel.taken
  pub starts : core.starts ≡ min (length m.started + length m.again) (2 ^ 32 - 1)
  pub running : m.ended ≡ None

-- what a core keeps for a catalogue and its fuel: a state for each module, and volumes that differ
pub record IsCoreFor (catalog : Catalog) (fuel : ℕ) (core : Core) : Type 0 where
  pub states : length core.states ≡ length catalog.modules
  pub known : AreKnown catalog core.reported
  pub fuelled : core.fuel.limit ≡ fuel

-- a core over its store has what the machine has
pub record Has {M : Type 0} (stands : M → StoreState → Type 0) (pei : Pei M) (m : PeiMachine) : Type 0 where
  pub store : stands pei.store m.store
  pub fields : IsCoreOf pei.core m

-- and the core stands for a running machine
pub record StandsFor {M : Type 0} (stands : M → StoreState → Type 0) (pei : Pei M) (m : PeiMachine) : Type 0 where
  pub has : Has stands pei m
  pub sound : IsSound m
  pub started : RunsStarted m

-- over a new store, it stands for the machine at the opening
abbrev pub Opens : {M : Type 0} → (M → StoreState → Type 0) → M → Catalog → Pei M → Type 0
Opens stands store catalog pei = (board : Board) → stands store (empty_store board) → StandsFor stands pei (pei_opening board catalog)

abbrev pub IsFor : {M : Type 0} → Catalog → ℕ → Pei M → Type 0
IsFor catalog fuel pei = IsCoreFor catalog fuel pei.core

-- the module that started last
abbrev pub last_start : {M : Type 0} → Pei M → Option ℕ
last_start pei = pei.core.last_start

-- what a call leaves as it is: it stays a core for its catalogue and its fuel; and which module has then started last
pub record KeepsFor {M : Type 0} (catalog : Catalog) (pei later : Pei M) (last : Option ℕ) : Type 0 where
  pub made : (fuel : ℕ) → IsFor catalog fuel pei → IsFor catalog fuel later
  pub started : last_start later ≡ last
