-- The machine of DXE that the core stands for, whatever is scheduled and has started: what the core keeps is what the machine has.
-- Own.
use Rattle.std.specs.Prelude.{◌≡◌, ℕ, List, None}
use Rattle.mod_catalog.specs.declared.catalogue.Catalog.{Catalog}
use Rattle.store_model.specs.StoreState.{StoreState}
use Rattle.boot_model.specs.DxeMachine.{DxeMachine, DriverFrame}
use Rattle.phase_parts.specs.declared.fuel.Fuel.{Fuel}
use Rattle.dxe_core.specs.Services.{Services, AreCounted, AreServicesFor, AreServicesOf}

-- what is kept: the scripts that run, the actions that were taken and may be taken, and what the services act on
pub record DxeCore : Type 0 where
  pub frames : List DriverFrame
  pub fuel : Fuel
  pub services : Services

-- the core keeps what the machine has, and the machine runs
pub record IsCoreOf (catalog : Catalog) (core : DxeCore) (m : DxeMachine) : Type 0 where
  pub frames : m.frames ≡ core.frames
  pub services : AreServicesOf catalog m core.services
  pub actions : m.actions ≡ core.fuel.taken
  pub running : m.ended ≡ None

-- what a core keeps for a catalogue and its fuel
pub record IsFor (catalog : Catalog) (fuel : ℕ) (core : DxeCore) : Type 0 where
  pub made : AreServicesFor catalog core.services
  pub counted : AreCounted core.fuel.taken core.services
  pub fuelled : core.fuel.limit ≡ fuel

-- the core with its store stands for the machine
pub record StandsFor {M : Type 0} (stands : M → StoreState → Type 0) (held : M) (catalog : Catalog) (kept : DxeCore) (m : DxeMachine) : Type 0 where
  pub store : stands held m.store
  pub core : IsCoreOf catalog kept m
