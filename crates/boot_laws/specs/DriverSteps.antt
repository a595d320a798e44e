-- What a step of DXE keeps: the store; the volumes and the requests that there were, after which new ones come; and so the driver of each name. A call that is
-- refused changes nothing but the last status of its frame.
-- PI 1.8, volume 2, "Protocol Handler Services" and "DXE Services".
use Rattle.std.specs.Prelude.{◌≡◌, ◌≢◌, ℕ, ◌+◌, ◌≤◌, List, [], ◌++◌, length, Some, None, ⊤}
use Rattle.pi_base.specs.{declared.guid.Guid.Guid, declared.word.Word.TheVariants.Success}
use Rattle.act_code.specs.declared.action.Action.{Action}
use Rattle.mod_catalog.specs.{declared.catalogue.Catalog.Catalog, WellFormed.AreNumbered}
use Rattle.store_model.specs.StoreState.{StoreState}
use Rattle.boot_model.specs.{DxeMachine.DxeMachine, DxeMachine.DriverFrame, DxeChoice.driver_named, DxeChoice.discovered_order}
use Rattle.boot_model.specs.DxeAction.{DxeReply, DxeEffect, Wrote, Called, Logged, Skipped, Returned, Own, dxe_effect}
use Rattle.boot_model.specs.{DxeStep.dxe_step, DxeRun.dxe_run, DxeRun.dxe_opening}

-- nothing was done
pub record IsWithoutEffect (m : DxeMachine) (frame : DriverFrame) (reply : DxeReply) : Type 0 where
  pub machine : reply.machine ≡ m
  pub registers : reply.registers ≡ frame.registers
  pub sweep : reply.sweep ≡ None
  pub volumes : reply.volumes ≡ []

abbrev pub ChangesNothingIfRefused : DxeMachine → DriverFrame → DxeEffect → Type 0
ChangesNothingIfRefused m frame (Called name reply) = reply.status ≢ Success → IsWithoutEffect m frame reply
ChangesNothingIfRefused m frame (Wrote registers status) = ⊤
ChangesNothingIfRefused m frame (Logged text) = ⊤
ChangesNothingIfRefused m frame (Skipped n) = ⊤
ChangesNothingIfRefused m frame (Returned status) = ⊤
ChangesNothingIfRefused m frame (Own own) = ⊤

abbrev pub RefusedCallsChangeNothing : Type 0
RefusedCallsChangeNothing = (catalog : Catalog) (m : DxeMachine) (frame : DriverFrame) (action : Action) → ChangesNothingIfRefused m frame (dxe_effect catalog m frame action)

-- one list is the other, or more of it
abbrev pub BeginsWith : List ℕ → List ℕ → Type 0
BeginsWith old new = (more : List ℕ) × (new ≡ old ++ more)

pub record IsGrown (catalog : Catalog) (old new : DxeMachine) : Type 0 where
  pub store : new.store ≡ old.store
  pub discovered : BeginsWith old.discovered new.discovered
  pub requested : BeginsWith old.requested new.requested
  pub named : (name : Guid) (number : ℕ) → driver_named catalog old name ≡ Some number → driver_named catalog new name ≡ Some number

abbrev pub DriverStepsGrow : Type 0
DriverStepsGrow = (catalog : Catalog) (fuel : ℕ) (m : DxeMachine) → IsGrown catalog m (dxe_step catalog fuel m)

-- the drivers of a machine are no more than the modules
pub record AreFewDrivers (catalog : Catalog) (m : DxeMachine) : Type 0 where
  pub order : length (discovered_order catalog m) ≤ length catalog.modules
  pub queue : length m.scheduled + length m.started ≤ length catalog.modules

-- if each volume's parent comes before it, as in every well-formed catalogue
abbrev pub DriversAreFew : Type 0
DriversAreFew = (catalog : Catalog) → AreNumbered 0 catalog.volumes → (fuel n : ℕ) (s : StoreState) (actions : ℕ) → AreFewDrivers catalog (dxe_run catalog fuel n (dxe_opening catalog s actions))
