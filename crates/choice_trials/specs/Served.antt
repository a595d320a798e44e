-- What the tests keep of the services of a driver's calls, so that the next call may follow.
-- Own.
use Rattle.std.specs.Prelude.{◌≡◌, None}
use Rattle.pi_base.specs.declared.phase.Phase.TheVariants.{Dxe}
use Rattle.act_code.specs.declared.action.Action.{Action}
use Rattle.mod_catalog.specs.declared.catalogue.Catalog.{Catalog}
use Rattle.boot_model.specs.DxeMachine.{DxeMachine, DriverFrame}
use Rattle.phase_parts.specs.{Deed.deed, Needs.IsScriptAction}
use Rattle.dxe_core.specs.Services.{Services, AreServicesFor, AreServicesOf}

-- an action of a DXE script that scripts of PEI do not have
pub record IsOwn (action : Action) : Type 0 where
  pub of_script : IsScriptAction Dxe action
  pub own : (frame : DriverFrame) → deed frame action ≡ None

-- some machine has these services, and there is a flag for each module
pub record IsServed (catalog : Catalog) (services : Services) : Type 0 where
  pub flags : AreServicesFor catalog services
  pub machine : (m : DxeMachine) × AreServicesOf catalog m services
