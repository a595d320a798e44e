-- Which of the drivers that wait for a request have one, if flags say which drivers were requested. PI 1.8, volume 2, `Schedule()`.
use Rattle.std.specs.Prelude.{ℕ, Bool, ◌&&◌, not, List, Option, is_some, slice_get, find}
use Rattle.act_code.specs.declared.action.Action.{Action}
use Rattle.mod_catalog.specs.declared.catalogue.Catalog.{Catalog}
use Rattle.boot_model.specs.DxeMachine.{DxeMachine, DriverFrame}
use Rattle.boot_laws.specs.UnrequestedDrivers.{WaitForRequest}
use Rattle.dxe_core.specs.{declared.reply.Reply.Reply, Reply.IsReply}
use Rattle.dxe_core.specs.Services.{Services, AreServicesOf, flag_at}

-- whether the flag of a module is down
abbrev pub is_down : Catalog → List Bool → ℕ → Bool
is_down catalog requested number = is_some (slice_get catalog.modules number) && not (flag_at requested number)

-- the first of these drivers whose flag is down
abbrev pub first_down : Catalog → List Bool → List ℕ → Option ℕ
first_down catalog requested drivers = find (is_down catalog requested) drivers

-- what the action does from each machine that has these services, and in which drivers wait for their request
abbrev pub ServesRequest : Catalog → Services → DriverFrame → Action → Reply → Services → Type 0
ServesRequest catalog services frame action reply new =
    (m : DxeMachine) → AreServicesOf catalog m services → WaitForRequest catalog m → IsReply catalog m frame action reply new
