use Rattle.std.proofs.Common.{◌≡◌, ◌-◌, length}
use Rattle.boot_model.specs.DxeMachine.{DxeMachine}
use Rattle.dxe_core.specs.Order.{IsOrderOf}
use Rattle.boot_laws.specs.DxeAim.{follows}
use Rattle.dxe_dispatch.proofs.root.root_of.Given as goal

-- the names that are left lead on to the driver
abbrev pub invariant-names : goal.invariant-names
invariant-names l = (m : DxeMachine) → IsOrderOf l.catalog m.discovered l.order → follows l.catalog m (length l.catalog.modules - l.counter) l.root ≡ follows l.catalog m (length l.catalog.modules) l.number
