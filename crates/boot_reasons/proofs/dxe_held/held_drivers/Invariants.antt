use Rattle.std.proofs.Common.{◌≡◌, ◌++◌, filter, flat_map, length}
use Rattle.boot_model.specs.{DxeChoice.is_waiting, DxeMachine.DxeMachine}
use Rattle.dxe_dispatch.specs.Queue.{IsQueueOf}
use Rattle.dxe_core.specs.Standing.{IsCoreOf}
use Rattle.boot_reasons.specs.{DxeReasons.dxe_held, DxeReasons.dxe_held_at, Noting.giver_in}
use Rattle.boot_reasons.proofs.dxe_held.held_drivers.Given as goal

-- those so far, and those of the drivers that are left, are all
abbrev pub invariant-drivers : goal.invariant-drivers
invariant-drivers l =
    (m : DxeMachine) → IsCoreOf l.catalog l.dxe m → IsQueueOf l.catalog m l.queue
    → l.held ++ flat_map (dxe_held_at l.catalog m (giver_in l.givers.map)) (filter (is_waiting m) l.rest) ≡ dxe_held l.catalog m (giver_in l.givers.map)

abbrev pub decreases-drivers : goal.decreases-drivers
decreases-drivers l = length l.rest
