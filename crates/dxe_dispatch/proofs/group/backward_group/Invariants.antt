use Rattle.boot_model.specs.DxeMachine.{DxeMachine}
use Rattle.boot_laws.specs.GroupUnfolds.{IsRoot}
use Rattle.dxe_dispatch.specs.Choosing.{HaveWaiting}
use Rattle.dxe_dispatch.proofs.Walks.{IsWalk}
use Rattle.dxe_dispatch.proofs.group.backward_group.Given as goal

abbrev pub invariant-turns : goal.invariant-turns
invariant-turns l = (m : DxeMachine) → HaveWaiting l.fn.catalog m l.order l.waits → IsRoot l.fn.catalog m l.root → IsWalk l.fn.catalog m l.root l.stack l.group l.counter
