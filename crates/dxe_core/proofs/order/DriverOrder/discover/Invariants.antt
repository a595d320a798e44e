use Rattle.std.proofs.Common.{[], drop}
use Rattle.boot_model.specs.Discovery.{discoveries}
use Rattle.dxe_core.proofs.BasesMore.{AreSoFar}
use Rattle.dxe_core.proofs.order.DriverOrder.discover.Given as goal

-- the volumes so far, and those of the bases that are left, make the whole
abbrev pub invariant-bases : goal.invariant-bases
invariant-bases l = record {
  so_far : AreSoFar l.catalog (drop l.base-index l.bases) (discoveries l.catalog [] l.bases) l.order;
}
