use Rattle.std.proofs.Common.{[], refl}
use Rattle.boot_model.specs.Discovery.{discoveries}
use Rattle.dxe_core.proofs.BasesMore.{comes, passes}
use Rattle.dxe_core.proofs.order.DriverOrder.discover.Goals as goal
use Rattle.dxe_core.proofs.order.DriverOrder.discover.Goals.{in-Some+in_ok-add, in_default}

pub bases-init : goal.bases-init
bases-init c = record { so_far = ([], c.empty-order.ensures c.args.catalog.now, refl) }

pub bases-preserved : goal.bases-preserved
bases-preserved c =
    let catalog = c.args.catalog.now in
    let bases = c.args.bases.now in
    let i = c.bases.base-index in
    record {
      so_far = elim c.match-volume_at.branch [
        | in-Some+in_ok-add w ↦
            rw w.order-is (comes catalog bases (discoveries catalog [] bases) i w.in-Some.volume c.bases.order w.add.new.self c.bases-test.true w.in-Some.ensures.volume w.in_ok-add.ensures c.bases.invariant.so_far)
        | in_default w ↦ rw w.order-is (passes catalog bases (discoveries catalog [] bases) i c.bases.order c.bases-test.true w.in_default.ensures.volume c.bases.invariant.so_far)
      ];
    }
