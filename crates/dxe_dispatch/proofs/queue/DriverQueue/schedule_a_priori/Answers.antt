use Rattle.std.proofs.Common.{◌∙◌}
use Rattle.dxe_dispatch.proofs.Scheduling.{volumes_on}
use Rattle.dxe_dispatch.proofs.queue.DriverQueue.schedule_a_priori.Goals as goal

pub volumes-preserved : goal.volumes-preserved
volumes-preserved c = record {
  flags = c.in_ok-schedule_volume.ensures.flags ∙ c.volumes.invariant.flags;
  on = volumes_on c.args.catalog.now c.args.self.now c.volumes.self c.schedule_volume.new.self c.args.volumes.now c.volumes.volume-index c.volumes-test.true c.in_ok-schedule_volume.ensures c.volumes.invariant.on;
}
