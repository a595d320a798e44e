use Rattle.std.proofs.Common.{reverse, subst, ◌∷◌, [], ◌∙◌}
use Rattle.pi_base.specs.Lists.{Each}
use Rattle.dxe_dispatch.specs.Choosing.{HasFlagFor}
use Rattle.dxe_dispatch.proofs.Scheduling.{each_front, group_on}
use Rattle.dxe_dispatch.proofs.queue.DriverQueue.schedule_group.Goals as goal

pub group-preserved : goal.group-preserved
group-preserved c = record {
  flags = c.in_ok-schedule.ensures.flags ∙ c.group.invariant.flags;
  left = each_front (HasFlagFor c.args.self.now) c.pop.new.self (c.in-Some.number ∷ []) (subst (Each (HasFlagFor c.args.self.now)) c.in-Some.ensures.last c.group.invariant.left);
  on = group_on c.args.catalog.now c.args.self.now c.group.self c.schedule.new.self c.group.group c.pop.new.self (reverse c.args.group) c.in-Some.number c.licence_of.result c.in-Some.ensures.last c.licence_of.ensures
      c.in_ok-schedule.ensures c.group.invariant.on;
}
