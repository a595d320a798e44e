use Rattle.std.proofs.Common.{◌≡◌, ◌<◌, length, drop, subst, sym, ◌∷◌, []}
use Rattle.boot_model.specs.declared.driver.Scheduled.{Scheduled}
use Rattle.dxe_dispatch.specs.{Queue.Queue, Choosing.Schedules}
use Rattle.dxe_dispatch.proofs.Scheduling.{one_scheduled}
use Rattle.dxe_dispatch.proofs.queue.DriverQueue.schedule.Goals as goal

pub returns : goal.returns
returns c =
    let x : Scheduled = record { module_number = c.args.number; licence = c.args.licence } in
    let old : Queue = record { scheduled = drop c.self.inside.head c.self.inside.items; left = c.self.inside.head; waits = c.self.inside.waits; index = c.self.inside.index } in
    let later : Queue = record { scheduled = drop c.self.inside.head c.push.new.self; left = c.self.inside.head; waits = c.set.new.self; index = c.leave.new.index } in
    let is : c.args.self.now ≡ old = sym c.self.view_is in
    let number = subst (λ (queue : Queue). c.args.number < length queue.waits) is c.requires.number in
    subst (λ queue. Schedules queue (x ∷ []) later) (sym is)
    (one_scheduled c.self.inside.items c.push.new.self c.self.inside.head c.self.inside.waits c.set.new.self c.self.inside.index c.leave.new.index x c.self.invariant number c.in_ok-push.ensures.ok c.set.ensures c.leave.ensures)
