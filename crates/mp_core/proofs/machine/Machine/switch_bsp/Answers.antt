use Rattle.std.proofs.Common.{◌≡◌, ◌<◌, refl, subst}
use Rattle.mp_core.specs.{declared.machine.Machine.Machine, declared.reply.MpWord.TheVariants.Success, Machine.IsMachine}
use Rattle.mp_core.specs.Past.{Past, switch_bsp, if_success, with_enabled}
use Rattle.mp_core.proofs.Standing.{enable_stands}
use Rattle.mp_core.proofs.machine.Machine.switch_bsp.Goals as goal

pub returns-in-Success-clause-after : goal.returns-in-Success-clause-after
returns-in-Success-clause-after c = λ processors cells past o h needs.
    let word : Success ≡ switch_bsp processors past c.args.by c.args.on = c.in-Success.ensures.startup processors cells past o h in
    let m : Machine = c.args.self.now in
    let now : Machine = record { bsp = c.args.on; processors = c.enable.new.self.processors; cells = c.enable.new.self.cells } in
    let new_bsp : c.args.on < processors = subst (λ n. c.args.on < n) h.count (c.in-Success.ensures.below refl) in
    let then : Past = record (with_enabled m.bsp c.args.enabled past) { bsp = c.args.on } in
    let stands : IsMachine processors cells then now =
    enable_stands processors cells past m now m.bsp c.args.on c.args.enabled h h.bsp_below refl new_bsp c.enable.ensures.cells c.enable.ensures.count c.enable.ensures.enabled in
    subst (λ w. IsMachine processors cells (if_success w past (record (with_enabled past.bsp c.args.enabled past) { bsp = c.args.on })) now) word
    (subst (λ b. IsMachine processors cells (record (with_enabled b c.args.enabled past) { bsp = c.args.on }) now) h.bsp stands)
