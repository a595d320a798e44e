use Rattle.std.proofs.Common.{◌≡◌, ◌<◌, refl, subst, ◌∙◌}
use Rattle.mp_core.specs.{declared.reply.MpWord.TheVariants.Success, Machine.IsMachine}
use Rattle.mp_core.specs.Past.{enable_disable_ap, if_success, with_enabled}
use Rattle.mp_core.proofs.Standing.{enable_stands}
use Rattle.mp_core.proofs.machine.Machine.enable_disable_ap.Goals as goal

pub returns-in-Success-clause-after : goal.returns-in-Success-clause-after
returns-in-Success-clause-after c = λ processors cells past o h needs.
    let word : Success ≡ enable_disable_ap processors past c.args.by c.args.on = c.in-Success.ensures.enable processors cells past o h in
    subst (λ w. IsMachine processors cells (if_success w past (with_enabled c.args.on c.args.enabled past)) c.enable.new.self) word
    (enable_stands processors cells past c.args.self.now c.enable.new.self c.args.on past.bsp c.args.enabled h (subst (λ n. c.args.on < n) h.count (c.in-Success.ensures.below refl))
    (c.enable.ensures.bsp ∙ h.bsp) (subst (λ n. n < processors) h.bsp h.bsp_below) c.enable.ensures.cells c.enable.ensures.count c.enable.ensures.enabled)
