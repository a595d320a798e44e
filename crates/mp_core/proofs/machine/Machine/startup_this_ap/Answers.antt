use Rattle.std.proofs.Common.{◌≡◌, ◌<◌, [], ◌∷◌, not, eqb, ltb, refl, sym, subst}
use Rattle.mp_core.specs.{declared.reply.MpWord.TheVariants.Success, declared.reply.MpWord.TheVariants.NotReady, Machine.IsMachine}
use Rattle.mp_core.specs.Past.{is_enabled_ap, startup_this_ap, if_success, started}
use Rattle.mp_core.specs.Schedule.{is_busy}
use Rattle.mp_core.proofs.{Orderly.four_pass, Orderly.idle_from, Standing.start_stands}
use Rattle.mp_core.proofs.machine.Machine.startup_this_ap.Goals as goal

pub returns-in-Success-clause-after : goal.returns-in-Success-clause-after
returns-in-Success-clause-after c = λ processors cells past o h job.
    let on = c.args.on in
    let word : Success ≡ startup_this_ap processors past c.args.by on = c.in-Success.ensures.startup processors cells past o h in
    let pass = four_pass (not (eqb c.args.by past.bsp)) (not (ltb on processors)) (not (is_enabled_ap past on)) (is_busy on past.steps) NotReady (λ e. cc) (sym word) in
    subst (λ w. IsMachine processors cells (if_success w past (started (on ∷ []) c.args.job.now past)) c.start.new.self) word
    (start_stands processors cells past c.args.self.now c.start.new.self on c.args.job h (subst (λ n. on < n) h.count (c.in-Success.ensures.below refl))
    (idle_from on past.steps o.fair pass.ready) job.1 c.start.ensures.bsp c.start.ensures.cells c.start.ensures.count c.start.ensures.started)
