use Rattle.std.proofs.Common.{◌≡◌, sym, subst}
use Rattle.mp_core.specs.{declared.reply.MpWord.TheVariants.Success, Machine.IsMachine}
use Rattle.mp_core.specs.Past.{enabled_aps, if_success, started, startup_all_aps}
use Rattle.mp_core.proofs.Orderly.{all_pass}
use Rattle.mp_core.proofs.machine.Machine.startup_all_aps.Goals as goal

pub returns-in-Success-clause-after : goal.returns-in-Success-clause-after
returns-in-Success-clause-after c = λ processors cells past o h job.
    let word : Success ≡ startup_all_aps processors past c.args.by = c.in-Success.ensures processors cells past o h in
    subst (λ w. IsMachine processors cells (if_success w past (started (enabled_aps processors past) c.args.job.now past)) c.start_all.new.self) word
    (c.start_all.ensures processors cells past o h job.1 (all_pass processors past c.args.by (sym word)))
