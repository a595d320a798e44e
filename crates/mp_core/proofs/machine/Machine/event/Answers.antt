use Rattle.std.proofs.Common.{◌≡◌, List, sym, subst}
use Rattle.mp_core.specs.{declared.event.MpEvent.MpEvent, declared.machine.Machine.Machine, declared.op.Op.Op, Calls.IsEvent, Calls.IsJob}
use Rattle.mp_core.specs.declared.event.MpEvent.TheVariants as event
use Rattle.mp_core.specs.{Machine.Becomes, Machine.IsMachine, Past.after}
use Rattle.mp_core.proofs.machine.Machine.event.Goals as goal

-- what an event makes, where it is known which event it is
after_event : (old now : Machine) (event known : MpEvent) → event ≡ known → Becomes old (λ processors cells. IsEvent processors cells known) (λ processors past. after processors past known) now
    → Becomes old (λ processors cells. IsEvent processors cells event) (λ processors past. after processors past event) now
after_event old now event known is h = subst (λ e. Becomes old (λ processors cells. IsEvent processors cells e) (λ processors past. after processors past e) now) (sym is) h

pub returns-in-Turn-clause-after : goal.returns-in-Turn-clause-after
returns-in-Turn-clause-after c = after_event c.args.self.now c.turn.new.self c.args.event.now (event.Turn c.in-Turn.on) c.in-Turn.is
    (λ processors cells past o h needs. c.in_ok-turn-in-Turn.ensures processors cells past o h tt)

pub returns-in-All-clause-after : goal.returns-in-All-clause-after
returns-in-All-clause-after c = after_event c.args.self.now c.startup_all_aps-word.new.self c.args.event.now (event.All c.in-All.by c.in-All.job) c.in-All.is
    (λ processors cells past o h needs.
    subst (λ (job : List Op). IsMachine processors cells (after processors past (event.All c.in-All.by job)) c.startup_all_aps-word.new.self) c.as_slice.ensures
    (c.startup_all_aps-word.ensures.after processors cells past o h (subst (λ (job : List Op). IsJob cells job) (sym c.as_slice.ensures) needs.1)))

pub returns-in-This-clause-after : goal.returns-in-This-clause-after
returns-in-This-clause-after c = after_event c.args.self.now c.startup_this_ap-word.new.self c.args.event.now (event.This c.in-This.by c.in-This.on c.in-This.job) c.in-This.is
    (λ processors cells past o h needs.
    subst (λ (job : List Op). IsMachine processors cells (after processors past (event.This c.in-This.by c.in-This.on job)) c.startup_this_ap-word.new.self) c.as_slice-in-This.ensures
    (c.startup_this_ap-word.ensures.after processors cells past o h (subst (λ (job : List Op). IsJob cells job) (sym c.as_slice-in-This.ensures) needs.1)))

pub returns-in-Enable-clause-after : goal.returns-in-Enable-clause-after
returns-in-Enable-clause-after c = after_event c.args.self.now c.enable_disable_ap-word.new.self c.args.event.now (event.Enable c.in-Enable.by c.in-Enable.on c.in-Enable.enabled) c.in-Enable.is
    (λ processors cells past o h needs. c.enable_disable_ap-word.ensures.after processors cells past o h tt)

pub returns-in-Switch-clause-after : goal.returns-in-Switch-clause-after
returns-in-Switch-clause-after c = after_event c.args.self.now c.switch_bsp-word.new.self c.args.event.now (event.Switch c.in-Switch.by c.in-Switch.on c.in-Switch.enabled) c.in-Switch.is
    (λ processors cells past o h needs. c.switch_bsp-word.ensures.after processors cells past o h tt)
