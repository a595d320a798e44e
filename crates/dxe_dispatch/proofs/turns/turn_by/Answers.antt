use Rattle.std.proofs.Common.{◌+◌, ◌-◌, inl, inr, sym, subst, arith, ◌∙◌, ap, length, drop}
use Rattle.std.proofs.lemmas.Result.{err_from_is_err_and}
use Rattle.boot_io.proofs.PutsLaws.{appends_none}
use Rattle.boot_trace.specs.Printing.{Texts}
use Rattle.dxe_core.specs.Order.{Drivers}
use Rattle.dxe_dispatch.specs.{Ends.IsNow, Turns.IsLeft, Choices.IsOnWay, Choices.NamesDriver, PassList.IsPassListOf, PassList.PassList}
use Rattle.dxe_dispatch.specs.Queue.{IsSeen, Queue, owed}
use Rattle.dxe_dispatch.specs.Passes.{refilled, told_in}
use Rattle.dxe_dispatch.proofs.Chosen.{few_started}
use Rattle.dxe_dispatch.proofs.Following.{choice_of, given_up, keeps_passes, other_halt, refilled_so, told_so, turn_from, turn_with}
use Rattle.dxe_dispatch.proofs.turns.turn_by.Goals as goal

pub refill-requires-clause-seen : goal.refill-requires-clause-seen
refill-requires-clause-seen g c = let on = c.requires.state.3 in (c.requires.state.0, record { queue = on.now.queue; order = on.now.machine.core.services.order })

pub before-before-requires : goal.before-before-requires
before-before-requires g c =
    let on = c.requires.state.3 in
    let few = few_started c.args.catalog.now c.requires.state.0 on.way in
    let left = (c.refill.ensures.queue c.requires.state.0 on.now.queue).left in
    let modules = c.requires.catalog.few_modules in
    record { few = omega (arith, few, left, modules) }

pub turn_told-requires-clause-state : goal.turn_told-requires-clause-state
turn_told-requires-clause-state g c =
    let m = c.requires.state.0 in
    let on = c.requires.state.3 in
    (m, c.requires.state.1, c.requires.state.2, record { now = record { machine = on.now.machine; queue = c.refill.ensures.queue m on.now.queue }; way = on.way; waits = on.waits })

pub returns-in_err-refill-clause-row : goal.returns-in_err-refill-clause-row
returns-in_err-refill-clause-row g c m fuel first queue made on has is =
    let p = err_from_is_err_and c.from_residual.result c.from_residual.ensures.1 in
    rw p.1 (inl (appends_none (g.S.Sink.text c.args.sink.now)))

pub returns-in_err-turn-clause-row : goal.returns-in_err-turn-clause-row
returns-in_err-turn-clause-row g c m fuel first queue made on has is =
    let T = g.S.Sink.text in
    let catalog = c.args.catalog.now in
    let stands = g.M.PeiStore.stands_for in
    let store = c.args.store.now in
    let choice = choice_of (g.C.Choice.rules c.args.choice.now) T g.S.Sink.faults c.args.in_pei in
    let filled = c.refill.new.self in
    let now = c.turn_told.new.agenda in
    let mid : IsOnWay stands store catalog c.args.dxe.now filled.queue m = record { now = record { machine = on.now.machine; queue = c.refill.ensures.queue m on.now.queue }; way = on.way; waits = on.waits } in
    let seen : IsSeen catalog m c.args.agenda.now.queue c.args.dxe.now.services.order = record { queue = on.now.queue; order = on.now.machine.core.services.order } in
    let kept = refilled_so catalog choice.by.rules.wants_turn m queue c.args.dxe.now c.args.agenda.now.queue c.args.agenda.now.passes filled.passes on.now.machine.core.frames seen c.in_ok-refill.ensures.row is in
    let told = c.before-before.ensures ∙ told_so choice catalog m queue filled.passes filled.queue.left mid.now.queue.left kept.wanted kept.left in
    let p = err_from_is_err_and c.from_residual-in_err-turn.result c.from_residual-in_err-turn.ensures.1 in
    let t : Texts = record { old = T c.args.sink.now; new = T c.turn_told.new.sink } in
    let so = told_in choice catalog m queue in
    let turned = turn_from choice.by c.before-before.result so (IsNow stands store catalog c.turn_told.new.dxe now.queue) (IsLeft stands store catalog c.turn_told.new.dxe now.queue) catalog fuel m first t
    (c.refill.new.steps + owed filled.queue) (c.args.steps.now + owed c.args.agenda.now.queue) (c.turn_told.new.steps + owed now.queue) _ told c.refill.ensures.owes (c.in_err-turn.ensures.row m fuel first made mid has) in
    rw p.1 (inr (
      other_halt (NamesDriver choice.by so first) (λ m number. choice.by.rules.lets_in_dxe so number) (IsNow stands store catalog c.turn_told.new.dxe now.queue) (IsLeft stands store catalog c.turn_told.new.dxe now.queue) catalog fuel m t
          (c.args.steps.now + owed c.args.agenda.now.queue) (c.turn_told.new.steps + owed now.queue) _ p.0 turned,
      tt,
    ))

pub returns-in_err-follow-clause-row : goal.returns-in_err-follow-clause-row
returns-in_err-follow-clause-row g c m fuel first queue made on has is =
    let T = g.S.Sink.text in
    let catalog = c.args.catalog.now in
    let stands = g.M.PeiStore.stands_for in
    let store = c.args.store.now in
    let choice = choice_of (g.C.Choice.rules c.args.choice.now) T g.S.Sink.faults c.args.in_pei in
    let rules = choice.by.rules in
    let filled = c.refill.new.self in
    let now = c.turn_told.new.agenda in
    let t : Texts = record { old = T c.args.sink.now; new = T c.turn_told.new.sink } in
    let so = told_in choice catalog m queue in
    let mid : IsOnWay stands store catalog c.args.dxe.now filled.queue m = record { now = record { machine = on.now.machine; queue = c.refill.ensures.queue m on.now.queue }; way = on.way; waits = on.waits } in
    let seen : IsSeen catalog m c.args.agenda.now.queue c.args.dxe.now.services.order = record { queue = on.now.queue; order = on.now.machine.core.services.order } in
    let kept = refilled_so catalog rules.wants_turn m queue c.args.dxe.now c.args.agenda.now.queue c.args.agenda.now.passes filled.passes on.now.machine.core.frames seen c.in_ok-refill.ensures.row is in
    let told = c.before-before.ensures ∙ told_so choice catalog m queue filled.passes filled.queue.left mid.now.queue.left kept.wanted kept.left in
    let turned = turn_from choice.by c.before-before.result so (IsNow stands store catalog c.turn_told.new.dxe now.queue) (IsLeft stands store catalog c.turn_told.new.dxe now.queue) catalog fuel m first t
    (c.refill.new.steps + owed filled.queue) (c.args.steps.now + owed c.args.agenda.now.queue) (c.turn_told.new.steps + owed now.queue) _ told c.refill.ensures.owes (c.in_ok-turn.ensures.row m fuel first made mid has) in
    let p = err_from_is_err_and c.from_residual-in_err-follow.result c.from_residual-in_err-follow.ensures.1 in
    rw p.1 (inr (
      given_up (NamesDriver choice.by so first) (λ m number. rules.lets_in_dxe so number) (IsNow stands store catalog c.turn_told.new.dxe c.follow.new.self.queue) (IsLeft stands store catalog c.turn_told.new.dxe c.follow.new.self.queue) catalog fuel m t
          (c.args.steps.now + owed c.args.agenda.now.queue) (c.turn_told.new.steps + owed c.follow.new.self.queue) c.in_ok-turn.turn _
          (turn_with (NamesDriver choice.by so first) (λ m number. rules.lets_in_dxe so number) stands store catalog fuel c.turn_told.new.dxe m t (c.args.steps.now + owed c.args.agenda.now.queue) c.turn_told.new.steps _ now.queue c.follow.new.self.queue c.follow.ensures.queue turned),
      tt,
    ))

pub returns-clause-row : goal.returns-clause-row
returns-clause-row g c m fuel first queue made on has is =
    let T = g.S.Sink.text in
    let catalog = c.args.catalog.now in
    let stands = g.M.PeiStore.stands_for in
    let store = c.args.store.now in
    let choice = choice_of (g.C.Choice.rules c.args.choice.now) T g.S.Sink.faults c.args.in_pei in
    let rules = choice.by.rules in
    let filled = c.refill.new.self in
    let now = c.turn_told.new.agenda in
    let t : Texts = record { old = T c.args.sink.now; new = T c.turn_told.new.sink } in
    let so = told_in choice catalog m queue in
    let mid : IsOnWay stands store catalog c.args.dxe.now filled.queue m = record { now = record { machine = on.now.machine; queue = c.refill.ensures.queue m on.now.queue }; way = on.way; waits = on.waits } in
    let seen : IsSeen catalog m c.args.agenda.now.queue c.args.dxe.now.services.order = record { queue = on.now.queue; order = on.now.machine.core.services.order } in
    let kept = refilled_so catalog rules.wants_turn m queue c.args.dxe.now c.args.agenda.now.queue c.args.agenda.now.passes filled.passes on.now.machine.core.frames seen c.in_ok-refill.ensures.row is in
    let told = c.before-before.ensures ∙ told_so choice catalog m queue filled.passes filled.queue.left mid.now.queue.left kept.wanted kept.left in
    let Names = NamesDriver choice.by so first in
    let turned = turn_from choice.by c.before-before.result so (IsNow stands store catalog c.turn_told.new.dxe now.queue) (IsLeft stands store catalog c.turn_told.new.dxe now.queue) catalog fuel m first t
    (c.refill.new.steps + owed filled.queue) (c.args.steps.now + owed c.args.agenda.now.queue) (c.turn_told.new.steps + owed now.queue) _ told c.refill.ensures.owes (c.in_ok-turn.ensures.row m fuel first made mid has) in
    let by = turn_with Names (λ m number. rules.lets_in_dxe so number) stands store catalog fuel c.turn_told.new.dxe m t (c.args.steps.now + owed c.args.agenda.now.queue) c.turn_told.new.steps _ now.queue c.follow.new.self.queue c.follow.ensures.queue turned in
    let count = ap (λ (q : Queue). q.left - c.left_count-left.result) (sym c.follow.ensures.queue) ∙ ap (λ n. c.follow.new.self.queue.left - n) (c.left_count-left.ensures ∙ mid.now.queue.left) in
    let volumes = ap (λ (o : Drivers). drop (length c.volumes-known.result.now) o.volumes) c.order-2.ensures
    ∙ ap (λ xs. drop (length xs) c.turn_told.new.dxe.services.order.volumes) (c.volumes-known.ensures ∙ ap (λ (o : Drivers). o.volumes) c.order.ensures ∙ on.now.machine.core.services.order.volumes_are) in
    let P : PassList → Type 0 = λ k. IsPassListOf catalog rules.wants_turn m (refilled catalog m queue) k in (
      by,
      keeps_passes Names (λ m number. rules.lets_in_dxe so number) stands store (IsLeft stands store catalog c.turn_told.new.dxe c.follow.new.self.queue) catalog fuel m t (c.args.steps.now + owed c.args.agenda.now.queue) (c.turn_told.new.steps + owed c.follow.new.self.queue) c.in_ok-turn.turn
          rules.wants_turn queue c.turn_told.new.dxe c.follow.new.self.queue now.passes c.follow.new.self.passes _ _ count volumes (subst P (sym c.turn_told.ensures.passes) kept) c.in_ok-follow.ensures.row by,
    )
