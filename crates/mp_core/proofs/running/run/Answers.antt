use Rattle.std.proofs.Common.{◌≡◌, ℕ, ◌<◌, ◌≤◌, ◌++◌, Bool, false, List, length, take, sym, ap, subst, ◌∙◌, arith, Result, Ok, Err, take_all, option_to_list, IfOk}
use Rattle.std.specs.List.{list_any}
use Rattle.mp_core.specs.{declared.event.MpEvent.MpEvent, declared.machine.Machine.Machine, Calls.IsEvent}
use Rattle.mp_core.specs.Machine.{IsLeft, IsMachine}
use Rattle.mp_core.specs.Past.{Past, after, opening, past_from, replies_from, reply}
use Rattle.mp_core.proofs.Orderly.{orderly}
use Rattle.mp_core.proofs.Runs.{busy_left, cells_left, completes, each_at, idle_in_order, past_more, records_left, replies_more}
use Rattle.mp_core.proofs.running.run.Goals as goal

if_ok : {T E : Type 0} (r : Result T E) (P Q : T → Type 0) → IfOk r P → ((x : T) → P x → Q x) → IfOk r Q
if_ok (Ok x) P Q h f = f x h
if_ok (Err e) P Q h f = h

pub loop-event-preserved : goal.loop-event-preserved
loop-event-preserved c =
    let n = c.args.processors in let k = c.args.cells in let events = c.args.events.now in let i = c.loop-event.event-index in let e = c.event-item.result in
    let past : Past = past_from n opening (take i events) in
    let before = c.loop-event.invariant.replies_are in
    let lt : i < length events = omega arith in
    record {
      stands = subst (λ p. IsMachine n k p c.answer.new.self) (sym (past_more n events i e lt ∙ ap (after n past) (sym c.event-item.is)))
          ((rw c.in-Ok.is at c.answer.ensures.after) n k past (orderly n (take i events)) c.loop-event.invariant.stands
          (subst (IsEvent n k) (sym c.event-item.is) (each_at (IsEvent n k) events i e c.requires.events lt)));
      replies_are = (rw c.in-Ok.is at c.answer.ensures.replies) n k past (orderly n (take i events)) c.loop-event.invariant.stands
          ∙ (λ j. before j ++ option_to_list (reply n past (c.event-item.is j))) ∙ sym (replies_more n events i e lt);
    }

-- the machine when all events are over
ends : (processors cells index : ℕ) (events : List MpEvent) (m : Machine) → length events ≤ index → IsMachine processors cells (past_from processors opening (take index events)) m
    → IsMachine processors cells (past_from processors opening events) m
ends processors cells index events m le h = subst (λ es. IsMachine processors cells (past_from processors opening es) m) (take_all index events le) h

pub returns-clause-cells : goal.returns-clause-cells
returns-clause-cells c =
    let n = c.args.processors in let k = c.args.cells in let events = c.args.events.now in let m = c.loop-event.machine in
    let h = ends n k c.loop-event.event-index events m (omega arith) c.loop-event.invariant.stands in
    if_ok c.outcome.result (IsLeft m) _ c.outcome.ensures.left (λ outcome left. cells_left n k (past_from n opening events) m outcome h left)

pub returns-clause-records : goal.returns-clause-records
returns-clause-records c =
    let n = c.args.processors in let k = c.args.cells in let events = c.args.events.now in let m = c.loop-event.machine in
    let h = ends n k c.loop-event.event-index events m (omega arith) c.loop-event.invariant.stands in
    if_ok c.outcome.result (IsLeft m) _ c.outcome.ensures.left (λ outcome left. records_left n k (past_from n opening events) m outcome h left)

pub returns-clause-busy : goal.returns-clause-busy
returns-clause-busy c =
    let n = c.args.processors in let k = c.args.cells in let events = c.args.events.now in let m = c.loop-event.machine in
    let h = ends n k c.loop-event.event-index events m (omega arith) c.loop-event.invariant.stands in
    if_ok c.outcome.result (IsLeft m) _ c.outcome.ensures.left (λ outcome left. busy_left n k (past_from n opening events) m outcome (orderly n events) h left)

pub returns-clause-idle : goal.returns-clause-idle
returns-clause-idle c =
    let n = c.args.processors in let k = c.args.cells in let events = c.args.events.now in let m = c.loop-event.machine in
    let h = ends n k c.loop-event.event-index events m (omega arith) c.loop-event.invariant.stands in
    let past : Past = past_from n opening events in
    if_ok c.outcome.result (IsLeft m) _ c.outcome.ensures.left (λ outcome left none.
    let none_busy = subst (λ (bs : List Bool). list_any (λ b. b) bs ≡ false) (busy_left n k past m outcome (orderly n events) h left) none in
    let same = idle_in_order n k past.steps (orderly n events) none_busy in
    (cells_left n k past m outcome h left ∙ same.0, records_left n k past m outcome h left ∙ same.1))

pub returns-clause-in_time : goal.returns-clause-in_time
returns-clause-in_time c =
    let n = c.args.processors in let k = c.args.cells in let events = c.args.events.now in let m = c.loop-event.machine in
    let h = ends n k c.loop-event.event-index events m (omega arith) c.loop-event.invariant.stands in
    let past : Past = past_from n opening events in
    if_ok c.outcome.result (IsLeft m) _ c.outcome.ensures.left (λ outcome left.
    completes n k past.steps outcome (orderly n events) (cells_left n k past m outcome h left) (records_left n k past m outcome h left))

pub answer-requires : goal.answer-requires
answer-requires c =
    let n = c.args.processors in let k = c.args.cells in let events = c.args.events.now in let i = c.loop-event.event-index in let e = c.event-item.result in
    let lt : i < length events = omega arith in (
      n,
      k,
      past_from n opening (take i events),
      c.loop-event.invariant.stands,
      subst (IsEvent n k) (sym c.event-item.is) (each_at (IsEvent n k) events i e c.requires.events lt),
    )

pub returns-clause-replies : goal.returns-clause-replies
returns-clause-replies c =
    let n = c.args.processors in let events = c.args.events.now in let le : length events ≤ c.loop-event.event-index = omega arith in
    if_ok c.outcome.result _ _ c.outcome.ensures.replies (λ outcome is.
    is ∙ c.loop-event.invariant.replies_are ∙ ap (replies_from n opening) (take_all c.loop-event.event-index events le))
