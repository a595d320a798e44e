use Rattle.std.proofs.Common.{◌∙◌, true≢false, sym}
use Rattle.dxe_dispatch.proofs.Turning.{on_ok, owes_still, turns_over}
use Rattle.dxe_dispatch.proofs.turns.turn.Goals as goal

pub act-requires-clause-state : goal.act-requires-clause-state
act-requires-clause-state g c = c.requires.state

pub start_or_stop-requires-clause-state : goal.start_or_stop-requires-clause-state
start_or_stop-requires-clause-state g c =
    let ready = c.requires.state.3 in
    (c.requires.state.0, record { core = ready.now.machine.core; queue = ready.now.queue }, ready.now.machine.core.frames ∙ c.is_idle.ensures.0 c.if-is_idle.true)

pub act-requires-clause-busy : goal.act-requires-clause-busy
act-requires-clause-busy g c idle = true≢false (sym (c.is_idle.ensures.1 idle) ∙ c.if-is_idle.false)

pub returns-then-is_idle-clause-row : goal.returns-then-is_idle-clause-row
returns-then-is_idle-clause-row g c m fuel made ready =
    turns_over ((g.C.Choice.rules c.args.choice.now).lets_in_dxe c.args.before) g.M.PeiStore.stands_for c.args.store.now c.args.catalog.now fuel m c.start_or_stop.new.dxe c.start_or_stop.new.queue _ c.start_or_stop.result ready.now.machine.store
    (c.start_or_stop.ensures.row m fuel (record { core = ready.now.machine.core; queue = ready.now.queue }) (ready.now.machine.core.frames ∙ c.is_idle.ensures.0 c.if-is_idle.true))

pub returns-then-is_idle-clause-owes : goal.returns-then-is_idle-clause-owes
returns-then-is_idle-clause-owes g c = on_ok c.start_or_stop.result (λ few m fuel made ready. owes_still c.args.catalog.now fuel m _ _ few) c.start_or_stop.ensures.owes

pub returns-else-is_idle-clause-row : goal.returns-else-is_idle-clause-row
returns-else-is_idle-clause-row g c = c.act.ensures.row ((g.C.Choice.rules c.args.choice.now).lets_in_dxe c.args.before)

pub returns-else-is_idle-clause-owes : goal.returns-else-is_idle-clause-owes
returns-else-is_idle-clause-owes g c = on_ok c.act.result (λ owes. owes c.args.steps.now) c.act.ensures.owes

pub returns-then-is_idle-clause-made : goal.returns-then-is_idle-clause-made
returns-then-is_idle-clause-made g c = c.start_or_stop.ensures.made

pub returns-then-is_idle-clause-queue : goal.returns-then-is_idle-clause-queue
returns-then-is_idle-clause-queue g c = c.start_or_stop.ensures.queue

pub returns-then-is_idle-clause-faults : goal.returns-then-is_idle-clause-faults
returns-then-is_idle-clause-faults g c = c.start_or_stop.ensures.faults

pub returns-then-is_idle-clause-few_steps : goal.returns-then-is_idle-clause-few_steps
returns-then-is_idle-clause-few_steps g c = c.start_or_stop.ensures.few_steps

pub returns-else-is_idle-clause-made : goal.returns-else-is_idle-clause-made
returns-else-is_idle-clause-made g c = c.act.ensures.made

pub returns-else-is_idle-clause-queue : goal.returns-else-is_idle-clause-queue
returns-else-is_idle-clause-queue g c = c.act.ensures.queue

pub returns-else-is_idle-clause-faults : goal.returns-else-is_idle-clause-faults
returns-else-is_idle-clause-faults g c = c.act.ensures.faults
