use Rattle.std.proofs.{Common.sym, Common.◌∙◌, lemmas.Result.err_from_is_err_and}
use Rattle.boot_model.specs.DxeStep.{dxe_step}
use Rattle.dxe_dispatch.proofs.Idle.{case_starts}
use Rattle.dxe_dispatch.proofs.Turning.{none_put, not_ok, part_started, part_stopped, starts_so, stays_so, stops_so}
use Rattle.dxe_dispatch.proofs.turns.start_or_stop.Goals as goal

pub choose-requires-clause-state : goal.choose-requires-clause-state
choose-requires-clause-state g c = (c.requires.state.0, c.requires.state.1)

pub returns-in_err-next-clause-row : goal.returns-in_err-next-clause-row
returns-in_err-next-clause-row g c m fuel are idle =
    let p = err_from_is_err_and c.from_residual.result c.from_residual.ensures.1 in
    rw p.1 (none_put ((g.C.Choice.rules c.args.choice.now).lets_in_dxe c.args.before) c.args.catalog.now m (dxe_step c.args.catalog.now fuel m) (g.S.Sink.text c.args.sink.now))

pub returns-in_err-start-in-Some-clause-row : goal.returns-in_err-start-in-Some-clause-row
returns-in_err-start-in-Some-clause-row g c m fuel are idle =
    let chosen = rw c.in-Some.is at (c.in_ok-next.ensures.row m are) in
    let p = err_from_is_err_and c.from_residual-in_err-start-in-Some.result c.from_residual-in_err-start-in-Some.ensures.1 in
    rw p.1 (part_started ((g.C.Choice.rules c.args.choice.now).lets_in_dxe c.args.before) c.args.catalog.now fuel m c.in-Some.next c.choose.new.queue _ chosen idle (sym c.lets_driver.ensures ∙ c.if-not-lets_driver.false) (c.in_err-start-in-Some.ensures.row m chosen.rest are.core))

pub returns-in_ok-start-in-Some-clause-row : goal.returns-in_ok-start-in-Some-clause-row
returns-in_ok-start-in-Some-clause-row g c m fuel are idle =
    let next = c.in-Some.next in
    let chosen = rw c.in-Some.is at (c.in_ok-next.ensures.row m are) in
    let driver = rw c.in-Some.is at c.in_ok-next.ensures.driver in
    let turned = starts_so ((g.C.Choice.rules c.args.choice.now).lets_in_dxe c.args.before) c.args.catalog.now fuel c.start.new.self c.choose.new.queue m next _ chosen idle driver (sym c.lets_driver.ensures ∙ c.if-not-lets_driver.false) (c.in_ok-start-in-Some.ensures.row m chosen.rest are.core) in
    (turned, (chosen.rest, case_starts c.args.catalog.now m next chosen.rest idle chosen.next_is))

pub returns-in_err-next-clause-made : goal.returns-in_err-next-clause-made
returns-in_err-next-clause-made g c = not_ok _ c.from_residual.result c.from_residual.ensures.0

pub returns-in_err-next-clause-queue : goal.returns-in_err-next-clause-queue
returns-in_err-next-clause-queue g c = not_ok _ c.from_residual.result c.from_residual.ensures.0

pub returns-in_err-next-clause-owes : goal.returns-in_err-next-clause-owes
returns-in_err-next-clause-owes g c = not_ok _ c.from_residual.result c.from_residual.ensures.0

pub returns-in_err-next-clause-few_steps : goal.returns-in_err-next-clause-few_steps
returns-in_err-next-clause-few_steps g c = c.in_err-next.ensures.few_steps

pub returns-in_err-start-in-Some-clause-made : goal.returns-in_err-start-in-Some-clause-made
returns-in_err-start-in-Some-clause-made g c = not_ok _ c.from_residual-in_err-start-in-Some.result c.from_residual-in_err-start-in-Some.ensures.0

pub returns-in_err-start-in-Some-clause-queue : goal.returns-in_err-start-in-Some-clause-queue
returns-in_err-start-in-Some-clause-queue g c = not_ok _ c.from_residual-in_err-start-in-Some.result c.from_residual-in_err-start-in-Some.ensures.0

pub returns-in_err-start-in-Some-clause-owes : goal.returns-in_err-start-in-Some-clause-owes
returns-in_err-start-in-Some-clause-owes g c = not_ok _ c.from_residual-in_err-start-in-Some.result c.from_residual-in_err-start-in-Some.ensures.0

pub returns-in_err-start-in-Some-clause-few_steps : goal.returns-in_err-start-in-Some-clause-few_steps
returns-in_err-start-in-Some-clause-few_steps g c = c.in_ok-next.ensures.few_steps

pub returns-in_err-put_stop-in-None-clause-made : goal.returns-in_err-put_stop-in-None-clause-made
returns-in_err-put_stop-in-None-clause-made g c = not_ok _ c.from_residual-in_err-put_stop-in-None.result c.from_residual-in_err-put_stop-in-None.ensures.0

pub returns-in_err-put_stop-in-None-clause-queue : goal.returns-in_err-put_stop-in-None-clause-queue
returns-in_err-put_stop-in-None-clause-queue g c = not_ok _ c.from_residual-in_err-put_stop-in-None.result c.from_residual-in_err-put_stop-in-None.ensures.0

pub returns-in_err-put_stop-in-None-clause-owes : goal.returns-in_err-put_stop-in-None-clause-owes
returns-in_err-put_stop-in-None-clause-owes g c = not_ok _ c.from_residual-in_err-put_stop-in-None.result c.from_residual-in_err-put_stop-in-None.ensures.0

pub returns-in_err-put_stop-in-None-clause-few_steps : goal.returns-in_err-put_stop-in-None-clause-few_steps
returns-in_err-put_stop-in-None-clause-few_steps g c = c.in_ok-next.ensures.few_steps

pub returns-in_ok-start-in-Some-clause-made : goal.returns-in_ok-start-in-Some-clause-made
returns-in_ok-start-in-Some-clause-made g c = c.in_ok-start-in-Some.ensures.made

pub returns-in_ok-start-in-Some-clause-queue : goal.returns-in_ok-start-in-Some-clause-queue
returns-in_ok-start-in-Some-clause-queue g c = c.in_ok-next.ensures.made

pub returns-in_ok-start-in-Some-clause-faults : goal.returns-in_ok-start-in-Some-clause-faults
returns-in_ok-start-in-Some-clause-faults g c = c.in_ok-start-in-Some.ensures.faults

pub returns-in_ok-start-in-Some-clause-few_steps : goal.returns-in_ok-start-in-Some-clause-few_steps
returns-in_ok-start-in-Some-clause-few_steps g c = c.in_ok-next.ensures.few_steps

pub returns-in_ok-start-in-Some-clause-owes : goal.returns-in_ok-start-in-Some-clause-owes
returns-in_ok-start-in-Some-clause-owes g c = c.in_ok-next.ensures.owes

pub start-requires : goal.start-requires
start-requires g c =
    record {
      idle = sym c.requires.state.1.core.frames ∙ c.requires.state.2;
      part = rw c.in-Some.is at c.in_ok-next.ensures.driver;
    }

pub returns-in_ok-put_stop-in-None-clause-row : goal.returns-in_ok-put_stop-in-None-clause-row
returns-in_ok-put_stop-in-None-clause-row g c m fuel are idle =
    let none = rw c.in-None.is at (c.in_ok-next.ensures.row m are) in
    stops_so ((g.C.Choice.rules c.args.choice.now).lets_in_dxe c.args.before) c.args.catalog.now fuel c.args.dxe.now c.args.queue.now c.choose.new.queue m _ idle are none (c.in_ok-put_stop-in-None.ensures.row m (record { core = are.core; queue = none.1 }))

pub returns-then-not-lets_driver-clause-row : goal.returns-then-not-lets_driver-clause-row
returns-then-not-lets_driver-clause-row g c m fuel are idle =
    let chosen = rw c.in-Some.is at (c.in_ok-next.ensures.row m are) in
    stays_so ((g.C.Choice.rules c.args.choice.now).lets_in_dxe c.args.before) c.args.catalog.now c.args.dxe.now c.args.queue.now c.choose.new.queue m c.in-Some.next _ chosen idle are (sym c.lets_driver.ensures ∙ c.if-not-lets_driver.true)

pub returns-in_err-put_stop-in-None-clause-row : goal.returns-in_err-put_stop-in-None-clause-row
returns-in_err-put_stop-in-None-clause-row g c m fuel are idle =
    let none = rw c.in-None.is at (c.in_ok-next.ensures.row m are) in
    let p = err_from_is_err_and c.from_residual-in_err-put_stop-in-None.result c.from_residual-in_err-put_stop-in-None.ensures.1 in
    rw p.1 (part_stopped ((g.C.Choice.rules c.args.choice.now).lets_in_dxe c.args.before) c.args.catalog.now fuel m c.choose.new.queue _ idle none (c.in_err-put_stop-in-None.ensures.row m (record { core = are.core; queue = none.1 })))

pub returns-then-not-lets_driver-clause-made : goal.returns-then-not-lets_driver-clause-made
returns-then-not-lets_driver-clause-made g c fuel for = for

pub returns-in_ok-put_stop-in-None-clause-made : goal.returns-in_ok-put_stop-in-None-clause-made
returns-in_ok-put_stop-in-None-clause-made g c fuel for = for

pub returns-then-not-lets_driver-clause-queue : goal.returns-then-not-lets_driver-clause-queue
returns-then-not-lets_driver-clause-queue g c = c.in_ok-next.ensures.made

pub returns-then-not-lets_driver-clause-few_steps : goal.returns-then-not-lets_driver-clause-few_steps
returns-then-not-lets_driver-clause-few_steps g c = c.in_ok-next.ensures.few_steps

pub returns-then-not-lets_driver-clause-owes : goal.returns-then-not-lets_driver-clause-owes
returns-then-not-lets_driver-clause-owes g c = c.in_ok-next.ensures.owes

pub returns-in_ok-put_stop-in-None-clause-queue : goal.returns-in_ok-put_stop-in-None-clause-queue
returns-in_ok-put_stop-in-None-clause-queue g c = c.in_ok-next.ensures.made

pub returns-in_ok-put_stop-in-None-clause-few_steps : goal.returns-in_ok-put_stop-in-None-clause-few_steps
returns-in_ok-put_stop-in-None-clause-few_steps g c = c.in_ok-next.ensures.few_steps

pub returns-in_ok-put_stop-in-None-clause-owes : goal.returns-in_ok-put_stop-in-None-clause-owes
returns-in_ok-put_stop-in-None-clause-owes g c = c.in_ok-next.ensures.owes
