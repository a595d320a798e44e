use Rattle.std.proofs.Common.{ap, ◌∙◌, Some, None}
use Rattle.dxe_core.specs.Standing.{DxeCore}
use Rattle.dxe_core.proofs.Cases.{is_there, over, runs_with}
use Rattle.dxe_core.proofs.Going.{texts}
use Rattle.phase_parts.specs.Frames.{top_of}
use Rattle.dxe_core.proofs.dxe.Dxe.step.Goals as goal

pub act-requires-clause-made : goal.act-requires-clause-made
act-requires-clause-made g c = c.requires.made

pub returns-in-Some-clause-row : goal.returns-in-Some-clause-row
returns-in-Some-clause-row g c m fuel for h waits =
    let frames = c.args.self.now.frames in
    let there = is_there c.top.result frames c.is_none.result (c.top.ensures ∙ ap (λ (core : DxeCore). top_of core.frames) c.self.view_is) c.is_none.ensures c.if-is_none.false in
    let fired = c.notify.ensures.row m fuel h.core (runs_with (Some c.in-Some.next) m frames h.core.frames there (c.in-Some.ensures m h.core.services.notes)) in
    over c.notify.result g.M.PeiStore.stands_for c.args.store.now c.args.catalog.now c.notify.new.self fuel m (texts (g.S.Sink.text c.args.sink.now) (g.S.Sink.text c.notify.new.sink)) h.store fired

pub returns-in-None-clause-row : goal.returns-in-None-clause-row
returns-in-None-clause-row g c m fuel for h waits =
    let frames = c.args.self.now.frames in
    let there = is_there c.top.result frames c.is_none.result (c.top.ensures ∙ ap (λ (core : DxeCore). top_of core.frames) c.self.view_is) c.is_none.ensures c.if-is_none.false in
    c.act.ensures.row m fuel for h waits (runs_with None m frames h.core.frames there (c.in-None.ensures m h.core.services.notes))

pub returns-in-Some-clause-made : goal.returns-in-Some-clause-made
returns-in-Some-clause-made g c = c.notify.ensures.made

pub returns-in-None-clause-made : goal.returns-in-None-clause-made
returns-in-None-clause-made g c = c.act.ensures.made

pub returns-in-Some-clause-faults : goal.returns-in-Some-clause-faults
returns-in-Some-clause-faults g c = c.notify.ensures.faults

pub returns-in-None-clause-faults : goal.returns-in-None-clause-faults
returns-in-None-clause-faults g c = c.act.ensures.faults

pub act-requires-clause-state : goal.act-requires-clause-state
act-requires-clause-state g c =
    let m = c.requires.state.0 in
    let h = c.requires.state.1 in
    let frames = c.args.self.now.frames in
    let there = is_there c.top.result frames c.is_none.result (c.top.ensures ∙ ap (λ (core : DxeCore). top_of core.frames) c.self.view_is) c.is_none.ensures c.if-is_none.false in
    (m, h, runs_with None m frames h.core.frames there (c.in-None.ensures m h.core.services.notes))
