use Rattle.std.proofs.Common.{refl, ap, subst, ◌∙◌, None, Ok}
use Rattle.act_code.specs.declared.action.Action.TheVariants as A
use Rattle.boot_model.specs.declared.line.CallName.TheVariants as C
use Rattle.boot_model.specs.declared.line.Extra.TheVariants as X
use Rattle.store_model.specs.HandleState.{reinstall_interface}
use Rattle.boot_model.specs.DxeAction.{Called, protocol_sweep, reinstall_answer, reinstall_reply}
use Rattle.phase_parts.specs.declared.registers.Writes.TheVariants as W
use Rattle.dxe_core.specs.Answered.{GrowByOne, Serves, swept}
use Rattle.dxe_core.specs.Services.{Services}
use Rattle.dxe_core.proofs.Growing.{grow_handles, grown, reinstalls_none, with_handles}
use Rattle.dxe_core.proofs.Handling.{faulted, replaces, sweeps, unasked}
use Rattle.dxe_core.proofs.handles.reinstall.Goals as goal

pub returns-in-Ok-clause-row : goal.returns-in-Ok-clause-row
returns-in-Ok-clause-row c = λ catalog.
    let frame = c.args.frame.now in
    let inside = c.services.inside in
    let old : Services = record { handles = inside.handles; notes = inside.notes; order = inside.order; requested = inside.requested } in
    let guid = c.args.guid.now in
    let on = c.in-Some.on in
    let from = c.in-Some.from in
    let to = c.in-Some.to in
    let is = c.swept.ensures ∙ ap (λ sweep. swept C.Reinstall X.Nothing W.Nothing sweep) c.sweep.ensures in
    subst (λ s. Serves catalog s frame (A.DxeReinstall c.args.h guid c.args.old c.args.new) (Ok c.swept.result) (with_handles old c.reinstall.new.self)) c.services.view_is
    (λ m has. sweeps catalog m frame (A.DxeReinstall c.args.h guid c.args.old c.args.new) C.Reinstall X.Nothing W.Nothing guid to on old c.reinstall.new.self None c.swept.result has refl
    (replaces catalog m frame c.args.h c.args.old c.args.new guid on from to old has c.in-Some.ensures ∙ ap (λ s. Called C.Reinstall (reinstall_answer s m frame (protocol_sweep m guid to on))) c.in-Ok.ensures.row) is)

pub returns-in-Ok-clause-grow : goal.returns-in-Ok-clause-grow
returns-in-Ok-clause-grow c =
    let inside = c.services.inside in
    let old : Services = record { handles = inside.handles; notes = inside.notes; order = inside.order; requested = inside.requested } in
    subst (λ s. GrowByOne s (with_handles old c.reinstall.new.self)) c.services.view_is
    (grow_handles old c.reinstall.new.self (grown _ inside.handles c.reinstall.new.self (Ok (tt {0})) (reinstalls_none inside.handles c.in-Some.on c.args.guid.now c.in-Some.from c.in-Some.to) c.in-Ok.ensures.row))

pub returns-in-Err-clause-row : goal.returns-in-Err-clause-row
returns-in-Err-clause-row c = λ catalog.
    let frame = c.args.frame.now in
    let inside = c.services.inside in
    let old : Services = record { handles = inside.handles; notes = inside.notes; order = inside.order; requested = inside.requested } in
    let guid = c.args.guid.now in
    let on = c.in-Some.on in
    let from = c.in-Some.from in
    let to = c.in-Some.to in
    subst (λ s. Serves catalog s frame (A.DxeReinstall c.args.h guid c.args.old c.args.new) c.refused.result (with_handles old c.reinstall.new.self)) c.services.view_is
    (λ m has. faulted catalog m frame (A.DxeReinstall c.args.h guid c.args.old c.args.new) C.Reinstall old c.reinstall.new.self (reinstall_interface inside.handles on guid from to) (λ s. reinstall_answer s m frame (protocol_sweep m guid to on)) c.in-Err.fault c.refused.result has
    (replaces catalog m frame c.args.h c.args.old c.args.new guid on from to old has c.in-Some.ensures) (λ _. refl) c.in-Err.ensures.row c.refused.ensures)

pub returns-in-None-clause-row : goal.returns-in-None-clause-row
returns-in-None-clause-row c = λ catalog m has.
    let frame = c.args.frame.now in
    let guid = c.args.guid.now in
    unasked catalog m frame (A.DxeReinstall c.args.h guid c.args.old c.args.new) C.Reinstall c.args.services.now c.refusal.result _ (reinstall_reply m frame guid) has c.in-None.ensures c.refusal.ensures refl
