use Rattle.std.proofs.Common.{refl, ap, subst, ◌∙◌, suc, Some, Ok, option_map}
use Rattle.act_code.specs.declared.action.Action.TheVariants as A
use Rattle.boot_model.specs.declared.line.CallName.TheVariants as C
use Rattle.boot_model.specs.declared.line.Extra.TheVariants as X
use Rattle.store_model.specs.HandleState.{install_on}
use Rattle.boot_model.specs.Registers.{both, handle_in, number_in}
use Rattle.boot_model.specs.DxeAction.{Called, install_answer, install_reply}
use Rattle.phase_parts.specs.declared.registers.Writes.TheVariants as W
use Rattle.dxe_core.specs.Answered.{GrowByOne, Serves, did, swept}
use Rattle.dxe_core.specs.{Event.changes, Services.Services}
use Rattle.dxe_core.proofs.Growing.{grow_handles, grown, installs_one, with_handles}
use Rattle.dxe_core.proofs.Handling.{adds, faulted, on_none, sweeps, unasked}
use Rattle.dxe_core.proofs.handles.install_on.Goals as goal

pub returns-in-Ok-clause-row : goal.returns-in-Ok-clause-row
returns-in-Ok-clause-row c = λ catalog form.
    let frame = c.args.frame.now in
    let inside = c.services.inside in
    let old : Services = record { handles = inside.handles; notes = inside.notes; order = inside.order; requested = inside.requested } in
    let guid = c.args.guid.now in
    let on = c.in-Some.on in
    let value = c.in-Some.value in
    let handle = c.in-Ok.handle in
    let is = c.did.ensures ∙ ap (λ event. did event c.swept.result) c.changes.ensures ∙ ap (did (changes guid)) (c.swept.ensures ∙ ap (λ sweep. swept C.Install X.Nothing W.Nothing sweep) c.sweep.ensures) in
    subst (λ s. Serves catalog s frame (A.DxeInstall (suc form) c.args.h guid c.args.v) (Ok c.did.result) (with_handles old c.install.new.self)) c.services.view_is
    (λ m has. sweeps catalog m frame (A.DxeInstall (suc form) c.args.h guid c.args.v) C.Install X.Nothing W.Nothing guid value handle old c.install.new.self (Some guid) c.did.result has refl
    (adds catalog m frame form c.args.h c.args.v guid on value old has c.in-Some.ensures ∙ ap (λ s. Called C.Install (install_answer s m frame (suc form) c.args.h guid value)) c.in-Ok.ensures.row) is)

pub returns-in-Ok-clause-grow : goal.returns-in-Ok-clause-grow
returns-in-Ok-clause-grow c =
    let inside = c.services.inside in
    let old : Services = record { handles = inside.handles; notes = inside.notes; order = inside.order; requested = inside.requested } in
    subst (λ s. GrowByOne s (with_handles old c.install.new.self)) c.services.view_is
    (grow_handles old c.install.new.self (grown _ inside.handles c.install.new.self (Ok c.in-Ok.handle) (installs_one inside.handles (Some c.in-Some.on) c.args.guid.now c.in-Some.value) c.in-Ok.ensures.row))

pub returns-in-Err-clause-row : goal.returns-in-Err-clause-row
returns-in-Err-clause-row c = λ catalog form.
    let frame = c.args.frame.now in
    let inside = c.services.inside in
    let old : Services = record { handles = inside.handles; notes = inside.notes; order = inside.order; requested = inside.requested } in
    let guid = c.args.guid.now in
    let on = c.in-Some.on in
    let value = c.in-Some.value in
    subst (λ s. Serves catalog s frame (A.DxeInstall (suc form) c.args.h guid c.args.v) c.refused.result (with_handles old c.install.new.self)) c.services.view_is
    (λ m has. faulted catalog m frame (A.DxeInstall (suc form) c.args.h guid c.args.v) C.Install old c.install.new.self (install_on inside.handles on guid value) (λ s. install_answer s m frame (suc form) c.args.h guid value) c.in-Err.fault c.refused.result has
    (adds catalog m frame form c.args.h c.args.v guid on value old has c.in-Some.ensures) (λ _. refl) c.in-Err.ensures.row c.refused.ensures)

pub returns-in-None-clause-row : goal.returns-in-None-clause-row
returns-in-None-clause-row c = λ catalog form m has.
    let frame = c.args.frame.now in
    let on = handle_in frame.registers c.args.h in
    let number = number_in frame.registers c.args.v in
    unasked catalog m frame (A.DxeInstall (suc form) c.args.h c.args.guid.now c.args.v) C.Install c.args.services.now c.refusal.result (both (option_map (λ a. Some a) on) number) (install_reply m frame (suc form) c.args.h c.args.guid.now)
    has (on_none on number c.in-None.ensures) c.refusal.ensures refl
