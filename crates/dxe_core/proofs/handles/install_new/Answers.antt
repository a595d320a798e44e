use Rattle.std.proofs.Common.{refl, ap, subst, ◌∙◌, Some, None, Ok}
use Rattle.act_code.specs.declared.action.Action.TheVariants as A
use Rattle.boot_model.specs.declared.line.CallName.TheVariants as C
use Rattle.boot_model.specs.declared.line.Extra.TheVariants as X
use Rattle.boot_model.specs.{declared.frame.Register.TheVariants.HandleIn, Registers.both, Registers.number_in}
use Rattle.boot_model.specs.DxeAction.{Called, install_answer, install_reply}
use Rattle.phase_parts.specs.declared.registers.Writes.TheVariants as W
use Rattle.dxe_core.specs.Answered.{Serves, did, swept}
use Rattle.dxe_core.specs.{Event.changes, Services.Services}
use Rattle.dxe_core.proofs.Growing.{with_handles}
use Rattle.dxe_core.proofs.Handling.{news, sweeps, unasked}
use Rattle.dxe_core.proofs.handles.install_new.Goals as goal

pub returns-in-Ok-clause-row : goal.returns-in-Ok-clause-row
returns-in-Ok-clause-row c = λ catalog.
    let frame = c.args.frame.now in
    let inside = c.services.inside in
    let old : Services = record { handles = inside.handles; notes = inside.notes; order = inside.order; requested = inside.requested } in
    let h = c.args.h in
    let guid = c.args.guid.now in
    let value = c.in-Some.value in
    let handle = c.in-Ok.handle in
    let is = c.did.ensures ∙ ap (λ event. did event c.swept.result) c.changes.ensures ∙ ap (did (changes guid)) (c.swept.ensures
    ∙ ap (λ n. swept C.Install (X.Number n) c.one.result c.sweep.result) c.from.ensures
    ∙ ap (λ writes. swept C.Install (X.Number handle) writes c.sweep.result) c.one.ensures
    ∙ ap (λ sweep. swept C.Install (X.Number handle) (W.One (record { r = h; register = HandleIn handle })) sweep) c.sweep.ensures) in
    subst (λ s. Serves catalog s frame (A.DxeInstall 0 h guid c.args.v) (Ok c.did.result) (with_handles old c.install.new.self)) c.services.view_is
    (λ m has. sweeps catalog m frame (A.DxeInstall 0 h guid c.args.v) C.Install (X.Number handle) (W.One (record { r = h; register = HandleIn handle })) guid value handle old c.install.new.self (Some guid) c.did.result has refl
    (news catalog m frame h c.args.v guid value old has c.in-Some.ensures ∙ ap (λ s. Called C.Install (install_answer s m frame 0 h guid value)) c.in-Ok.ensures.row) is)

pub returns-in-None-clause-row : goal.returns-in-None-clause-row
returns-in-None-clause-row c = λ catalog m has.
    let frame = c.args.frame.now in
    unasked catalog m frame (A.DxeInstall 0 c.args.h c.args.guid.now c.args.v) C.Install c.args.services.now c.refusal.result (both (Some None) (number_in frame.registers c.args.v)) (install_reply m frame 0 c.args.h c.args.guid.now)
    has (ap (λ n. both (Some None) n) c.in-None.ensures) c.refusal.ensures refl
