use Rattle.std.proofs.Common.{refl, ap, sym, subst, ◌∙◌}
use Rattle.act_code.specs.declared.action.Action.TheVariants as A
use Rattle.boot_model.specs.declared.line.CallName.TheVariants as C
use Rattle.boot_model.specs.declared.line.Extra.TheVariants as X
use Rattle.store_model.specs.HandleState.{uninstall_interface}
use Rattle.boot_model.specs.DxeAction.{Called, uninstall_answer, uninstall_reply}
use Rattle.phase_parts.specs.declared.registers.Writes.TheVariants as W
use Rattle.dxe_core.specs.Answered.{GrowByOne, Serves, did}
use Rattle.dxe_core.specs.{Event.changes, Reply.Replies, Services.Services}
use Rattle.dxe_core.proofs.Growing.{grow_handles, grown, on_ok, uninstalls_none, with_handles}
use Rattle.dxe_core.proofs.Handling.{faulted, removes, tells, unasked}
use Rattle.dxe_core.proofs.handles.uninstall.Goals as goal
use Rattle.dxe_core.proofs.handles.uninstall.Goals.{in-Ok, in-Err}

pub returns-after-uninstall-clause-row : goal.returns-after-uninstall-clause-row
returns-after-uninstall-clause-row c = λ catalog.
    let frame = c.args.frame.now in
    let inside = c.services.inside in
    let old : Services = record { handles = inside.handles; notes = inside.notes; order = inside.order; requested = inside.requested } in
    let guid = c.args.guid.now in
    let on = c.in-Some.on in
    let value = c.in-Some.value in
    let new = c.uninstall.new.self in
    subst (λ s. Serves catalog s frame (A.DxeUninstall c.args.h guid c.args.v) c.match-uninstall.result (with_handles old new)) c.services.view_is
    (λ m has.
    let done = removes catalog m frame c.args.h c.args.v guid on value old has c.in-Some.ensures in
    elim c.match-uninstall.branch [
      | in-Ok w ↦ subst (λ r. Replies catalog m frame (A.DxeUninstall c.args.h guid c.args.v) r (with_handles old new)) (sym w.result-is)
          (tells catalog m frame (A.DxeUninstall c.args.h guid c.args.v) C.Uninstall X.Nothing W.Nothing old new guid w.did.result has refl (done ∙ ap (λ s. Called C.Uninstall (uninstall_answer s m frame)) w.in-Ok.ensures.row) (w.did.ensures ∙ ap (λ event. did event w.told.result) w.changes.ensures ∙ ap (did (changes guid)) w.told.ensures))
      | in-Err w ↦ subst (λ r. Replies catalog m frame (A.DxeUninstall c.args.h guid c.args.v) r (with_handles old new)) (sym w.result-is)
          (faulted catalog m frame (A.DxeUninstall c.args.h guid c.args.v) C.Uninstall old new (uninstall_interface inside.handles on guid value) (λ s. uninstall_answer s m frame) w.in-Err.fault w.refused.result has done (λ _. refl) w.in-Err.ensures.row w.refused.ensures)
    ])

pub returns-after-uninstall-clause-grow : goal.returns-after-uninstall-clause-grow
returns-after-uninstall-clause-grow c =
    let inside = c.services.inside in
    let old : Services = record { handles = inside.handles; notes = inside.notes; order = inside.order; requested = inside.requested } in
    on_ok c.match-uninstall.result (GrowByOne c.args.services.now (with_handles old c.uninstall.new.self))
    (subst (λ s. GrowByOne s (with_handles old c.uninstall.new.self)) c.services.view_is
    (grow_handles old c.uninstall.new.self (grown (uninstall_interface inside.handles c.in-Some.on c.args.guid.now c.in-Some.value) inside.handles c.uninstall.new.self c.uninstall.result (uninstalls_none inside.handles c.in-Some.on c.args.guid.now c.in-Some.value) c.uninstall.ensures.row)))

pub returns-in-None-clause-row : goal.returns-in-None-clause-row
returns-in-None-clause-row c = λ catalog m has.
    let frame = c.args.frame.now in
    let guid = c.args.guid.now in
    unasked catalog m frame (A.DxeUninstall c.args.h guid c.args.v) C.Uninstall c.args.services.now c.refusal.result _ (uninstall_reply m frame guid) has c.in-None.ensures c.refusal.ensures refl
