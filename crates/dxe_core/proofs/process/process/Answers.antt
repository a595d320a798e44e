use Rattle.std.proofs.Common.{refl}
use Rattle.act_code.specs.declared.action.Action.TheVariants as A
use Rattle.boot_model.specs.declared.line.CallName.TheVariants as C
use Rattle.boot_model.specs.DxeAction.{process_reply}
use Rattle.dxe_core.proofs.{Discovered.unmapped, Handling.unasked}
use Rattle.dxe_core.proofs.process.process.Goals as goal

pub discover-requires-clause-order : goal.discover-requires-clause-order
discover-requires-clause-order c = c.requires.order

pub returns-in-None-clause-row : goal.returns-in-None-clause-row
returns-in-None-clause-row c = λ m has.
    let catalog = c.args.catalog.now in
    let frame = c.args.frame.now in
    unasked catalog m frame (A.Process c.args.v) C.Process c.args.services.now c.refusal.result _ (process_reply catalog m frame) has c.in-None.ensures c.refusal.ensures refl

pub returns-in-None-volume_at-clause-row : goal.returns-in-None-volume_at-clause-row
returns-in-None-volume_at-clause-row c = λ m has.
    unmapped c.args.catalog.now m c.args.frame.now c.args.v c.in-Some.base c.args.services.now c.refusal-in-None-volume_at.result has c.in-Some.ensures c.in-None-volume_at.ensures.volume c.refusal-in-None-volume_at.ensures
