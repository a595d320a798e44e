use Rattle.std.proofs.Common.{refl}
use Rattle.boot_core.specs.{declared.command_line.Command.TheVariants.Audit, declared.status.Status.TheVariants.Done, AuditText.audit_text}
use Rattle.boot_core.specs.Outcome.{CommandOutcome, ImagesOutcome, images_sound}
use Rattle.boot_core.proofs.{Ending.answer_ends, Examined.image_refused_ends}
use Rattle.boot_core.proofs.images.audit_images.Goals as goal

pub returns-in-Ok : goal.returns-in-Ok
returns-in-Ok g c =
    let plan = c.args.plan.now in
    let images = c.args.images.now in
    let catalog = c.in-Ok.catalog in
    answer_ends c.put_audit-put.result (ImagesOutcome (CommandOutcome Audit plan images) plan images) (λ _. ⊥) ⊥ Done c.answer.result (audit_text catalog) _
    c.answer.ensures refl (images_sound catalog c.in-Ok.ensures.found.sound (record { status_is = refl; text_is = refl })) refl c.put_audit-put.ensures.text c.put_audit-put.ensures.cause

pub returns-in-Err : goal.returns-in-Err
returns-in-Err g c =
    let plan = c.args.plan.now in
    let images = c.args.images.now in
    image_refused_ends (CommandOutcome Audit plan images) plan images c.in-Err.no_catalog ⊥ c.refuse.result _ c.in-Err.ensures.refused c.refuse.ensures
