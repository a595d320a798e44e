use Rattle.std.proofs.Common.{subst}
use Rattle.boot_model.specs.PlanBoard.{board_of}
use Rattle.boot_reasons.specs.{Explained.ExplainsTo, Unseen.choices_of}
use Rattle.explain_text.specs.declared.reasons.Explained.{Explained}
use Rattle.boot_laws.specs.declared.choice.Reached.{Reached}
use Rattle.recorded_boot.specs.declared.follow.by_order.ByOrder.{ByOrder}
use Rattle.tools_core.specs.ToldReport.{start_choices, start_rules}
use Rattle.tools_core.proofs.StartNames.{never_left}
use Rattle.tools_core.proofs.told_tool.run_explained.Goals as goal

pub unreachable-requires : goal.unreachable-requires
unreachable-requires c =
    let plan = c.args.plan.now in
    let catalog = c.args.by.catalog.now in
    let board = board_of plan catalog c.args.images in
    let P : ByOrder → Type 0 = λ by. ExplainsTo (choices_of (start_rules by.catalog.now by.order.now) catalog plan.fuel) board catalog plan.fuel c.in_ok-explained.field-0 in
    let told : P c.args.by = subst P c.new.ensures c.in_ok-explained.ensures in
    let Q : Reached Explained → Type 0 = λ reached. ExplainsTo (start_choices catalog plan.fuel c.args.by.order.now) board catalog plan.fuel reached in
    never_left catalog c.args.by.order.now board plan.fuel c.in-Barred.field-0 (subst Q c.in-Barred.is told)

pub returns : goal.returns
returns c =
    let plan = c.args.plan.now in
    let catalog = c.args.by.catalog.now in
    let board = board_of plan catalog c.args.images in
    let P : ByOrder → Type 0 = λ by. ExplainsTo (choices_of (start_rules by.catalog.now by.order.now) catalog plan.fuel) board catalog plan.fuel c.in_ok-explained.field-0 in
    let told : P c.args.by = subst P c.new.ensures c.in_ok-explained.ensures in
    let Q : Reached Explained → Type 0 = λ reached. ExplainsTo (start_choices catalog plan.fuel c.args.by.order.now) board catalog plan.fuel reached in
    subst Q c.in-End.is told
