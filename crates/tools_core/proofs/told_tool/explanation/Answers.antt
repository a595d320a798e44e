use Rattle.std.proofs.Common.{ℕ, List, subst}
use Rattle.explain_text.specs.Lines.{IsCatalogText}
use Rattle.tools_core.specs.ToldReport.{RunsInOrder}
use Rattle.tools_core.proofs.Explanations.{run_behind}
use Rattle.tools_core.proofs.told_tool.explanation.Goals as goal

pub returns : goal.returns
returns c =
    let images = c.args.images in
    let catalog = c.args.by.catalog.now in
    let Text : List (List ℕ) → Type 0 = λ x. IsCatalogText catalog.volumes x catalog.modules c.in_ok-front.front in
    run_behind (RunsInOrder c.args.plan.now images catalog c.args.by.order.now) images catalog c.in_ok-front.front c.in_ok-explained.explained c.with_run.result (subst Text c.as_slice.ensures c.in_ok-front.ensures) c.in_ok-explained.ensures c.with_run.ensures
