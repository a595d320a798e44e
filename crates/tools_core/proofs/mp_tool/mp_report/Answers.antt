use Rattle.std.proofs.Common.{refl}
use Rattle.tools_core.specs.MpReport.{IsOutcomeOf, ran, refused}
use Rattle.tools_core.proofs.mp_tool.mp_report.Goals as goal

pub returns-in-Err-Bad : goal.returns-in-Err-Bad
returns-in-Err-Bad c = (refused c.in-Err-Bad.line (rw c.in-Err-Bad.field-0-is at c.in-Err-Bad.ensures.fault) refl (rw c.in-Err-Bad.field-0-is refl), refl)

pub returns : goal.returns
returns c =
    let file = c.in-Ok.file in
    let outcome = c.in_ok-outcome.outcome in
    let is : IsOutcomeOf file outcome = record {
      replies_are = rw c.as_slice.ensures at c.in_ok-outcome.ensures.replies;
      cells_are = rw c.as_slice.ensures at c.in_ok-outcome.ensures.cells;
      records_are = rw c.as_slice.ensures at c.in_ok-outcome.ensures.records;
    } in
    (ran file c.in-Ok.ensures.file outcome is refl refl, refl)
