use Rattle.std.proofs.Common.{refl, ap, length, arith}
use Rattle.trace_reader.specs.Trace.{IsBadLine}
use Rattle.tools_core.specs.{Refusals.no_line, ToldReport.not_read, TraceReport.said}
use Rattle.tools_core.proofs.FewLines.{few_lines}
use Rattle.tools_core.proofs.told_tool.read_report.Goals as goal

pub lines_report-requires-clause-few : goal.lines_report-requires-clause-few
lines_report-requires-clause-few c =
    let few = few_lines c.in-Ok.lines in
    let same = ap length c.as_slice.ensures in
    let long = ap length c.in-Ok.ensures.lines.0 in
    let most = c.requires.text in
    omega (arith, few, same, long, most)

pub returns-in-Err-Bad : goal.returns-in-Err-Bad
returns-in-Err-Bad c =
    let is = c.requires.checked in
    let bad : IsBadLine c.args.text.now c.in-Err-Bad.line = rw c.in-Err-Bad.field-0-is at c.in-Err-Bad.ensures.fault in
    (said is.catalog is.sound is.apart (not_read is.is c.in-Err-Bad.line bad refl (ap no_line c.in-Err-Bad.line-is)), refl)
