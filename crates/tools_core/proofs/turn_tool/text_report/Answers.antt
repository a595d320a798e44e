use Rattle.std.proofs.Common.{arith}
use Rattle.tools_core.specs.declared.command_line.TraceTool.TheVariants.{Explain}
use Rattle.tools_core.specs.{TraceReport.TraceReport, TurnsReport.TextExplained, TurnsReport.as_a_trace}
use Rattle.tools_core.proofs.Ending.{tells_up}
use Rattle.tools_core.proofs.turn_tool.text_report.Goals as goal

pub returns : goal.returns
returns c =
    let job = c.args.job in
    let text = c.args.text.now in
    let most = c.if-text-gt-TRACE_LIMIT.false in
    tells_up c.told_report.result (TraceReport Explain job.plan job.images text) (TextExplained job.plan job.images text) (λ status out told. as_a_trace (omega (arith, most)) told) c.told_report.ensures
