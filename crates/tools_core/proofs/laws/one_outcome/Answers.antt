use Rattle.tools_core.proofs.OneOutcome.{Laws, one_outcome}
use Rattle.tools_core.proofs.laws.one_outcome.Goals as goal

pub returns : goal.returns
returns c =
    let laws : Laws = record {
      maps = c.one_map_report.ensures;
      contents = c.one_content_report.ensures;
      plans = c.one_plan_report.ensures;
      traces = c.one_trace_report.ensures;
      follows = c.one_follow_report.ensures;
    } in
    one_outcome laws
