use Rattle.std.proofs.Common.{◌≡◌}
use Rattle.boot_io.specs.Words.{words_of}
use Rattle.tools_core.specs.{FollowReport.FollowNames, FollowReport.FollowOutcome, PlanReport.PlanNames, PlanReport.PlanOutcome}
use Rattle.tools_core.specs.Outcome.{MapNames, MapOutcome, Names, Outcome, ToolOutcome, of_follow, of_map, of_plan, of_tool, of_trace, words_ask_follow, words_ask_map, words_ask_plan, words_ask_tool, words_ask_trace}
use Rattle.tools_core.specs.TraceReport.{TraceNames, TraceOutcome}
use Rattle.tools_core.proofs.Ending.{reports_ok}
use Rattle.tools_core.proofs.tools.with_words.Goals as goal

pub returns-in-Some-clause-report : goal.returns-in-Some-clause-report
returns-in-Some-clause-report g c =
    let F = g.F.Files.faults in
    let told = g.F.Files.told c.args.files.now in
    let words = words_of c.args.words.now in
    let hobs = c.in-Some.hobs.now in
    let commands = c.in-Some.commands.now in
    reports_ok c.with_map.result (MapOutcome told hobs commands) (Outcome told words) (MapNames told hobs commands) (Names told words)
    (record { before = F c.args.files.now; now = F c.with_map.new.files; missed = g.F.Files.missed c.with_map.new.files })
    (λ s t o. words_ask_map hobs commands c.in-Some.ensures.found o) (λ n m. of_map hobs commands c.in-Some.ensures.found m) c.with_map.ensures.report

pub returns-in-Some-asked_tool-clause-report : goal.returns-in-Some-asked_tool-clause-report
returns-in-Some-asked_tool-clause-report g c =
    let F = g.F.Files.faults in
    let told = g.F.Files.told c.args.files.now in
    let words = words_of c.args.words.now in
    let tool = c.in-Some-asked_tool.tool in
    let file = c.in-Some-asked_tool.file.now in
    reports_ok c.with_tool.result (ToolOutcome (told file) tool file) (Outcome told words) (λ name. name ≡ file) (Names told words)
    (record { before = F c.args.files.now; now = F c.with_tool.new.files; missed = g.F.Files.missed c.with_tool.new.files })
    (λ s t o. words_ask_tool tool file c.in-Some-asked_tool.ensures.found o) (λ n e. of_tool tool file c.in-Some-asked_tool.ensures.found e) c.with_tool.ensures.report

pub returns-in-Some-asked_trace-clause-report : goal.returns-in-Some-asked_trace-clause-report
returns-in-Some-asked_trace-clause-report g c =
    let F = g.F.Files.faults in
    let told = g.F.Files.told c.args.files.now in
    let words = words_of c.args.words.now in
    let asked = c.in-Some-asked_trace in
    let plan = asked.plan.now in
    let trace = asked.trace.now in
    reports_ok c.with_trace.result (TraceOutcome asked.tool told plan trace) (Outcome told words) (TraceNames told plan trace) (Names told words)
    (record { before = F c.args.files.now; now = F c.with_trace.new.files; missed = g.F.Files.missed c.with_trace.new.files })
    (λ s t o. words_ask_trace asked.tool plan trace asked.ensures.found o) (λ n m. of_trace asked.tool plan trace asked.ensures.found m) c.with_trace.ensures.report

pub returns-in-Some-asked_follow-clause-report : goal.returns-in-Some-asked_follow-clause-report
returns-in-Some-asked_follow-clause-report g c =
    let F = g.F.Files.faults in
    let told = g.F.Files.told c.args.files.now in
    let words = words_of c.args.words.now in
    let plan = c.in-Some-asked_follow.plan.now in
    let order = c.in-Some-asked_follow.order.now in
    reports_ok c.with_follow.result (FollowOutcome told plan order) (Outcome told words) (FollowNames told plan order) (Names told words)
    (record { before = F c.args.files.now; now = F c.with_follow.new.files; missed = g.F.Files.missed c.with_follow.new.files })
    (λ s t o. words_ask_follow plan order c.in-Some-asked_follow.ensures.found o) (λ n m. of_follow plan order c.in-Some-asked_follow.ensures.found m) c.with_follow.ensures.report

pub returns-in-Some-asked_plan-clause-report : goal.returns-in-Some-asked_plan-clause-report
returns-in-Some-asked_plan-clause-report g c =
    let F = g.F.Files.faults in
    let told = g.F.Files.told c.args.files.now in
    let words = words_of c.args.words.now in
    let asked = c.in-Some-asked_plan in
    let plan = asked.plan.now in
    reports_ok c.with_plan.result (PlanOutcome asked.tool told plan) (Outcome told words) (PlanNames told plan) (Names told words)
    (record { before = F c.args.files.now; now = F c.with_plan.new.files; missed = g.F.Files.missed c.with_plan.new.files })
    (λ s t o. words_ask_plan asked.tool plan asked.ensures.found o) (λ n m. of_plan asked.tool plan asked.ensures.found m) c.with_plan.ensures.report
