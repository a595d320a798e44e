-- What is printed of a report, and the status that goes with it.
-- Own.
use Rattle.std.specs.Prelude.{ℕ, List, ◌++◌}
use Rattle.gcd_map.specs.MapText.{answers_text, map_text, hobs_refusal, command_refusal}
use Rattle.mp_core.specs.OutcomeText.{bad_line, outcome_text}
use Rattle.boot_model.specs.declared.line.RunEnd.{RunEnd}
use Rattle.boot_model.specs.declared.line.RunEnd.TheVariants as E
use Rattle.recorded_boot.specs.declared.trace.verdict.Verdict.{Verdict}
use Rattle.recorded_boot.specs.declared.trace.verdict.Verdict.TheVariants.{Yes, No}
use Rattle.tools_core.specs.{declared.status.ToolStatus.ToolStatus, declared.report.Report.Report, SourceRefusal.source_line}
use Rattle.tools_core.specs.declared.status.ToolStatus.TheVariants as S
use Rattle.tools_core.specs.declared.report.Report.TheVariants as R
use Rattle.tools_core.specs.Refusals.{usage_line, file_line, long_line, plan_line, image_line, twins_line, end_line, verdict_line, text_line, text_long_line, malformed_line, bytes_line}
use Rattle.tools_core.specs.FollowText.{order_line, last_text, passed_text}
use Rattle.recorded_boot.specs.{declared.follow.followed.Followed.Followed, declared.passes.Passed.Passed}
use Rattle.recorded_boot.specs.declared.follow.followed.Followed.TheVariants as F
use Rattle.recorded_boot.specs.declared.passes.Passed.TheVariants as P

abbrev pub report_text : Report → List ℕ
report_text R.Usage = usage_line
report_text (R.NoFile name) = file_line name
report_text (R.Long name) = long_line name
report_text (R.Plan fault) = plan_line fault
report_text (R.Image fault) = image_line fault
report_text (R.Twins volume) = twins_line volume
report_text (R.Verdict verdict) = verdict_line verdict
report_text (R.Order line) = order_line line
report_text (R.Followed lines followed) = lines ++ last_text followed
report_text (R.Passed lines passed) = lines ++ passed_text passed
report_text (R.Hobs fault) = hobs_refusal fault
report_text (R.Command line) = command_refusal line
report_text (R.Event line) = bad_line line
report_text (R.Text line) = text_line line
report_text (R.Source fault) = source_line fault
report_text R.TextLong = text_long_line
report_text (R.Malformed at) = malformed_line at
report_text (R.Bytes fault) = bytes_line fault.cause fault.at
report_text (R.Map steps map) = answers_text steps ++ map_text map.ranges
report_text (R.Mp file outcome) = outcome_text file.events outcome
report_text (R.Ended end) = end_line end
report_text (R.Answer text) = text

abbrev pub verdict_status : Verdict → ToolStatus
verdict_status Yes = S.Done
verdict_status (No line) = S.No

-- the status of a boot that ends so
abbrev pub end_status : RunEnd → ToolStatus
end_status E.Done = S.Done
end_status E.NoMemory = S.NoHandoff
end_status E.NoIpl = S.NoHandoff
end_status E.Spent = S.Spent
end_status E.Deep = S.Deep

-- the status of a boot in an order of starts that ended this way
abbrev pub followed_status : Followed → ToolStatus
followed_status (F.Ended end) = end_status end
followed_status F.Stopped = S.Done
followed_status (F.No line against) = S.No

-- and of one in the order of EDK2's dispatchers
abbrev pub passed_status : Passed → ToolStatus
passed_status (P.Ended end) = end_status end
passed_status (P.No turn) = S.No

abbrev pub report_status : Report → ToolStatus
report_status R.Usage = S.Usage
report_status (R.NoFile name) = S.FileFault
report_status (R.Long name) = S.TooLong
report_status (R.Plan fault) = S.PlanRefused
report_status (R.Image fault) = S.ImageRefused
report_status (R.Twins volume) = S.Twins
report_status (R.Verdict verdict) = verdict_status verdict
report_status (R.Order line) = S.OrderRefused
report_status (R.Followed lines followed) = followed_status followed
report_status (R.Passed lines passed) = passed_status passed
report_status (R.Hobs fault) = S.HobsRefused
report_status (R.Command line) = S.CommandRefused
report_status (R.Event line) = S.CommandRefused
report_status (R.Text line) = S.TextRefused
report_status (R.Source fault) = S.TextRefused
report_status R.TextLong = S.TextRefused
report_status (R.Malformed at) = S.TextRefused
report_status (R.Bytes fault) = S.TextRefused
report_status (R.Map steps map) = S.Done
report_status (R.Mp file outcome) = S.Done
report_status (R.Ended end) = end_status end
report_status (R.Answer text) = S.Done
