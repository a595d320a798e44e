-- The number that each status of the tools ends the program with. Those from 0 to 10 are of piboot too (own).
use Rattle.std.specs.Prelude.{ℕ}
use Rattle.tools_core.specs.declared.status.ToolStatus.{ToolStatus}
use Rattle.tools_core.specs.declared.status.ToolStatus.TheVariants as S

abbrev pub exit_number : ToolStatus → ℕ
exit_number S.Done = 0
exit_number S.Usage = 1
exit_number S.FileFault = 2
exit_number S.TooLong = 3
exit_number S.PlanRefused = 4
exit_number S.ImageRefused = 5
exit_number S.NoHandoff = 6
exit_number S.Spent = 7
exit_number S.Deep = 8
exit_number S.SinkFault = 9
exit_number S.Memory = 10
exit_number S.No = 11
exit_number S.Twins = 12
exit_number S.HobsRefused = 13
exit_number S.CommandRefused = 14
exit_number S.TextRefused = 15
exit_number S.OrderRefused = 16
