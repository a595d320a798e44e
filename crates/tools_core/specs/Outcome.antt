-- What a command line leads to, by the files that are read: the status, and the text that is printed. All files are read before any is examined.
-- Own.
use Rattle.std.specs.Prelude.{◌≡◌, ◌⊎◌, ℕ, List, Option}
use Rattle.pi_base.specs.declared.phase.Phase.TheVariants.{Pei, Dxe}
use Rattle.tools_core.specs.{declared.command_line.Tool.Tool, declared.command_line.PlanTool.PlanTool}
use Rattle.tools_core.specs.{declared.command_line.TraceTool.TraceTool, declared.status.ToolStatus.ToolStatus}
use Rattle.tools_core.specs.declared.command_line.Tool.TheVariants.{AssembleDepex, AssembleScript, ReadPei, ReadDxe, ReadScript, Mp, Volume, ReadVolume}
use Rattle.tools_core.specs.{declared.status.ToolStatus.TheVariants.Usage, FileReading.IsRead, FileReading.LongOutcome, Refusals.usage_line}
use Rattle.tools_core.specs.CommandLine.{AskForFollow, AskForMap, AskForNothing, AskForPlan, AskForTool, AskForTrace}
use Rattle.tools_core.specs.{TraceReport.TraceNames, TraceReport.TraceOutcome, FollowReport.FollowNames, FollowReport.FollowOutcome}
use Rattle.tools_core.specs.{PlanReport.PlanNames, PlanReport.PlanOutcome, GcdReport.GcdReport, MpReport.MpReport, PrintReport.PrintReport}
use Rattle.tools_core.specs.VolumeReport.{VolumeReport}
use Rattle.tools_core.specs.TextReport.{AssemblyReport, DepexReport, ExpressionReport, ScriptReport}

-- how many bytes a HOB list, a text and other bytes may have, and how many a file of commands or an MP file
abbrev pub file_limit : ℕ
file_limit = 0x100000

abbrev pub commands_limit : ℕ
commands_limit = 0x10000

-- how many bytes a volume and its text may have
abbrev pub source_limit : ℕ
source_limit = 0x4000000

abbrev pub limit_of : Tool → ℕ
limit_of AssembleDepex = file_limit
limit_of AssembleScript = file_limit
limit_of ReadPei = file_limit
limit_of ReadDxe = file_limit
limit_of ReadScript = file_limit
limit_of Mp = commands_limit
limit_of Volume = source_limit
limit_of ReadVolume = source_limit

-- what the content of a tool's file leads to
abbrev pub ContentReport : Tool → List ℕ → ToolStatus → List ℕ → Type 0
ContentReport AssembleDepex content = DepexReport content
ContentReport AssembleScript content = AssemblyReport content
ContentReport ReadPei content = ExpressionReport Pei content
ContentReport ReadDxe content = ExpressionReport Dxe content
ContentReport ReadScript content = ScriptReport content
ContentReport Mp content = MpReport content
ContentReport Volume content = VolumeReport content
ContentReport ReadVolume content = PrintReport content

-- what a tool's file leads to
pub data ToolOutcome (told : Option (List ℕ)) (tool : Tool) (file : List ℕ) (status : ToolStatus) (text : List ℕ) : Type 0 where
  long : LongOutcome told (limit_of tool) file status text → ToolOutcome told tool file status text
  content : (content : List ℕ) → IsRead told (limit_of tool) content → ContentReport tool content status text → ToolOutcome told tool file status text

-- what the files of a HOB list and of commands lead to
pub data MapOutcome (told : List ℕ → Option (List ℕ)) (hobs commands : List ℕ) (status : ToolStatus) (text : List ℕ) : Type 0 where
  hobs_long : LongOutcome (told hobs) file_limit hobs status text → MapOutcome told hobs commands status text
  commands_long : (bytes : List ℕ) → IsRead (told hobs) file_limit bytes → LongOutcome (told commands) commands_limit commands status text
      → MapOutcome told hobs commands status text
  both : (bytes lines : List ℕ) → IsRead (told hobs) file_limit bytes → IsRead (told commands) commands_limit lines → GcdReport bytes lines status text
      → MapOutcome told hobs commands status text

-- what the words lead to
pub data Outcome (told : List ℕ → Option (List ℕ)) (words : List (List ℕ)) (status : ToolStatus) (text : List ℕ) : Type 0 where
  usage : AskForNothing words → status ≡ Usage → text ≡ usage_line → Outcome told words status text
  words_ask_map : (hobs commands : List ℕ) → AskForMap words hobs commands → MapOutcome told hobs commands status text → Outcome told words status text
  words_ask_trace : (tool : TraceTool) (plan trace : List ℕ) → AskForTrace words tool plan trace → TraceOutcome tool told plan trace status text → Outcome told words status text
  words_ask_follow : (plan order : List ℕ) → AskForFollow words plan order → FollowOutcome told plan order status text → Outcome told words status text
  words_ask_plan : (tool : PlanTool) (plan : List ℕ) → AskForPlan words tool plan → PlanOutcome tool told plan status text → Outcome told words status text
  words_ask_tool : (tool : Tool) (file : List ℕ) → AskForTool words tool file → ToolOutcome (told file) tool file status text → Outcome told words status text

-- a name of a file to which the reading comes: the words give it, and those before it are read
abbrev pub MapNames : (List ℕ → Option (List ℕ)) → List ℕ → List ℕ → List ℕ → Type 0
MapNames told hobs commands name = (name ≡ hobs) ⊎ ((bytes : List ℕ) × IsRead (told hobs) file_limit bytes × (name ≡ commands))

pub data Names (told : List ℕ → Option (List ℕ)) (words : List (List ℕ)) (name : List ℕ) : Type 0 where
  of_map : (hobs commands : List ℕ) → AskForMap words hobs commands → MapNames told hobs commands name → Names told words name
  of_trace : (tool : TraceTool) (plan trace : List ℕ) → AskForTrace words tool plan trace → TraceNames told plan trace name → Names told words name
  of_follow : (plan order : List ℕ) → AskForFollow words plan order → FollowNames told plan order name → Names told words name
  of_plan : (tool : PlanTool) (plan : List ℕ) → AskForPlan words tool plan → PlanNames told plan name → Names told words name
  of_tool : (tool : Tool) (file : List ℕ) → AskForTool words tool file → name ≡ file → Names told words name
