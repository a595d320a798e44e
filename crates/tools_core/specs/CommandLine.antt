-- The words of a command line: a tool, and the names of its files.
-- Own.
use Rattle.std.specs.Prelude.{◌≡◌, ◌≢◌, ℕ, List, [], ◌∷◌, ◌++◌, codes}
use Rattle.tools_core.specs.{declared.command_line.Tool.Tool, declared.command_line.PlanTool.PlanTool}
use Rattle.tools_core.specs.declared.command_line.PlanTool.TheVariants.{Hobs, HobsInTurns, Reasons, ReasonsInTurns, Passes}
use Rattle.tools_core.specs.declared.command_line.TraceTool.{TraceTool}
use Rattle.tools_core.specs.declared.command_line.TraceTool.TheVariants.{Check, Explain}
use Rattle.tools_core.specs.declared.command_line.Tool.TheVariants.{AssembleDepex, AssembleScript, ReadPei, ReadDxe, ReadScript, Mp, Volume, ReadVolume}

-- the words that ask for a tool of one file
abbrev pub tool_words : Tool → List (List ℕ)
tool_words AssembleDepex = codes "asm" ∷ codes "depex" ∷ []
tool_words AssembleScript = codes "asm" ∷ codes "script" ∷ []
tool_words ReadPei = codes "dis" ∷ codes "pei" ∷ []
tool_words ReadDxe = codes "dis" ∷ codes "dxe" ∷ []
tool_words ReadScript = codes "dis" ∷ codes "script" ∷ []
tool_words Mp = codes "mp" ∷ []
tool_words Volume = codes "volume" ∷ []
tool_words ReadVolume = codes "text" ∷ []

-- the words ask for this tool with the file of this name
abbrev pub AskForTool : List (List ℕ) → Tool → List ℕ → Type 0
AskForTool words tool file = (words ≡ tool_words tool ++ file ∷ []) × (file ≢ [])

-- the words ask for the memory space map of a HOB list's file and a file of commands
abbrev pub AskForMap : List (List ℕ) → List ℕ → List ℕ → Type 0
AskForMap words hobs commands = (words ≡ codes "gcd" ∷ hobs ∷ commands ∷ []) × (hobs ≢ []) × (commands ≢ [])

-- the word of a tool of a plan and of a trace
abbrev pub trace_word : TraceTool → List ℕ
trace_word Check = codes "check"
trace_word Explain = codes "explain"

-- the words behind a plan's name that ask for its boot in the order of EDK2's dispatchers
abbrev pub in_turns : List (List ℕ)
in_turns = codes "passes" ∷ []

-- a word names the trace of the tool
abbrev pub NamesTrace : TraceTool → List ℕ → Type 0
NamesTrace Check trace = trace ≢ []
NamesTrace Explain trace = (trace ≢ []) × (trace ≢ codes "passes")

-- the words ask whether a file has the trace of a free boot of a plan, or why each module of that boot started
abbrev pub AskForTrace : List (List ℕ) → TraceTool → List ℕ → List ℕ → Type 0
AskForTrace words tool plan trace = (words ≡ trace_word tool ∷ plan ∷ trace ∷ []) × (plan ≢ []) × NamesTrace tool trace

-- the words ask for the boot of a plan in an order of starts
abbrev pub AskForFollow : List (List ℕ) → List ℕ → List ℕ → Type 0
AskForFollow words plan order = (words ≡ codes "follow" ∷ plan ∷ order ∷ []) × (plan ≢ []) × (order ≢ [])

-- the words that ask for a tool of a plan alone
abbrev pub plan_words : PlanTool → List ℕ → List (List ℕ)
plan_words Hobs plan = codes "hobs" ∷ plan ∷ []
plan_words HobsInTurns plan = codes "hobs" ∷ plan ∷ in_turns
plan_words Reasons plan = codes "explain" ∷ plan ∷ []
plan_words ReasonsInTurns plan = codes "explain" ∷ plan ∷ in_turns
plan_words Passes plan = codes "passes" ∷ plan ∷ []

-- the words ask for the HOB list that the PEI of a plan hands on, for an explanation of each module of the plan's boot, or for its boot in the order of EDK2's dispatchers
abbrev pub AskForPlan : List (List ℕ) → PlanTool → List ℕ → Type 0
AskForPlan words tool plan = (words ≡ plan_words tool plan) × (plan ≢ [])

-- the words ask for nothing that there is
pub record AskForNothing (words : List (List ℕ)) : Type 0 where
  pub no_tool : (tool : Tool) (file : List ℕ) → AskForTool words tool file → ⊥
  pub no_map : (hobs commands : List ℕ) → AskForMap words hobs commands → ⊥
  pub no_trace : (tool : TraceTool) (plan trace : List ℕ) → AskForTrace words tool plan trace → ⊥
  pub no_follow : (plan order : List ℕ) → AskForFollow words plan order → ⊥
  pub no_plan : (tool : PlanTool) (plan : List ℕ) → AskForPlan words tool plan → ⊥
