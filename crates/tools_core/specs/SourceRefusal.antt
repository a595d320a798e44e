-- The refusal of a volume's text: its first line at fault, and the cause.
-- Own.
use Rattle.std.specs.Prelude.{ℕ, List, [], ◌∷◌, codes, decimal, Option, Some, None}
use Rattle.boot_io.specs.Line.{line_of}
use Rattle.source_words.specs.{declared.depex.fault.ExpressionFault.ExpressionFault, declared.script.fault.LineFault.LineFault}
use Rattle.source_words.specs.declared.depex.fault.ExpressionFault.TheVariants as E
use Rattle.source_words.specs.declared.script.fault.LineFault.TheVariants as A
use Rattle.source_words.specs.declared.script.script.ScriptCause.{ScriptCause}
use Rattle.source_words.specs.declared.script.script.ScriptCause.TheVariants as S
use Rattle.volume_text.specs.{declared.fault.Cause.Cause, declared.fault.Fault.Fault}
use Rattle.volume_text.specs.declared.fault.Cause.TheVariants as C
use Rattle.tools_core.specs.Refusals.{refused_text}

-- what is wrong with the line of an action
unfoldable pub action_text : LineFault → List ℕ
action_text A.Missing = codes "Missing"
action_text A.Extra = codes "Extra"
action_text A.UnknownAction = codes "UnknownAction"
action_text A.OtherPhase = codes "OtherPhase"
action_text A.Register = codes "Register"
action_text A.Number = codes "Number"
action_text A.Range = codes "Range"
action_text A.Guid = codes "Guid"
action_text A.Status = codes "Status"
action_text A.Word = codes "Word"
action_text A.Bytes = codes "Bytes"
action_text A.Log = codes "Log"
action_text A.Hob = codes "Hob"

-- what is wrong with the words of an expression
unfoldable pub expression_text : ExpressionFault → List ℕ
expression_text E.NoOperand = codes "NoOperand"
expression_text E.NoGuid = codes "NoGuid"
expression_text E.Extra = codes "Extra"
expression_text E.Bracket = codes "Bracket"
expression_text E.OtherPhase = codes "OtherPhase"
expression_text E.TooLong = codes "TooLong"
expression_text E.Memory = codes "Memory"

-- what is wrong with the blocks of a script
unfoldable pub blocks_text : ScriptCause → List ℕ
blocks_text S.NoBlock = codes "NoBlock"
blocks_text S.NoRet = codes "NoRet"
blocks_text S.Jump = codes "Jump"
blocks_text S.NoSuchBlock = codes "NoSuchBlock"
blocks_text S.Full = codes "Full"

-- the word of a cause
unfoldable pub source_text : Cause → List ℕ
source_text C.UnknownLine = codes "UnknownLine"
source_text C.Missing = codes "Missing"
source_text C.Extra = codes "Extra"
source_text C.Word = codes "Word"
source_text C.Number = codes "Number"
source_text C.Range = codes "Range"
source_text C.Guid = codes "Guid"
source_text C.Bytes = codes "Bytes"
source_text C.FileType = codes "FileType"
source_text C.SectionType = codes "SectionType"
source_text (C.Action fault) = action_text fault
source_text (C.Expression fault) = expression_text fault
source_text (C.Script cause) = blocks_text cause
source_text C.ScriptTooLong = codes "ScriptTooLong"
source_text C.NoVolume = codes "NoVolume"
source_text C.NoFile = codes "NoFile"
source_text C.NoScript = codes "NoScript"
source_text C.InScript = codes "InScript"
source_text C.NoPart = codes "NoPart"
source_text C.TwoDepex = codes "TwoDepex"
source_text C.TwoScripts = codes "TwoScripts"
source_text C.TwoBodies = codes "TwoBodies"
source_text C.TwoNames = codes "TwoNames"
source_text C.Nesting = codes "Nesting"
source_text C.BehindEnd = codes "BehindEnd"
source_text C.NoEnd = codes "NoEnd"
source_text C.TooMany = codes "TooMany"
source_text C.Size = codes "Size"
source_text (C.NoRoom need) = codes "NoRoom"

-- what a volume would need that has too few bytes
unfoldable pub need_of : Cause → Option ℕ
need_of (C.NoRoom need) = Some need
need_of _ = None

abbrev pub number_words : Option ℕ → List (List ℕ)
number_words None = []
number_words (Some number) = decimal number ∷ []

-- a text whose line is at fault
abbrev pub source_line : Fault → List ℕ
source_line fault = line_of refused_text (decimal fault.line ∷ source_text fault.cause ∷ number_words (need_of fault.cause))
