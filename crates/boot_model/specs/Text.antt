-- The printed lines (own): each is a keyword and words with a space between. Numbers of volumes, modules, blocks and handles are decimal, addresses and values hexadecimal.
use Rattle.std.specs.Prelude.{ℕ, ◌==◌, if◌then◌else◌, List, [], ◌∷◌, ◌++◌, codes, decimal, Option, Some, None, flat_map}
use Rattle.hex.specs.Hex.{encode_lower}
use Rattle.pi_base.specs.WordText.{hexadecimal, guid_text, word_text}
use Rattle.pi_base.specs.{declared.guid.Guid.Guid, declared.word.Word.Word}
use Rattle.boot_io.specs.Line.{line_of}
use Rattle.boot_plan.specs.declared.fault.PlanCause.{PlanCause}
use Rattle.boot_plan.specs.declared.fault.PlanCause.TheVariants as P
use Rattle.store_model.specs.declared.state.TheConstants.{CORE}
use Rattle.boot_model.specs.{declared.line.Line.Line, declared.line.CallName.CallName, declared.line.Extra.Extra}
use Rattle.boot_model.specs.declared.line.Line.TheVariants as L
use Rattle.boot_model.specs.declared.line.CallName.TheVariants as C
use Rattle.boot_model.specs.declared.line.Extra.TheVariants as E
use Rattle.boot_model.specs.{declared.line.Reason.Reason, declared.line.RunEnd.RunEnd, declared.line.ExpressionWord.ExpressionWord}
use Rattle.boot_model.specs.declared.line.Reason.TheVariants as R
use Rattle.boot_model.specs.declared.line.RunEnd.TheVariants as X
use Rattle.boot_model.specs.declared.line.ExpressionWord.TheVariants as V
use Rattle.boot_model.specs.declared.licence.Licence.{Licence}
use Rattle.boot_model.specs.declared.licence.Licence.TheVariants as G
use Rattle.mod_catalog.specs.declared.image_fault.ImageCause.{ImageCause}
use Rattle.mod_catalog.specs.declared.image_fault.ImageCause.TheVariants as I

-- `-` in the place of what is not there
abbrev pub dash : List ℕ
dash = 45 ∷ []

-- a place in an a priori list
abbrev pub rank_text : Option ℕ → List ℕ
rank_text None = dash
rank_text (Some rank) = decimal rank

-- the name of a volume
abbrev pub name_text : Option Guid → List ℕ
name_text None = dash
name_text (Some name) = guid_text name

-- bytes in hexadecimal
abbrev pub bytes_text : List ℕ → List ℕ
bytes_text [] = dash
bytes_text (byte ∷ bytes) = encode_lower (byte ∷ bytes)

-- who made a PPI: the core, or a module by its number
abbrev pub by_text : ℕ → List ℕ
by_text by = if by == CORE then codes "core" else decimal by

-- the word of a licence
unfoldable pub licence_text : Licence → List ℕ
licence_text G.Apriori = codes "apriori"
licence_text G.Absent = codes "absent"
licence_text G.True = codes "true"
licence_text G.Shadow = codes "shadow"
licence_text G.Before = codes "before"
licence_text G.After = codes "after"

-- the word of a call
unfoldable pub call_text : CallName → List ℕ
call_text C.Pool = codes "pool"
call_text C.Store = codes "store"
call_text C.Peek = codes "peek"
call_text C.Desc = codes "desc"
call_text C.Install = codes "install"
call_text C.Reinstall = codes "reinstall"
call_text C.Notify = codes "notify"
call_text C.Locate = codes "locate"
call_text C.Hob = codes "hob"
call_text C.Memory = codes "memory"
call_text C.Pages = codes "pages"
call_text C.BootMode = codes "boot_mode"
call_text C.Shadow = codes "shadow"
call_text C.Uninstall = codes "uninstall"
call_text C.Schedule = codes "schedule"
call_text C.Process = codes "process"
call_text C.Dispatch = codes "dispatch"

-- the word of a reason to wait
unfoldable pub reason_text : Reason → List ℕ
reason_text R.Malformed = codes "malformed"
reason_text R.False = codes "false"
reason_text R.Shadow = codes "shadow"
reason_text R.Unrequested = codes "unrequested"
reason_text R.Before = codes "before"
reason_text R.After = codes "after"
reason_text R.Absent = codes "absent"

-- the word of a result
unfoldable pub end_text : RunEnd → List ℕ
end_text X.Done = codes "Done"
end_text X.NoMemory = codes "NoMemory"
end_text X.NoIpl = codes "NoIpl"
end_text X.Spent = codes "Spent"
end_text X.Deep = codes "Deep"

-- the word of what is wrong with a plan
unfoldable pub plan_cause_text : PlanCause → List ℕ
plan_cause_text P.Word = codes "Word"
plan_cause_text P.Number = codes "Number"
plan_cause_text P.Missing = codes "Missing"
plan_cause_text P.Twice = codes "Twice"
plan_cause_text P.Overlap = codes "Overlap"
plan_cause_text P.Limit = codes "Limit"
plan_cause_text P.Room = codes "Room"
plan_cause_text P.Memory = codes "Memory"

-- the word of what is wrong with an image
unfoldable pub image_cause_text : ImageCause → List ℕ
image_cause_text I.Short = codes "Short"
image_cause_text I.Signature = codes "Signature"
image_cause_text I.Revision = codes "Revision"
image_cause_text I.FileSystem = codes "FileSystem"
image_cause_text I.Length = codes "Length"
image_cause_text I.HeaderLength = codes "HeaderLength"
image_cause_text I.HeaderSum = codes "HeaderSum"
image_cause_text I.ExtHeader = codes "ExtHeader"
image_cause_text I.FileSum = codes "FileSum"
image_cause_text I.FileSize = codes "FileSize"
image_cause_text I.DataSum = codes "DataSum"
image_cause_text I.TooManyFiles = codes "TooManyFiles"
image_cause_text I.Size = codes "Size"
image_cause_text I.Compressed = codes "Compressed"
image_cause_text I.GuidDefined = codes "GuidDefined"
image_cause_text I.TooMany = codes "TooMany"
image_cause_text I.Magic = codes "Magic"
image_cause_text I.Version = codes "Version"
image_cause_text I.Phase = codes "Phase"
image_cause_text I.Count = codes "Count"
image_cause_text I.Block = codes "Block"
image_cause_text I.Action = codes "Action"
image_cause_text I.Jump = codes "Jump"
image_cause_text I.Index = codes "Index"
image_cause_text I.Nesting = codes "Nesting"
image_cause_text I.TooManyModules = codes "TooManyModules"
image_cause_text I.Place = codes "Place"
image_cause_text I.TooManyVolumes = codes "TooManyVolumes"
image_cause_text I.ScriptTotal = codes "ScriptTotal"
image_cause_text I.Memory = codes "Memory"

-- the word of an expression, and what goes with it in the same word
unfoldable pub expression_text : ExpressionWord → List ℕ
expression_text V.NoPart = codes "-"
expression_text V.Absent = codes "absent"
expression_text (V.Malformed at) = codes "malformed@" ++ decimal at
expression_text V.Tree = codes "expr"
expression_text V.Sor = codes "sor"
expression_text (V.Before name) = codes "before=" ++ guid_text name
expression_text (V.After name) = codes "after=" ++ guid_text name

-- what a call shows
abbrev pub extra_words : Extra → List (List ℕ)
extra_words E.Nothing = []
extra_words (E.Number n) = hexadecimal n ∷ []
extra_words (E.Bytes bytes) = encode_lower bytes.items ∷ []

-- the keyword of a line
unfoldable pub keyword : Line → List ℕ
keyword (L.Report volume) = codes "report"
keyword (L.PeiStart volume name licence) = codes "pei start"
keyword (L.DxeStart volume name licence) = codes "dxe start"
keyword (L.Call name status extra) = codes "call"
keyword (L.Log text) = codes "log"
keyword (L.NotifyCallback volume name fired) = codes "notify callback"
keyword (L.NotifyDispatch volume name fired) = codes "notify dispatch"
keyword (L.NotifyProtocol volume name fired) = codes "notify protocol"
keyword (L.End status) = codes "end"
keyword (L.Migrate from to) = codes "migrate"
keyword (L.CoreInstall status) = codes "core install"
keyword L.PeiStop = codes "pei stop"
keyword L.DxeStop = codes "dxe stop"
keyword (L.Waiting volume name reason) = codes "waiting"
keyword (L.Handoff address) = codes "handoff"
keyword (L.DxeVolume volume) = codes "dxe volume"
keyword (L.Ppis count) = codes "ppis"
keyword (L.Ppi by guid value) = codes "ppi"
keyword (L.Callbacks count) = codes "callbacks"
keyword (L.Callback guid by block) = codes "callback"
keyword (L.Dispatches count) = codes "dispatches"
keyword (L.Dispatch guid by block) = codes "dispatch"
keyword (L.Pendings count) = codes "pendings"
keyword (L.Pending guid by block) = codes "pending"
keyword (L.Hobs count) = codes "hobs"
keyword (L.Hob kind body) = codes "hob"
keyword (L.Handles count) = codes "handles"
keyword (L.Handle handle guid value) = codes "handle"
keyword (L.Result outcome) = codes "result"
keyword (L.Volume volume base len name) = codes "volume"
keyword (L.Module by volume name kind pei_rank dxe_rank pei dxe) = codes "module"
keyword L.RefusedUsage = codes "refused usage"
keyword (L.RefusedFile name) = codes "refused file"
keyword (L.RefusedLong name) = codes "refused long"
keyword (L.RefusedPlan line cause) = codes "refused plan"
keyword (L.RefusedImage volume at cause) = codes "refused image"

-- its other words
abbrev pub words : Line → List (List ℕ)
words (L.Report volume) = decimal volume ∷ []
words (L.PeiStart volume name licence) = decimal volume ∷ guid_text name ∷ licence_text licence ∷ []
words (L.DxeStart volume name licence) = decimal volume ∷ guid_text name ∷ licence_text licence ∷ []
words (L.Call name status extra) = call_text name ∷ word_text status ∷ extra_words extra
words (L.Log text) = text.items ∷ []
words (L.NotifyCallback volume name fired) = decimal volume ∷ guid_text name ∷ guid_text fired ∷ []
words (L.NotifyDispatch volume name fired) = decimal volume ∷ guid_text name ∷ guid_text fired ∷ []
words (L.NotifyProtocol volume name fired) = decimal volume ∷ guid_text name ∷ guid_text fired ∷ []
words (L.End status) = word_text status ∷ []
words (L.Migrate from to) = hexadecimal from ∷ hexadecimal to ∷ []
words (L.CoreInstall status) = word_text status ∷ []
words L.PeiStop = []
words L.DxeStop = []
words (L.Waiting volume name reason) = decimal volume ∷ guid_text name ∷ reason_text reason ∷ []
words (L.Handoff address) = hexadecimal address ∷ []
words (L.DxeVolume volume) = decimal volume ∷ []
words (L.Ppis count) = decimal count ∷ []
words (L.Ppi by guid value) = by_text by ∷ guid_text guid ∷ hexadecimal value ∷ []
words (L.Callbacks count) = decimal count ∷ []
words (L.Callback guid by block) = guid_text guid ∷ decimal by ∷ decimal block ∷ []
words (L.Dispatches count) = decimal count ∷ []
words (L.Dispatch guid by block) = guid_text guid ∷ decimal by ∷ decimal block ∷ []
words (L.Pendings count) = decimal count ∷ []
words (L.Pending guid by block) = guid_text guid ∷ decimal by ∷ decimal block ∷ []
words (L.Hobs count) = decimal count ∷ []
words (L.Hob kind body) = decimal kind ∷ bytes_text body ∷ []
words (L.Handles count) = decimal count ∷ []
words (L.Handle handle guid value) = decimal handle ∷ guid_text guid ∷ hexadecimal value ∷ []
words (L.Result outcome) = end_text outcome ∷ []
words (L.Volume volume base len name) = decimal volume ∷ hexadecimal base ∷ decimal len ∷ name_text name ∷ []
words (L.Module by volume name kind pei_rank dxe_rank pei dxe) =
    decimal by ∷ decimal volume ∷ guid_text name ∷ encode_lower (kind ∷ []) ∷ rank_text pei_rank ∷ rank_text dxe_rank ∷ expression_text pei ∷ expression_text dxe ∷ []
words L.RefusedUsage = []
words (L.RefusedFile name) = name ∷ []
words (L.RefusedLong name) = name ∷ []
words (L.RefusedPlan line cause) = decimal line ∷ plan_cause_text cause ∷ []
words (L.RefusedImage volume at cause) = decimal volume ∷ decimal at ∷ image_cause_text cause ∷ []

-- the text of a line
abbrev pub line_text : Line → List ℕ
line_text line = line_of (keyword line) (words line)

-- the text of lines
abbrev pub text_of : List Line → List ℕ
text_of lines = flat_map line_text lines

-- the text of the line that refuses a file
abbrev pub refused_file_text : List ℕ → List ℕ
refused_file_text name = line_text (L.RefusedFile name)

-- the text of the line that refuses a file for its length
abbrev pub refused_long_text : List ℕ → List ℕ
refused_long_text name = line_text (L.RefusedLong name)
