-- The lines that a trace may have (own): numbers fit their types, a logged text is one that a script may log, a `peek` shows no more bytes than it may read, a
-- file name is in one line, and a service shows what its action does.
use Rattle.std.specs.Prelude.{◌≡◌, ◌<◌, ◌≤◌, ◌^◌, ◌++◌, ℕ, Bool, true, false, List, Option, Some, None, ⊤, flat_map, length, nat_le, ◌&&◌}
use Rattle.std.specs.List.{list_all}
use Rattle.hex.specs.Hex.{IsBytes}
use Rattle.pi_base.specs.{declared.guid.Guid.Guid, declared.word.Word.Word, declared.word.Word.TheVariants.Success}
use Rattle.boot_io.specs.Line.{spaced}
use Rattle.boot_model.specs.{declared.line.TheConstants.SHOWN_LEN, declared.line.Line.Line, declared.line.CallName.CallName}
use Rattle.boot_model.specs.declared.line.Line.TheVariants as L
use Rattle.boot_model.specs.declared.line.CallName.TheVariants as C
use Rattle.boot_model.specs.{declared.line.Extra.Extra, declared.line.ExpressionWord.ExpressionWord, Text.keyword, Text.words}
use Rattle.boot_model.specs.declared.line.Extra.TheVariants as E
use Rattle.boot_model.specs.declared.line.ExpressionWord.TheVariants as V
use Rattle.line_words.specs.PrintedWords.{IsGuid, Lacks}

-- a rank, if there is one, fits its type
abbrev pub IsRank : Option ℕ → Type 0
IsRank None = ⊤
IsRank (Some rank) = rank < 2 ^ 32

-- a name, if there is one, has sixteen bytes
abbrev pub IsName : Option Guid → Type 0
IsName None = ⊤
IsName (Some name) = IsGuid name

-- an offset or a name in an expression fits its type
abbrev pub IsExpression : ExpressionWord → Type 0
IsExpression (V.Malformed at) = at < 2 ^ 32
IsExpression (V.Before name) = IsGuid name
IsExpression (V.After name) = IsGuid name
IsExpression _ = ⊤

-- so many as a script may log or read at once
abbrev pub IsShown : List ℕ → Type 0
IsShown bytes = (0 < length bytes) × (length bytes ≤ SHOWN_LEN) × IsBytes bytes

-- a printable character of ASCII
abbrev pub is_printable : ℕ → Bool
is_printable byte = nat_le 0x20 byte && nat_le byte 0x7e

-- printable characters, so many as a script may log at once
abbrev pub IsLogged : List ℕ → Type 0
IsLogged text = (0 < length text) × (length text ≤ SHOWN_LEN) × (list_all is_printable text ≡ true)

-- the actions that may show nothing on success: all but those that always have an answer to show
abbrev pub shows_nothing : CallName → Bool
shows_nothing C.Pool = false
shows_nothing C.Peek = false
shows_nothing C.Desc = false
shows_nothing C.Locate = false
shows_nothing C.Hob = false
shows_nothing C.Pages = false
shows_nothing _ = true

-- the actions that may show a number: an address, a value, a mode or a handle
abbrev pub shows_number : CallName → Bool
shows_number C.Pool = true
shows_number C.Desc = true
shows_number C.Install = true
shows_number C.Locate = true
shows_number C.Hob = true
shows_number C.Pages = true
shows_number C.BootMode = true
shows_number _ = false

-- what an action shows after its status: nothing if it is refused
abbrev pub IsExtra : CallName → Word → Extra → Type 0
IsExtra name status E.Nothing = status ≡ Success → shows_nothing name ≡ true
IsExtra name status (E.Number n) = (status ≡ Success) × (shows_number name ≡ true) × (n < 2 ^ 64)
IsExtra name status (E.Bytes bytes) = (status ≡ Success) × (name ≡ C.Peek) × IsShown bytes.items

-- each number fits its type, and each name and text can be printed in its place; a line of fixed words is always readable
abbrev pub IsReadable : Line → Type 0
IsReadable (L.Report volume) = volume < 2 ^ 32
IsReadable (L.PeiStart volume name licence) = (volume < 2 ^ 32) × IsGuid name
IsReadable (L.DxeStart volume name licence) = (volume < 2 ^ 32) × IsGuid name
IsReadable (L.Call name status extra) = IsExtra name status extra
IsReadable (L.Log text) = IsLogged text.items
IsReadable (L.NotifyCallback volume name fired) = (volume < 2 ^ 32) × IsGuid name × IsGuid fired
IsReadable (L.NotifyDispatch volume name fired) = (volume < 2 ^ 32) × IsGuid name × IsGuid fired
IsReadable (L.NotifyProtocol volume name fired) = (volume < 2 ^ 32) × IsGuid name × IsGuid fired
IsReadable (L.Migrate from to) = (from < 2 ^ 64) × (to < 2 ^ 64)
IsReadable (L.Waiting volume name reason) = (volume < 2 ^ 32) × IsGuid name
IsReadable (L.Handoff address) = address < 2 ^ 64
IsReadable (L.DxeVolume volume) = volume < 2 ^ 32
IsReadable (L.Ppis count) = count < 2 ^ 32
IsReadable (L.Ppi by guid value) = (by < 2 ^ 32) × IsGuid guid × (value < 2 ^ 64)
IsReadable (L.Callbacks count) = count < 2 ^ 32
IsReadable (L.Callback guid by block) = IsGuid guid × (by < 2 ^ 32) × (block < 2 ^ 32)
IsReadable (L.Dispatches count) = count < 2 ^ 32
IsReadable (L.Dispatch guid by block) = IsGuid guid × (by < 2 ^ 32) × (block < 2 ^ 32)
IsReadable (L.Pendings count) = count < 2 ^ 32
IsReadable (L.Pending guid by block) = IsGuid guid × (by < 2 ^ 32) × (block < 2 ^ 32)
IsReadable (L.Hobs count) = count < 2 ^ 32
IsReadable (L.Hob kind body) = (kind < 2 ^ 16) × IsBytes body
IsReadable (L.Handles count) = count < 2 ^ 32
IsReadable (L.Handle handle guid value) = (handle < 2 ^ 32) × IsGuid guid × (value < 2 ^ 64)
IsReadable (L.Volume volume base len name) = (volume < 2 ^ 32) × (base < 2 ^ 64) × (len < 2 ^ 64) × IsName name
IsReadable (L.Module by volume name kind pei_rank dxe_rank pei dxe) =
    (by < 2 ^ 32) × (volume < 2 ^ 32) × IsGuid name × (kind < 2 ^ 8) × IsRank pei_rank × IsRank dxe_rank × IsExpression pei × IsExpression dxe
IsReadable (L.RefusedFile name) = Lacks 10 name × IsBytes name
IsReadable (L.RefusedLong name) = Lacks 10 name × IsBytes name
IsReadable (L.RefusedPlan line cause) = line < 2 ^ 32
IsReadable (L.RefusedImage volume at cause) = (volume < 2 ^ 32) × (at < 2 ^ 64)
IsReadable _ = ⊤

-- bytes are a readable line without its line feed
abbrev pub IsLineOf : List ℕ → Line → Type 0
IsLineOf bytes line = IsReadable line × (bytes ≡ keyword line ++ flat_map spaced (words line))
