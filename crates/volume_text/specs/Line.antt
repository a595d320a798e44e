-- What a line says, or what is wrong with the first of its words with which none goes on, or with its end (own). A line begins with a keyword, or is an action.
use Rattle.std.specs.Prelude.{◌≡◌, ◌⊎◌, ℕ, ◌<◌, ◌≤◌, List, [], ◌∷◌, length, map, Option, Some, None, Result, Ok, Err}
use Rattle.pi_base.specs.declared.phase.Phase.{Phase}
use Rattle.depex_code.specs.declared.depex.Depex.{Depex}
use Rattle.depex_code.specs.Expression.{IsOfPhase, instructions, bytes_of as opcode_bytes}
use Rattle.source_words.specs.{declared.depex.fault.ExpressionFault.ExpressionFault, Tokens.token_of, Cause.expression_cause}
use Rattle.source_words.specs.declared.depex.fault.ExpressionFault.TheVariants as expression_fault
use Rattle.source_words.specs.{Expression.AreOf, Words.words}
use Rattle.fv_volume.specs.declared.sections.section_type.TheConstants.{RAW, USER_INTERFACE}
use Rattle.volume_text.specs.{declared.fault.Cause.Cause, declared.keyword.Keyword.Keyword, declared.statement.Statement.Statement}
use Rattle.volume_text.specs.declared.fault.Cause.TheVariants as cause
use Rattle.volume_text.specs.declared.keyword.Keyword.TheVariants as keyword
use Rattle.volume_text.specs.declared.statement.Statement.TheVariants as statement
use Rattle.volume_text.specs.{Keywords.keyword_of, Reading.◌>>=◌, Bytes.bytes_of, Bytes.guids_of, UserInterface.ui_bytes}
use Rattle.volume_text.specs.Words.{none_left, guid_at, phase_at, length_at, pad_length_at, system_at, header_at, attributes_at, place_at, size_at, chosen_at, file_type_at, section_type_at, ui_name_at}

-- each of these is of the words behind the first
unfoldable pub volume_at : List (List ℕ) → Result Statement Cause
volume_at others = do
  len ← length_at others
  system ← system_at len.1
  header ← header_at len.0 system.1
  attributes ← attributes_at header.1
  Ok (statement.Volume (record { file_system = system.0; attributes = attributes; header_len = header.0 }) len.0)

unfoldable pub name_at : List (List ℕ) → Result Statement Cause
name_at others = do
  guid ← guid_at others
  place ← place_at guid.1
  size ← size_at place.1
  _ ← none_left size.1
  Ok (statement.Name (record { guid = guid.0; at = place.0; size = size.0 }))

unfoldable pub pad_at : List (List ℕ) → Result Statement Cause
pad_at others = do
  len ← pad_length_at others
  _ ← none_left len.1
  Ok (statement.Pad len.0)

unfoldable pub file_at : List (List ℕ) → Result Statement Cause
file_at others = do
  kind ← file_type_at others
  name ← guid_at kind.1
  attributes ← chosen_at name.1
  Ok (statement.File kind.0 name.0 attributes)

unfoldable pub script_at : List (List ℕ) → Result Statement Cause
script_at others = do
  phase ← phase_at others
  _ ← none_left phase.1
  Ok (statement.Script phase.0)

unfoldable pub guids_at : List (List ℕ) → Result Statement Cause
guids_at others = guids_of others >>= (λ body. Ok (statement.Section RAW body))

unfoldable pub raw_at : List (List ℕ) → Result Statement Cause
raw_at others = bytes_of others >>= (λ body. Ok (statement.Section RAW body))

unfoldable pub section_at : List (List ℕ) → Result Statement Cause
section_at others = do
  kind ← section_type_at others
  body ← bytes_of kind.1
  Ok (statement.Section kind.0 body)

-- the name in a user interface section
unfoldable pub ui_at : List (List ℕ) → Result Statement Cause
ui_at others = do
  name ← ui_name_at others
  _ ← none_left name.1
  Ok (statement.Section USER_INTERFACE (ui_bytes name.0))

unfoldable pub body_at : List (List ℕ) → Result Statement Cause
body_at others = bytes_of others >>= (λ bytes. Ok (statement.Body bytes))

abbrev pub alone : Statement → List (List ℕ) → Result Statement Cause
alone said others = none_left others >>= (λ _. Ok said)

-- the words are an expression of the phase
abbrev pub IsExpression : Phase → List (List ℕ) → Depex → Type 0
IsExpression phase others expression = IsOfPhase phase expression × AreOf (map token_of others) expression

-- what is wrong with the words, which are no expression, or one of too many opcodes
abbrev pub IsNoExpression : Phase → List (List ℕ) → ExpressionFault → Type 0
IsNoExpression phase others expression_fault.Memory = ⊥
IsNoExpression phase others fault =
    (expression_cause phase (map token_of others) ≡ Some fault)
    ⊎ ((fault ≡ expression_fault.TooLong) × ((expression : Depex) × IsExpression phase others expression × (1024 < length (instructions expression))))

-- the bytes of the expression that words say
abbrev pub IsBody : Phase → List (List ℕ) → Result (List ℕ) Cause → Type 0
IsBody phase others (Ok body) =
    (expression : Depex) × IsExpression phase others expression × (length (instructions expression) ≤ 1024) × (body ≡ opcode_bytes (instructions expression))
IsBody phase others (Err c) = (fault : ExpressionFault) × (c ≡ cause.Expression fault) × IsNoExpression phase others fault

abbrev pub ReadsExpression : Result (Phase × List (List ℕ)) Cause → Result Statement Cause → Type 0
ReadsExpression (Err c) read = read ≡ Err c
ReadsExpression (Ok x) read = (body : Result (List ℕ) Cause) × IsBody x.0 x.1 body × (read ≡ (body >>= (λ bytes. Ok (statement.Depex x.0 bytes))))

abbrev pub ReadsDepex : List (List ℕ) → Result Statement Cause → Type 0
ReadsDepex others read = ReadsExpression (phase_at others) read

-- a line with this keyword in front of these words says this
abbrev pub ReadsBy : Option Keyword → List ℕ → List (List ℕ) → Result Statement Cause → Type 0
ReadsBy (Some keyword.Volume) line others read = read ≡ volume_at others
ReadsBy (Some keyword.Name) line others read = read ≡ name_at others
ReadsBy (Some keyword.Pad) line others read = read ≡ pad_at others
ReadsBy (Some keyword.File) line others read = read ≡ file_at others
ReadsBy (Some keyword.Depex) line others read = ReadsDepex others read
ReadsBy (Some keyword.Script) line others read = read ≡ script_at others
ReadsBy (Some keyword.Guids) line others read = read ≡ guids_at others
ReadsBy (Some keyword.Raw) line others read = read ≡ raw_at others
ReadsBy (Some keyword.Section) line others read = read ≡ section_at others
ReadsBy (Some keyword.Ui) line others read = read ≡ ui_at others
ReadsBy (Some keyword.Body) line others read = read ≡ body_at others
ReadsBy (Some keyword.Block) line others read = read ≡ alone statement.Block others
ReadsBy (Some keyword.End) line others read = read ≡ alone statement.End others
ReadsBy None line others read = read ≡ Ok (statement.Action line)

abbrev pub ReadsFirst : List ℕ → List (List ℕ) → Result Statement Cause → Type 0
ReadsFirst line [] read = read ≡ Err cause.Missing
ReadsFirst line (word ∷ others) read = ReadsBy (keyword_of word) line others read

-- the line says this, or this is wrong with it
abbrev pub Reads : List ℕ → Result Statement Cause → Type 0
Reads line read = ReadsFirst line (words line) read
