-- What is printed of an MP file and its outcome (own): a line is a keyword and words with a space between. What a cell has is
-- hexadecimal, and each other number is decimal.
use Rattle.std.specs.Prelude.{ℕ, Bool, true, false, not, List, [], ◌∷◌, ◌++◌, map, filter, codes, decimal, flat_map, zip}
use Rattle.std.specs.List.{enumerate_from}
use Rattle.pi_base.specs.WordText.{hexadecimal}
use Rattle.boot_io.specs.Line.{line_of}
use Rattle.mp_core.specs.{declared.event.MpEvent.MpEvent, declared.reply.MpOutcome.MpOutcome, declared.reply.MpReply.MpReply}
use Rattle.mp_core.specs.declared.event.MpEvent.TheVariants as E
use Rattle.mp_core.specs.{declared.reply.MpReply.TheVariants.Word, declared.reply.MpReply.TheVariants.Number, declared.reply.MpWord.MpWord}
use Rattle.mp_core.specs.declared.reply.MpWord.TheVariants.{Success, DeviceError, NotStarted, NotReady, NotFound, InvalidParameter, Unsupported}
use Rattle.mp_core.specs.{declared.keyword.Keyword.Keyword, LineText.keyword_text}
use Rattle.mp_core.specs.declared.keyword.Keyword.TheVariants.{All, This, Enable, Disable, Switch, Who, Turn}

-- the keyword of an event's line
abbrev pub keyword_of : MpEvent → Keyword
keyword_of (E.All by job) = All
keyword_of (E.This by on job) = This
keyword_of (E.Enable by on true) = Enable
keyword_of (E.Enable by on false) = Disable
keyword_of (E.Switch by on enabled) = Switch
keyword_of (E.Who by) = Who
keyword_of (E.Turn on) = Turn

abbrev pub is_turn : MpEvent → Bool
is_turn (E.All by job) = false
is_turn (E.This by on job) = false
is_turn (E.Enable by on enabled) = false
is_turn (E.Switch by on enabled) = false
is_turn (E.Who by) = false
is_turn (E.Turn on) = true

-- the events that answer something
abbrev pub calls : List MpEvent → List MpEvent
calls events = filter (λ event. not (is_turn event)) events

unfoldable pub status_text : MpWord → List ℕ
status_text Success = codes "Success"
status_text DeviceError = codes "DeviceError"
status_text NotStarted = codes "NotStarted"
status_text NotReady = codes "NotReady"
status_text NotFound = codes "NotFound"
status_text InvalidParameter = codes "InvalidParameter"
status_text Unsupported = codes "Unsupported"

abbrev pub reply_word : MpReply → List ℕ
reply_word (Word status) = status_text status
reply_word (Number n) = decimal n

-- the line of a call and its reply
abbrev pub reply_line : MpEvent × MpReply → List ℕ
reply_line call = line_of (keyword_text (keyword_of call.0)) (reply_word call.1 ∷ [])

-- each call with its reply, in order
abbrev pub replies_text : List MpEvent → List MpReply → List ℕ
replies_text events replies = flat_map reply_line (zip (calls events) replies)

unfoldable pub cell_keyword : List ℕ
cell_keyword = codes "cell"

-- the line of a cell's index and what the cell has
abbrev pub cell_line : ℕ × ℕ → List ℕ
cell_line cell = line_of cell_keyword (decimal cell.0 ∷ hexadecimal cell.1 ∷ [])

abbrev pub cells_text : List ℕ → List ℕ
cells_text cells = flat_map cell_line (enumerate_from 0 cells)

unfoldable pub record_keyword : List ℕ
record_keyword = codes "record"

unfoldable pub no_numbers : List ℕ
no_numbers = codes "-"

-- the numbers of a record, or a dash if there are no numbers
abbrev pub number_words : List ℕ → List (List ℕ)
number_words [] = no_numbers ∷ []
number_words (n ∷ numbers) = map decimal (n ∷ numbers)

-- the line of a processor's number and its record
abbrev pub record_line : ℕ × List ℕ → List ℕ
record_line pair = line_of record_keyword (decimal pair.0 ∷ number_words pair.1)

abbrev pub records_text : List (List ℕ) → List ℕ
records_text records = flat_map record_line (enumerate_from 0 records)

-- the reply of each call, then the cells, then the record of each processor
abbrev pub outcome_text : List MpEvent → MpOutcome → List ℕ
outcome_text events outcome = replies_text events outcome.replies ++ cells_text outcome.cells ++ records_text outcome.records

unfoldable pub refused_command : List ℕ
refused_command = codes "refused command"

-- the line of a file's first bad line
abbrev pub bad_line : ℕ → List ℕ
bad_line number = line_of refused_command (decimal number ∷ [])
