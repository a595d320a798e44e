-- The words of a line, each as the value that it shows (own).
use Rattle.std.specs.Prelude.{ℕ, ◌==◌, nat_lt, if◌then◌else◌, codes, List, [], ◌∷◌, Option, Some, None, Result, Ok, Err, option_and_then, find, flat_map}
use Rattle.hex.specs.{Hex.decode_of, declared.error.FromHexError.FromHexError}
use Rattle.line_words.specs.Number.{number_of}
use Rattle.pi_base.specs.{declared.word.Word.Word, WordText.word_text}
use Rattle.source_words.specs.{Words.is_keyword, declared.script.fault.LineFault.LineFault, declared.script.word.TheConstants.STATUSES}
use Rattle.source_words.specs.declared.script.fault.LineFault.TheVariants as fault

-- the first word, and the others
abbrev pub word_at : List (List ℕ) → Result (List ℕ × List (List ℕ)) LineFault
word_at [] = Err fault.Missing
word_at (word ∷ words) = Ok (word, words)

abbrev pub register_below : ℕ → Option ℕ
register_below r = if nat_lt r 16 then Some r else None

-- a register: `r` and its number, below 16
unfoldable pub register_of : List ℕ → Option ℕ
register_of [] = None
register_of (first ∷ digits) = if first == 114 then option_and_then register_below (number_of digits) else None

-- 0 or 1, for one of two words
unfoldable pub choice_of : List ℕ → List ℕ → List ℕ → Option ℕ
choice_of zero one word = if is_keyword word zero then Some 0 else if is_keyword word one then Some 1 else None

-- what a descriptor is of
unfoldable pub kind_of : List ℕ → Option ℕ
kind_of word =
    if is_keyword word (codes "ppi") then Some 0
    else if is_keyword word (codes "callback") then Some 1
    else if is_keyword word (codes "dispatch") then Some 2
    else None

-- a status by its name, in any case
unfoldable pub status_of : List ℕ → Option Word
status_of word = find (λ status. is_keyword word (word_text status)) STATUSES

abbrev pub hex_answer : Result (List ℕ) FromHexError → Result (List ℕ × List (List ℕ)) LineFault
hex_answer (Ok bytes) = Ok (bytes, [])
hex_answer (Err e) = Err fault.Bytes

-- bytes in hexadecimal, to the end of the line
unfoldable pub bytes_at : List (List ℕ) → Result (List ℕ × List (List ℕ)) LineFault
bytes_at words = hex_answer (decode_of (flat_map (λ word. word) words))
