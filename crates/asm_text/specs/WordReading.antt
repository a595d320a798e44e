-- The words of a line, each as the value that it shows (own). A word is read only when it is what is printed of the value.
use Rattle.std.specs.Prelude.{ℕ, ◌^◌, false, ◌&&◌, ◌==◌, nat_lt, bytes_eq, if◌then◌else◌, codes, List, take, drop, Option, Some, None, Result, Ok, Err, find}
use Rattle.std.specs.{List.position_or_len, Fmt.digits, Str.Parse.digits_value}
use Rattle.hex.specs.{Hex.encode_lower, Hex.decode_of, declared.error.FromHexError.FromHexError}
use Rattle.pi_base.specs.{declared.word.Word.Word, WordText.word_text}
use Rattle.act_code.specs.Reading.{◌>>=◌, only_if}
use Rattle.asm_text.specs.{declared.word.TheConstants.STATUSES, Front.behind}

-- the index of the first space, or the length if there is none
abbrev pub space_place : List ℕ → ℕ
space_place text = position_or_len (λ b. b == 32) text

-- the word after a space, and what follows it
unfoldable pub word_at : List ℕ → Option (List ℕ × List ℕ)
word_at text = do
  after ← behind (codes " ") text
  Some (take (space_place after) after, drop (space_place after) after)

-- the number of 64 bits whose digits a word is
unfoldable pub number_word : ℕ → List ℕ → Option ℕ
number_word base word =
    only_if (bytes_eq (digits base false (digits_value base word)) word && nat_lt (digits_value base word) (2 ^ 64)) (digits_value base word)

-- a number in hexadecimal
unfoldable pub hexadecimal_word : List ℕ → Option ℕ
hexadecimal_word word = do
  rest ← behind (codes "0x") word
  number_word 16 rest

-- a register below 16
unfoldable pub register_word : List ℕ → Option ℕ
register_word word = do
  rest ← behind (codes "r") word
  r ← number_word 10 rest
  only_if (nat_lt r 16) r

-- 0 or 1, for one of two words
unfoldable pub choice_word : List ℕ → List ℕ → List ℕ → Option ℕ
choice_word zero one word = if bytes_eq word zero then Some 0 else if bytes_eq word one then Some 1 else None

-- what a descriptor is of
unfoldable pub kind_word : List ℕ → Option ℕ
kind_word word =
    if bytes_eq word (codes "ppi") then Some 0
    else if bytes_eq word (codes "callback") then Some 1
    else if bytes_eq word (codes "dispatch") then Some 2
    else None

-- a status by its name
unfoldable pub status_word : List ℕ → Option Word
status_word word = find (λ status. bytes_eq (word_text status) word) STATUSES

-- the bytes whose text a word is
abbrev pub shown_by : List ℕ → Result (List ℕ) FromHexError → Option (List ℕ)
shown_by word (Ok bytes) = only_if (bytes_eq (encode_lower bytes) word) bytes
shown_by word (Err e) = None

unfoldable pub bytes_word : List ℕ → Option (List ℕ)
bytes_word word = shown_by word (decode_of word)
