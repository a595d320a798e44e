-- Bytes that words spell to the end of a line (own).
use Rattle.std.specs.Prelude.{ℕ, List, [], ◌∷◌, ◌++◌, Result, Ok, Err, flat_map}
use Rattle.hex.specs.{Hex.decode_of, declared.error.FromHexError.FromHexError}
use Rattle.source_words.specs.GuidWord.{guid_of}
use Rattle.volume_text.specs.{declared.fault.Cause.Cause, Reading.◌>>=◌, Reading.there}
use Rattle.volume_text.specs.declared.fault.Cause.TheVariants as cause

abbrev pub hex_answer : Result (List ℕ) FromHexError → Result (List ℕ) Cause
hex_answer (Ok bytes) = Ok bytes
hex_answer (Err e) = Err cause.Bytes

-- in hexadecimal, with blanks where they help
unfoldable pub bytes_of : List (List ℕ) → Result (List ℕ) Cause
bytes_of words = hex_answer (decode_of (flat_map (λ word. word) words))

-- GUIDs, one behind the other
abbrev pub guids_of : List (List ℕ) → Result (List ℕ) Cause
guids_of [] = Ok []
guids_of (word ∷ words) = do
  guid ← there cause.Guid (guid_of word)
  others ← guids_of words
  Ok (guid.0 ++ others)
