-- Lines of words: a keyword, each other word after a space, and a line feed. A line is gathered, so that the sink is called once.
use Rattle.std.specs.Prelude.{◌≡◌, ℕ, List, [], ◌∷◌, ◌++◌, flat_map, Option, Result, Ok, Err}
use Rattle.std.specs.{Borrow.Bor, Io.KnownBytes.Appends}
use Rattle.boot_io.specs.{declared.sink.SinkFault.SinkFault, Sink.AppendsPart}

-- a word after a space
abbrev pub spaced : List ℕ → List ℕ
spaced word = 32 ∷ word

-- the line of a keyword and words
abbrev pub line_of : List ℕ → List (List ℕ) → List ℕ
line_of keyword words = (keyword ++ flat_map spaced words) ++ 10 ∷ []

-- what words that are borrowed are
abbrev pub words_now : List (Bor (List ℕ)) → List (List ℕ)
words_now [] = []
words_now (word ∷ words) = word.now ∷ words_now words

-- a piece after a line: what was written and what is left in the line are together the line and the piece, or the sink failed in them
abbrev pub Gathers : Result (Unit {0}) SinkFault → Option (List ℕ) → Option (List ℕ) → List ℕ → List ℕ → List ℕ → Type 0
Gathers (Ok _) old new line_old line_new piece = (part : List ℕ) × Appends old new part × (part ++ line_new ≡ line_old ++ piece)
Gathers (Err _) old new line_old line_new piece = AppendsPart old new (line_old ++ piece)
