-- The words of a line (own). Spaces and tabs stand between them, and a round bracket is a word of its own. Behind `#` stands a comment.
use Rattle.std.specs.Prelude.{ℕ, Bool, ◌||◌, not, ◌==◌, if◌then◌else◌, List, [], ◌∷◌, bytes_eq, map}
use Rattle.std.specs.Char.{to_ascii_lowercase}

-- a space or a tab
abbrev pub is_blank : ℕ → Bool
is_blank byte = (byte == 32) || (byte == 9)

-- a round bracket
abbrev pub is_bracket : ℕ → Bool
is_bracket byte = (byte == 40) || (byte == 41)

-- the byte with which a comment begins
abbrev pub is_comment : ℕ → Bool
is_comment byte = byte == 35

-- a byte of a word of several
abbrev pub is_inner : ℕ → Bool
is_inner byte = not (is_blank byte || (is_comment byte || is_bracket byte))

-- the words with a byte before them: it belongs to the first one, where one begins directly behind it
abbrev pub joined : ℕ → List ℕ → List (List ℕ) → List (List ℕ)
joined byte [] words = (byte ∷ []) ∷ words
joined byte (next ∷ rest) [] = (byte ∷ []) ∷ []
joined byte (next ∷ rest) (word ∷ words) = if is_inner next then (byte ∷ word) ∷ words else (byte ∷ []) ∷ word ∷ words

abbrev pub words : List ℕ → List (List ℕ)
words [] = []
words (byte ∷ rest) =
    if is_blank byte then words rest
    else if is_comment byte then []
    else if is_bracket byte then (byte ∷ []) ∷ words rest
    else joined byte rest (words rest)

-- a keyword in any case
abbrev pub is_keyword : List ℕ → List ℕ → Bool
is_keyword word keyword = bytes_eq (map to_ascii_lowercase word) (map to_ascii_lowercase keyword)
