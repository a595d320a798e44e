-- The text of a line behind the name of its action (own).
use Rattle.std.specs.Prelude.{ℕ, if◌then◌else◌, List, [], ◌∷◌}
use Rattle.source_words.specs.Words.{is_blank}

-- a line without the blanks at its front
abbrev pub unindented : List ℕ → List ℕ
unindented [] = []
unindented (byte ∷ rest) = if is_blank byte then unindented rest else byte ∷ rest

-- a text without its first byte, where that is a blank
abbrev pub behind_blank : List ℕ → List ℕ
behind_blank [] = []
behind_blank (byte ∷ rest) = if is_blank byte then rest else byte ∷ rest
