-- The lines of a text (own). Each ends with a line feed, or with the text. A carriage return directly before a line feed is dropped.
pub use Rattle.std.specs.Str.Lines.{lines}
use Rattle.std.specs.Prelude.{ℕ, ◌==◌, Bool, true, List, [], ◌∷◌}

-- a line that is empty or begins with `#`
abbrev pub is_passed_over : List ℕ → Bool
is_passed_over [] = true
is_passed_over (first ∷ rest) = first == 35
