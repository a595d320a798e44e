-- The front of a line: a keyword and words.
use Rattle.std.specs.Prelude.{ℕ, List, ◌++◌, flat_map}
use Rattle.boot_io.specs.Line.{spaced}

abbrev pub front_of : List ℕ → List (List ℕ) → List ℕ
front_of keyword words = keyword ++ flat_map spaced words
