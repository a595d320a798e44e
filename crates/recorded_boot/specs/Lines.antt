-- The lines of a text: each ends with a line feed.
-- Own.
use Rattle.std.specs.Prelude.{◌≡◌, ℕ, zero, suc, ◌==◌, ◌++◌, Bool, true, not, List, [], ◌∷◌, Option, Some, None, option_map, if◌then◌else◌, count_by}
use Rattle.std.specs.List.{list_all}

abbrev pub is_feed : ℕ → Bool
is_feed byte = byte == 10

-- no line feed is there
abbrev pub Lacks : List ℕ → Type 0
Lacks bytes = list_all (λ byte. not (is_feed byte)) bytes ≡ true

-- how many line feeds there are
abbrev pub feeds_in : List ℕ → ℕ
feeds_in bytes = count_by is_feed bytes

-- the bytes begin with this line, which a line feed ends
pub record BeginsWithLine (bytes line : List ℕ) : Type 0 where
  pub lacks : Lacks line
  pub rest : List ℕ
  pub is : bytes ≡ line ++ 10 ∷ rest

-- the front of a text up to its n-th line feed, which it includes; nothing if the text has fewer
abbrev pub front_lines : ℕ → List ℕ → Option (List ℕ)
front_lines zero text = Some []
front_lines (suc n) [] = None
front_lines (suc n) (byte ∷ rest) = option_map (λ front. byte ∷ front) (if is_feed byte then front_lines n rest else front_lines (suc n) rest)
