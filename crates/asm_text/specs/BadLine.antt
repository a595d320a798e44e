-- Lines, and the first line of a text with which it goes wrong (own).
use Rattle.std.specs.Prelude.{◌≡◌, ℕ, ◌+◌, List, ◌++◌, length, flat_map}
use Rattle.std.specs.List.{AllByRecursion}
use Rattle.line_words.specs.PrintedWords.{Lacks}
use Rattle.asm_text.specs.ScriptText.{line}

-- the text is not of a kind: its lines before the one with this number begin a text of the kind, but with that line, if it is complete, they do not
pub record IsBadLine (Is : List ℕ → Type 0) (text : List ℕ) (number : ℕ) : Type 0 where
  pub lines : List (List ℕ)
  pub rest : List ℕ
  pub here : text ≡ flat_map line lines ++ rest
  pub are : AllByRecursion (Lacks 10) lines
  pub before : number ≡ length lines + 1
  pub begins : (more : List ℕ) × Is (flat_map line lines ++ more)
  pub stops : (next after : List ℕ) → Lacks 10 next → rest ≡ line next ++ after → (more : List ℕ) → Is (flat_map line lines ++ (line next ++ more)) → ⊥
  pub none : Is text → ⊥
