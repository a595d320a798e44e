-- The words of a line, as far as a plan's line may have any (own).
use Rattle.std.specs.Prelude.{◌≡◌, ℕ, List, [], ◌∷◌}
use Rattle.program_edge.specs.declared.shape.Shape.{Shape}
use Rattle.program_edge.specs.declared.shape.Shape.TheVariants.{Empty, One, Two, Three, More}

-- a line's words are those of a shape
abbrev pub HasShape : List (List ℕ) → Shape → Type 0
HasShape words Empty = words ≡ []
HasShape words (One first) = words ≡ first.now ∷ []
HasShape words (Two first second) = words ≡ first.now ∷ second.now ∷ []
HasShape words (Three first second third) = words ≡ first.now ∷ second.now ∷ third.now ∷ []
HasShape words (More first) = (second : List ℕ) × (third : List ℕ) × (fourth : List ℕ) × (rest : List (List ℕ)) × (words ≡ first.now ∷ second ∷ third ∷ fourth ∷ rest)
