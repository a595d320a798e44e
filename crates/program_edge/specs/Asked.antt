-- What a person asks a program for in one word (own).
use Rattle.std.specs.Prelude.{◌≡◌, ◌⊎◌, ℕ, List, [], ◌∷◌, codes}
use Rattle.program_edge.specs.{declared.asked.Asked.Asked, declared.asked.Asked.TheVariants.Forms, declared.asked.Asked.TheVariants.Version}

-- a word asks for it
abbrev pub IsWordFor : List ℕ → Asked → Type 0
IsWordFor word Forms = (word ≡ codes "--help") ⊎ (word ≡ codes "-h")
IsWordFor word Version = word ≡ codes "--version"

-- the words are one that asks for it
abbrev pub AskFor : List (List ℕ) → Asked → Type 0
AskFor words asked = (word : List ℕ) × (words ≡ word ∷ []) × IsWordFor word asked
