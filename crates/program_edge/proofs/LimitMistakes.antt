-- The numbers of a line of three words.
use Rattle.std.proofs.Common.{◌≡◌, ℕ, List, [], ◌∷◌, Some, arith, refl, sym}
use Rattle.line_words.specs.{Number.number_of, Words.words}
use Rattle.program_edge.specs.{declared.rule.Rule.Rule, Mistake.BreaksNumber, Mistake.HasNumber}

-- the second word is one that breaks a rule, and the last word
pub base_breaks : (line first base last : List ℕ) (number : ℕ) (rule : Rule) → words line ≡ first ∷ base ∷ last ∷ [] → Some number ≡ number_of base → BreaksNumber number rule → HasNumber line base rule
base_breaks line first base last number rule all is broken = ((first, base ∷ last ∷ [], all, (0, omega arith, refl)), (number, sym is, broken))

pub last_breaks : (line first base last : List ℕ) (number : ℕ) (rule : Rule) → words line ≡ first ∷ base ∷ last ∷ [] → Some number ≡ number_of last → BreaksNumber number rule → HasNumber line last rule
last_breaks line first base last number rule all is broken = ((first, base ∷ last ∷ [], all, (1, omega arith, refl)), (number, sym is, broken))
