-- The lines of the parts that are left, by flags and by what they say.
use Rattle.std.proofs.Common.{◌≡◌, ℕ, ◌+◌, ◌<◌, ◌≤◌, Bool, List, [], ◌∷◌, ◌++◌, length, refl, ap, ◌∙◌, arith}
use Rattle.pi_base.specs.declared.phase.Phase.{Phase}
use Rattle.mod_catalog.specs.declared.catalogue.Module.{Module}
use Rattle.explain_text.specs.LeftLines.{left_line, left_lines}

pub same_left : (phase : Phase) (f g : ℕ → Bool) (known : List ℕ) (from count : ℕ) (modules : List Module) → ((n : ℕ) → n < count → f n ≡ g n) → from + length modules ≤ count
    → left_lines phase f known from modules ≡ left_lines phase g known from modules
same_left phase f g known from count [] same within = refl
same_left phase f g known from count (m ∷ ms) same within =
    let here : left_line phase f known from m ≡ left_line phase g known from m = ap (λ b. left_line phase (λ _. b) known from m) (same from (omega (arith, within))) in
    ap (λ line. line ++ left_lines phase f known (from + 1) ms) here
    ∙ ap (λ rest. left_line phase g known from m ++ rest) (same_left phase f g known (from + 1) count ms same (omega (arith, within)))
