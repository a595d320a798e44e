-- The form of a line of two words or of three.
use Rattle.std.proofs.Common.{◌≡◌, ℕ, ◌<◌, true, List, [], ◌∷◌, length, refl, arith, ap, ◌∙◌}
use Rattle.line_words.specs.Words.{words, is_plain}
use Rattle.boot_plan.specs.Form.{form_of, short_form, long_form}

-- what stands in front of a word is not empty
some_of : (line word : List ℕ) → (line ≡ [] → word ≡ []) → 0 < length word → 0 < length line
some_of [] word none h = absurd (omega (arith, ap length (none refl)))
some_of (x ∷ line) word none h = omega arith

pub form_is : (line a r1 b r2 c : List ℕ) → is_plain line ≡ true → 0 < length line → (0 < length line → words line ≡ a ∷ words r1)
    → (0 < length r1 → words r1 ≡ b ∷ words r2) → (r1 ≡ [] → b ≡ []) → 0 < length b
    → (0 < length r2 → words r2 ≡ c ∷ []) → (r2 ≡ [] → c ≡ []) → 0 < length c
    → form_of line ≡ long_form a b c
form_is line a r1 b r2 c plain some one two r1_none b_some three r2_none c_some =
    let all : words line ≡ a ∷ b ∷ c ∷ [] = one some ∙ ap (λ w. a ∷ w) (two (some_of r1 b r1_none b_some)) ∙ ap (λ w. a ∷ b ∷ w) (three (some_of r2 c r2_none c_some)) in
    rw (plain, all) refl

no_words : (rest word : List ℕ) → (0 < length rest → 0 < length word) → word ≡ [] → words rest ≡ []
no_words [] word some e = refl
no_words (x ∷ rest) word some e = let more : 0 < length (x ∷ rest) → 0 < length word = some in let long : 0 < length word = more (omega arith) in absurd (omega (arith, long, ap length e))

pub short_is : (line a r1 b r2 c : List ℕ) → is_plain line ≡ true → 0 < length line → (0 < length line → words line ≡ a ∷ words r1)
    → (0 < length r1 → words r1 ≡ b ∷ words r2) → (r1 ≡ [] → b ≡ []) → 0 < length b → (0 < length r2 → 0 < length c) → c ≡ []
    → form_of line ≡ short_form a b
short_is line a r1 b r2 c plain some one two r1_none b_some c_some c_none =
    let all : words line ≡ a ∷ b ∷ [] = one some ∙ ap (λ w. a ∷ w) (two (some_of r1 b r1_none b_some)) ∙ ap (λ w. a ∷ b ∷ w) (no_words r2 c c_some c_none) in
    rw (plain, all) refl
