-- The words of a line, cut off one after another.
use Rattle.std.proofs.Common.{◌≡◌, ◌⊎◌, inl, inr, ℕ, ◌<◌, true, false, List, [], ◌∷◌, length, None, refl, sym, ap, ◌∙◌, arith, eqb-true, ◌==◌}
use Rattle.line_words.specs.Words.{words, is_plain}
use Rattle.gcd_map.specs.CommandText.{short_command, long_command, command_of}

-- the first word of a line, and what is left of it
pub record Cut (line word rest : List ℕ) : Type 0 where
  pub words : 0 < length line → words line ≡ word ∷ words rest
  pub some : 0 < length line → 0 < length word
  pub none : line ≡ [] → (word ≡ []) × (rest ≡ [])

-- five words that are cut off
pub record Cuts (line a r1 b r2 c r3 d r4 e r5 : List ℕ) : Type 0 where
  pub one : Cut line a r1
  pub two : Cut r1 b r2
  pub three : Cut r2 c r3
  pub four : Cut r3 d r4
  pub five : Cut r4 e r5

nil_or_some : (xs : List ℕ) → (xs ≡ []) ⊎ (0 < length xs)
nil_or_some [] = inl refl
nil_or_some (x ∷ xs) = inr (omega arith)

-- what the test on a length tells
pub filled : (xs : List ℕ) → false ≡ (length xs == 0) → 0 < length xs
filled [] e = absurd cc
filled (x ∷ xs) e = omega arith

pub bare : (xs : List ℕ) → true ≡ (length xs == 0) → length xs ≡ 0
bare xs e = eqb-true (length xs) 0 (sym e)

-- a line with a word, or with a rest, has something
some_word : (line word rest : List ℕ) → Cut line word rest → 0 < length word → 0 < length line
some_word line word rest cut some = elim (nil_or_some line) [ inl e ↦ absurd (omega (arith, some, ap length (cut.none e).0)) | inr h ↦ h ]

some_rest : (line word rest : List ℕ) → Cut line word rest → 0 < length rest → 0 < length line
some_rest line word rest cut some = elim (nil_or_some line) [ inl e ↦ absurd (omega (arith, some, ap length (cut.none e).1)) | inr h ↦ h ]

-- one without a word has nothing
no_word : (line word rest : List ℕ) → Cut line word rest → length word ≡ 0 → line ≡ []
no_word line word rest cut none = elim (nil_or_some line) [ inl e ↦ e | inr h ↦ absurd (omega (arith, none, cut.some h)) ]

pub many_words : (line a r1 b r2 c r3 d r4 e r5 : List ℕ) → is_plain line ≡ true → Cuts line a r1 b r2 c r3 d r4 e r5 → 0 < length e → command_of line ≡ None
many_words line a r1 b r2 c r3 d r4 e r5 plain cuts some =
    let h4 = some_word r4 e r5 cuts.five some in
    let h3 = some_rest r3 d r4 cuts.four h4 in
    let h2 = some_rest r2 c r3 cuts.three h3 in
    let h1 = some_rest r1 b r2 cuts.two h2 in
    let h0 = some_rest line a r1 cuts.one h1 in
    let all : words line ≡ a ∷ b ∷ c ∷ d ∷ e ∷ words r5 =
    cuts.one.words h0 ∙ ap (λ w. a ∷ w) (cuts.two.words h1) ∙ ap (λ w. a ∷ b ∷ w) (cuts.three.words h2) ∙ ap (λ w. a ∷ b ∷ c ∷ w) (cuts.four.words h3) ∙ ap (λ w. a ∷ b ∷ c ∷ d ∷ w) (cuts.five.words h4) in
    rw (plain, all) refl

pub four_words : (line a r1 b r2 c r3 d r4 e r5 : List ℕ) → is_plain line ≡ true → Cuts line a r1 b r2 c r3 d r4 e r5 → length e ≡ 0 → 0 < length d → command_of line ≡ long_command a b c d
four_words line a r1 b r2 c r3 d r4 e r5 plain cuts none some =
    let h3 = some_word r3 d r4 cuts.four some in
    let h2 = some_rest r2 c r3 cuts.three h3 in
    let h1 = some_rest r1 b r2 cuts.two h2 in
    let h0 = some_rest line a r1 cuts.one h1 in
    let end : words r4 ≡ [] = ap words (no_word r4 e r5 cuts.five none) in
    let all : words line ≡ a ∷ b ∷ c ∷ d ∷ [] =
    cuts.one.words h0 ∙ ap (λ w. a ∷ w) (cuts.two.words h1) ∙ ap (λ w. a ∷ b ∷ w) (cuts.three.words h2) ∙ ap (λ w. a ∷ b ∷ c ∷ w) (cuts.four.words h3) ∙ ap (λ w. a ∷ b ∷ c ∷ d ∷ w) end in
    rw (plain, all) refl

pub three_words : (line a r1 b r2 c r3 d r4 e r5 : List ℕ) → is_plain line ≡ true → Cuts line a r1 b r2 c r3 d r4 e r5 → length d ≡ 0 → 0 < length c → command_of line ≡ short_command a b c
three_words line a r1 b r2 c r3 d r4 e r5 plain cuts none some =
    let h2 = some_word r2 c r3 cuts.three some in
    let h1 = some_rest r1 b r2 cuts.two h2 in
    let h0 = some_rest line a r1 cuts.one h1 in
    let end : words r3 ≡ [] = ap words (no_word r3 d r4 cuts.four none) in
    let all : words line ≡ a ∷ b ∷ c ∷ [] =
    cuts.one.words h0 ∙ ap (λ w. a ∷ w) (cuts.two.words h1) ∙ ap (λ w. a ∷ b ∷ w) (cuts.three.words h2) ∙ ap (λ w. a ∷ b ∷ c ∷ w) end in
    rw (plain, all) refl

pub few_words : (line a r1 b r2 c r3 d r4 e r5 : List ℕ) → is_plain line ≡ true → Cuts line a r1 b r2 c r3 d r4 e r5 → 0 < length line → length c ≡ 0 → command_of line ≡ None
few_words line a r1 b r2 c r3 d r4 e r5 plain cuts some none =
    let end : words r2 ≡ [] = ap words (no_word r2 c r3 cuts.three none) in
    elim (nil_or_some r1) [
      | inl empty ↦ let all : words line ≡ a ∷ [] = cuts.one.words some ∙ ap (λ w. a ∷ w) (ap words empty) in rw (plain, all) refl
      | inr h1 ↦ let all : words line ≡ a ∷ b ∷ [] = cuts.one.words some ∙ ap (λ w. a ∷ w) (cuts.two.words h1) ∙ ap (λ w. a ∷ b ∷ w) end in rw (plain, all) refl
    ]
