-- The code units of a name, as a walk over their text passes them.
use Rattle.std.proofs.Common.{◌≡◌, ℕ, ◌+◌, ◌-◌, ◌*◌, ◌≤◌, ◌==◌, true, false, cond, List, [], ◌∷◌, ◌++◌, length, take, drop, slice_index, Option, Some, None, option_map, refl, sym, ap, subst, ◌∙◌, append_assoc, arith, length-append, append-nil, take_all}
use Rattle.std.proofs.Math.Seq.{take-append_seam}
use Rattle.pi_base.specs.Field.{words_of}
use Rattle.explain_text.specs.Name.{before_null}

-- whole code units stand in front of the rest, and none of them is a null
pub record Passed (text front rest : List ℕ) : Type 0 where
  pub whole : text ≡ front ++ rest
  pub paired : (more : List ℕ) → words_of (front ++ more) ≡ words_of front ++ words_of more
  pub none : before_null (words_of text) ≡ option_map (λ name. words_of front ++ name) (before_null (words_of rest))

-- some do
abbrev pub IsPassed : List ℕ → List ℕ → Type 0
IsPassed text rest = (front : List ℕ) × Passed text front rest

same : (found : Option (List ℕ)) → found ≡ option_map (λ name. [] ++ name) found
same None = refl
same (Some name) = refl

pub nothing : (text : List ℕ) → IsPassed text text
nothing text = ([], record { whole = refl; paired = λ more. refl; none = same (before_null (words_of text)) })

behind : (front : List ℕ) (unit : ℕ) (found : Option (List ℕ)) → option_map (λ name. front ++ name) (option_map (λ name. unit ∷ name) found) ≡ option_map (λ name. (front ++ unit ∷ []) ++ name) found
behind front unit None = refl
behind front unit (Some name) = ap (λ n. Some n) (sym (append_assoc front (unit ∷ []) name))

module _ (text front : List ℕ) (low high : ℕ) (after : List ℕ) (passed : Passed text front (low ∷ high ∷ after)) where
  abbrev unit : ℕ
  unit = low + 256 * high

  two : words_of (front ++ low ∷ high ∷ []) ≡ words_of front ++ unit ∷ []
  two = passed.paired (low ∷ high ∷ [])

  -- one code unit more
  one_more : (low + 256 * high == 0) ≡ false → Passed text (front ++ low ∷ high ∷ []) after
  one_more e = record {
    whole = passed.whole ∙ sym (append_assoc front (low ∷ high ∷ []) after);
    paired = λ more.
        ap words_of (append_assoc front (low ∷ high ∷ []) more) ∙ passed.paired (low ∷ high ∷ more)
        ∙ sym (append_assoc (words_of front) (unit ∷ []) (words_of more)) ∙ ap (λ units. units ++ words_of more) (sym two);
    none =
        passed.none
        ∙ ap (λ b. option_map (λ name. words_of front ++ name) (cond b (Some []) (option_map (λ name. unit ∷ name) (before_null (words_of after))))) e
        ∙ behind (words_of front) unit (before_null (words_of after))
        ∙ ap (λ (units : List ℕ). option_map (λ name. units ++ name) (before_null (words_of after))) (sym two);
  }

  -- the null
  at_null : (low + 256 * high == 0) ≡ true → Some (words_of front) ≡ before_null (words_of text)
  at_null e = sym (passed.none ∙ ap (λ b. option_map (λ name. words_of front ++ name) (cond b (Some []) (option_map (λ name. unit ∷ name) (before_null (words_of after))))) e ∙ ap (λ n. Some n) (append-nil (words_of front)))

front_is : (text front rest : List ℕ) → text ≡ front ++ rest → take (length text - length rest) text ≡ front
front_is text front rest e =
    let long : length text ≡ length front + length rest = ap length e ∙ length-append front rest in
    let n : length text - length rest ≡ length front = omega (arith, long) in
    ap (λ k. take k text) n ∙ ap (take (length front)) e ∙ take-append_seam front rest

-- the walk passes a code unit
pub passes : (text rest : List ℕ) → 2 ≤ length rest → (slice_index rest 0 + 256 * slice_index rest 1 == 0) ≡ false → IsPassed text rest
    → IsPassed text (take (length rest - 2) (drop 2 rest))
passes text [] long e passed = absurd omega (arith, long)
passes text (low ∷ []) long e passed = absurd omega (arith, long)
passes text (low ∷ high ∷ after) long e passed =
    let most : length after ≤ length (low ∷ high ∷ after) - 2 = omega arith in
    subst (IsPassed text) (sym (take_all (length (low ∷ high ∷ after) - 2) after most)) (passed.0 ++ low ∷ high ∷ [], one_more text passed.0 low high after passed.1 e)

-- what is left is no longer than the text
pub no_longer : (text rest : List ℕ) → IsPassed text rest → length rest ≤ length text
no_longer text rest passed =
    let long : length text ≡ length passed.0 + length rest = ap length passed.1.whole ∙ length-append passed.0 rest in
    omega (arith, long)

-- it ends at a null
pub stops : (text rest : List ℕ) → 2 ≤ length rest → (slice_index rest 0 + 256 * slice_index rest 1 == 0) ≡ true → IsPassed text rest
    → Some (words_of (take (length text - length rest) text)) ≡ before_null (words_of text)
stops text [] long e passed = absurd omega (arith, long)
stops text (low ∷ []) long e passed = absurd omega (arith, long)
stops text (low ∷ high ∷ after) long e passed =
    ap (λ name. Some (words_of name)) (front_is text passed.0 (low ∷ high ∷ after) passed.1.whole) ∙ at_null text passed.0 low high after passed.1 e

-- there is none
pub ends : (text rest : List ℕ) → length rest ≤ 1 → IsPassed text rest → None ≡ before_null (words_of text)
ends text [] short passed = sym passed.1.none
ends text (low ∷ []) short passed = sym passed.1.none
ends text (low ∷ high ∷ after) short passed = absurd omega (arith, short)
