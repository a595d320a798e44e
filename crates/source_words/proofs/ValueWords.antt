-- What is printed of a value is read as it.
use Rattle.std.proofs.Common.{◌≡◌, ℕ, ◌+◌, ◌*◌, ◌<◌, ◌≤◌, ◌^◌, ◌&&◌, Bool, true, false, List, [], ◌∷◌, length, map, Some, refl, sym, ap, ◌∙◌, arith, decimal, nat_lt, bytes_eq, codes, ◌==◌, option_map}
use Rattle.std.specs.{List.list_all, Fmt.digits}
use Rattle.std.specs.Char.{digit_value, is_digit, to_ascii_lowercase}
use Rattle.std.specs.Str.Parse.{AllDigits, digits_value, digits_value_after}
use Rattle.std.proofs.{Math.Nat.pow-suc, Math.Nat.pow-zero, lemmas.Bool.and_from, lemmas.Bool.Decides.nat_tests, lemmas.List.length-map}
use Rattle.pi_base.specs.{declared.guid.Guid.Guid, WordText.hexadecimal, WordText.guid_text}
use Rattle.line_words.specs.PrintedWords.{IsGuid}
use Rattle.line_words.proofs.{Comparisons.same, GuidWords.guid_long, GuidWords.guid_back, Numerals.numeral, Values.is_number}
use Rattle.line_words.specs.Number.{value_in, number_in, number_of}
use Rattle.source_words.specs.Words.{is_keyword}
use Rattle.source_words.specs.GuidWord.{unbraced, guid_spelled, guid_of}
use Rattle.source_words.proofs.Characters.{no_brace}

-- the value of digits by their places is that of reading them from left to right
after : (base n : ℕ) (ds : List ℕ) → digits_value_after base n ds ≡ n * base ^ length ds + value_in base ds
after base n [] = rw (pow-zero base) (omega arith)
after base n (c ∷ cs) = after base (n * base + digit_value c) cs ∙ rw (pow-suc base (length cs)) (omega arith)

value_is : (base : ℕ) (ds : List ℕ) → value_in base ds ≡ digits_value base ds
value_is base ds = sym (after base 0 ds ∙ omega arith)

are_valid : (base : ℕ) (ds : List ℕ) → AllDigits base ds → list_all (λ digit. is_digit digit base) ds ≡ true
are_valid base [] all = refl
are_valid base (c ∷ cs) all =
    let here : digit_value c < base = all.0 in
    let test : is_digit c base ≡ true = grind (arith, nat_tests) in
    and_from (is_digit c base) (list_all (λ digit. is_digit digit base) cs) test (are_valid base cs all.1)

number_there : (base n : ℕ) → 2 ≤ base → base ≤ 16 → n < 2 ^ 64 → number_in base (digits base false n) ≡ Some n
number_there base n low high fits =
    let is = numeral base n low high fits in
    let ds = digits base false n in
    let value : value_in base ds ≡ n = value_is base ds ∙ is.1 in
    sym (is_number base ds is.0.0 (are_valid base ds is.0.1) (omega (arith, value, fits))) ∙ ap Some value

-- decimal digits are read as such: behind the first no `x` stands
no_x : (b : ℕ) → digit_value b < 10 → (b == 120) ≡ false
no_x b here = grind (arith, nat_tests)

and_false : (a b : Bool) → b ≡ false → (a && b) ≡ false
and_false true b is = is
and_false false b is = refl

as_decimal : (ds : List ℕ) → AllDigits 10 ds → number_of ds ≡ number_in 10 ds
as_decimal [] all = refl
as_decimal (a ∷ []) all = refl
as_decimal (a ∷ (b ∷ ds)) all = rw (and_false (a == 48) (b == 120) (no_x b all.1.0)) refl

pub decimal_read : (n : ℕ) → n < 2 ^ 64 → number_of (decimal n) ≡ Some n
decimal_read n fits = as_decimal (decimal n) (numeral 10 n (omega arith) (omega arith) fits).0.1 ∙ number_there 10 n (omega arith) (omega arith) fits

pub hexadecimal_read : (n : ℕ) → n < 2 ^ 64 → number_of (hexadecimal n) ≡ Some n
hexadecimal_read n fits = number_there 16 n (omega arith) (omega arith) fits

-- a word of another length is none of a name's
false_by : (test : Bool) → (test ≡ true → ⊥) → test ≡ false
false_by true never = absurd (never refl)
false_by false never = refl

pub unlike : (guid : Guid) (name : List ℕ) → (length name ≡ 36 → ⊥) → bytes_eq (guid_text guid) name ≡ false
unlike guid name other = false_by (bytes_eq (guid_text guid) name) (λ test. other (ap length (sym ((same (guid_text guid) name).0 test)) ∙ guid_long guid))

pub no_keyword : (guid : Guid) (name : List ℕ) → (length name ≡ 36 → ⊥) → is_keyword (guid_text guid) name ≡ false
no_keyword guid name other =
    let text = map to_ascii_lowercase (guid_text guid) in
    let lower = map to_ascii_lowercase name in
    false_by (bytes_eq text lower) (λ test. other (sym (length-map name to_ascii_lowercase) ∙ ap length (sym ((same text lower).0 test)) ∙ length-map (guid_text guid) to_ascii_lowercase ∙ guid_long guid))

spelled : (guid : Guid) → IsGuid guid → guid_spelled (guid_text guid) ≡ Some guid
spelled guid is =
    let bare : unbraced (guid_text guid) ≡ guid_text guid = rw (no_brace guid, and_false (nat_lt 1 (length (guid_text guid))) false refl) refl in
    ap (λ text. option_map (λ bytes. let g : Guid = record { 0 = bytes } in g) text) (guid_back (unbraced (guid_text guid)) guid is bare)

pub guid_read : (guid : Guid) → IsGuid guid → guid_of (guid_text guid) ≡ Some guid
unfolding guid_of
guid_read guid is =
    rw (
      unlike guid (codes "pei-apriori") (λ e. absurd (omega (arith, e))),
      unlike guid (codes "dxe-apriori") (λ e. absurd (omega (arith, e))),
      unlike guid (codes "volume-info-ppi") (λ e. absurd (omega (arith, e))),
      unlike guid (codes "memory-ppi") (λ e. absurd (omega (arith, e))),
      unlike guid (codes "dxe-ipl-ppi") (λ e. absurd (omega (arith, e))),
      unlike guid (codes "ffs2") (λ e. absurd (omega (arith, e))),
      unlike guid (codes "ffs3") (λ e. absurd (omega (arith, e))),
    ) (spelled guid is)
