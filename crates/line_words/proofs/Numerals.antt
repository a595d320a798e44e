-- The digits of a number, read.
use Rattle.std.proofs.Common.{◌≡◌, ◌≢◌, ℕ, ◌<◌, ◌≤◌, ◌^◌, true, false, ltb, List, [], ◌∷◌, refl, ap, ◌∙◌, arith, get_or, Result, Ok, Err, IsAscii, IsUtf8}
use Rattle.std.specs.{Char.digit_value, Fmt.digits}
use Rattle.std.proofs.{Math.Nat.pow-le-pow_left, lemmas.Str.IsUtf8-from_ascii, lemmas.Fmt.digits_is_IsNumeral}
use Rattle.std.specs.Str.Parse.{AllDigits, IsNumeral, digits_value, ParsesUnsigned, without_leading_plus}
use Rattle.std.proofs.{lemmas.Str.Ascii.IsAscii-nil, lemmas.Str.Ascii.IsAscii-cons, lemmas.Str.Parse.without_leading_plus_none}
use Rattle.std.proofs.lemmas.Bool.Decides.{nat_tests}
use Rattle.line_words.specs.PrintedWords.{IsPlain}

-- a digit is above the signs and ASCII
digit_byte : (digit base : ℕ) → base ≤ 16 → digit_value digit < base → (44 < digit) × (digit < 128)
digit_byte digit base high here = grind (arith, nat_tests)

pub digits_plain : (base : ℕ) (ds : List ℕ) → base ≤ 16 → AllDigits base ds → IsPlain ds
digits_plain base [] high all = refl
digits_plain base (digit ∷ ds) high all =
    let here = digit_byte digit base high all.0 in
    let above : ltb 32 digit ≡ true = grind (arith, nat_tests, here.0) in
    rw above (digits_plain base ds high all.1)

pub digits_ascii : (base : ℕ) (ds : List ℕ) → base ≤ 16 → AllDigits base ds → IsAscii ds
digits_ascii base [] high all = IsAscii-nil
digits_ascii base (digit ∷ ds) high all = IsAscii-cons digit ds (digit_byte digit base high all.0).1 (digits_ascii base ds high all.1)

no_sign : (base : ℕ) (ds : List ℕ) → base ≤ 16 → AllDigits base ds → get_or ds 0 0 ≢ 43
no_sign base [] high all = λ is. absurd (omega arith)
no_sign base (digit ∷ ds) high all = λ is. absurd (omega (arith, (digit_byte digit base high all.0).0))

small : (base n : ℕ) → 2 ≤ base → n < 2 ^ 64 → n < base ^ 64
small base n low fits = omega (arith, pow-le-pow_left low 64)

-- digits of a number are digits, and text
pub numeral : (base n : ℕ) → 2 ≤ base → base ≤ 16 → n < 2 ^ 64 → IsNumeral base (digits base false n) × (digits_value base (digits base false n) ≡ n)
numeral base n low high fits = digits_is_IsNumeral base false low high n (small base n low fits)

pub numeral_plain : (base n : ℕ) → 2 ≤ base → base ≤ 16 → n < 2 ^ 64 → IsPlain (digits base false n)
numeral_plain base n low high fits = digits_plain base (digits base false n) high (numeral base n low high fits).0.1

pub numeral_utf8 : (base n : ℕ) (text : List ℕ) → 2 ≤ base → base ≤ 16 → n < 2 ^ 64 → text ≡ digits base false n → IsUtf8 text
numeral_utf8 base n text low high fits is = rw is (IsUtf8-from_ascii _ (digits_ascii base (digits base false n) high (numeral base n low high fits).0.1))

unsigned : (base n : ℕ) (text : List ℕ) → 2 ≤ base → base ≤ 16 → n < 2 ^ 64 → text ≡ digits base false n → without_leading_plus text ≡ digits base false n
unsigned base n text low high fits is = rw is (without_leading_plus_none (digits base false n) (no_sign base (digits base false n) high (numeral base n low high fits).0.1))

-- what `from_str_radix` makes of the digits of a number
pub numeral_read : {E : Type 0} (base n : ℕ) (text : List ℕ) (r : Result ℕ E) → 2 ≤ base → base ≤ 16 → n < 2 ^ 64 → text ≡ digits base false n → ParsesUnsigned 64 base text r → r ≡ Ok n
numeral_read base n text (Ok m) low high fits is parses =
    ap Ok (parses.1 ∙ ap (digits_value base) (unsigned base n text low high fits is) ∙ (numeral base n low high fits).1)
numeral_read base n text (Err e) low high fits is parses =
    let there = numeral base n low high fits in
    let value : digits_value base (digits base false n) < 2 ^ 64 = omega (arith, there.1) in
    absurd (parses (rw (unsigned base n text low high fits is) (there.0, value)))
