-- What is printed of numbers, GUIDs and bytes are words.
use Rattle.std.proofs.Common.{◌≡◌, ℕ, zero, suc, ◌<◌, ◌≤◌, ◌/◌, ◌%◌, ◌^◌, ◌&&◌, Bool, true, false, eqb, cond, List, [], ◌∷◌, length, refl, ◌∙◌, arith, decimal, slice_index, nat_lt, ◌==◌}
use Rattle.std.specs.{List.list_all, Fmt.digits, Char.digit_value, Str.Parse.AllDigits}
use Rattle.std.proofs.{lemmas.Bool.and_parts, lemmas.Bool.and_from, lemmas.Bool.Decides.nat_tests, lemmas.List.Folds.list_all-append}
use Rattle.std.proofs.lemmas.List.Sums.{AllPass-from_list_all}
use Rattle.uuid.specs.Text.{by_index, is_hyphen_place, hex_digit, nibble, digit_place}
use Rattle.uuid.specs.Parts.{swap_fields}
use Rattle.hex.specs.Hex.{encode_with, encode_lower, lower_digits, IsBytes}
use Rattle.hex.proofs.HexLemmas.{length-encode_with}
use Rattle.pi_base.specs.{declared.guid.Guid.Guid, WordText.hexadecimal, WordText.guid_text}
use Rattle.line_words.proofs.{GuidWords.guid_long, Numerals.numeral}
use Rattle.source_words.proofs.LineWords.{is_clean, IsClean, IsWord}

-- digits
digit_inner : (digit base : ℕ) → base ≤ 16 → digit_value digit < base → is_clean digit ≡ true
digit_inner digit base high here = grind (arith, nat_tests)

digits_inner : (base : ℕ) (ds : List ℕ) → base ≤ 16 → AllDigits base ds → IsClean ds
digits_inner base [] high all = refl
digits_inner base (digit ∷ ds) high all = and_from (is_clean digit) (list_all is_clean ds) (digit_inner digit base high all.0) (digits_inner base ds high all.1)

digits_word : (base n : ℕ) → 2 ≤ base → base ≤ 16 → n < 2 ^ 64 → IsWord (digits base false n)
digits_word base n low high fits = let is = (numeral base n low high fits).0 in (is.0, digits_inner base (digits base false n) high is.1)

pub decimal_word : (n : ℕ) → n < 2 ^ 64 → IsWord (decimal n)
decimal_word n fits = digits_word 10 n (omega arith) (omega arith) fits

pub hexadecimal_word : (n : ℕ) → n < 2 ^ 64 → IsWord (hexadecimal n)
hexadecimal_word n fits = (omega arith, (digits_word 16 n (omega arith) (omega arith) fits).1)

-- a half of a byte
half_inner : (digit : ℕ) → digit < 16 → is_clean (slice_index lower_digits digit) ≡ true
half_inner digit below = AllPass-from_list_all is_clean lower_digits refl digit 0 below

pub encoded_inner : (bytes : List ℕ) → IsBytes bytes → IsClean (encode_lower bytes)
unfolding encode_with
encoded_inner [] fits = refl
encoded_inner (byte ∷ bytes) fits =
    let here : byte < 256 = fits 0 in
    let high = half_inner (byte / 16) (omega arith) in
    let low = half_inner (byte % 16) (omega arith) in
    rw (high, low) (encoded_inner bytes (λ k. fits (suc k)))

pub encoded_word : (bytes : List ℕ) → 0 < length bytes → IsBytes bytes → IsWord (encode_lower bytes)
encoded_word bytes some fits = (omega (arith, length-encode_with lower_digits bytes), encoded_inner bytes fits)

-- a digit or a hyphen
abbrev is_guid_char : ℕ → Bool
is_guid_char b = nat_lt 44 b && nat_lt b 103

digit_char : (d : ℕ) → d < 16 → is_guid_char (hex_digit 97 d) ≡ true
digit_char d below = grind (arith, nat_tests)

half_below : (t : Bool) (a b : ℕ) → cond t (a % 16) (b % 16) < 16
half_below true a b = omega arith
half_below false a b = omega arith

place_char : (hyphen : Bool) (d : ℕ) → d < 16 → is_guid_char (cond hyphen 45 (hex_digit 97 d)) ≡ true
place_char true d below = refl
place_char false d below = digit_char d below

all_chars : (n : ℕ) (f : ℕ → ℕ) → ((k : ℕ) → is_guid_char (f k) ≡ true) → list_all is_guid_char (by_index n f) ≡ true
unfolding by_index
all_chars zero f each = refl
all_chars (suc n) f each = list_all-append is_guid_char (by_index n f) (f n ∷ []) ∙ rw (all_chars n f each, each n) refl

pub guid_chars : (guid : Guid) → list_all is_guid_char (guid_text guid) ≡ true
guid_chars guid = all_chars 36 (λ k. cond (is_hyphen_place k) 45 (hex_digit 97 (nibble (swap_fields guid.0) (digit_place k))))
    (λ k. place_char (is_hyphen_place k) (nibble (swap_fields guid.0) (digit_place k)) (half_below (eqb (digit_place k % 2) 0) (slice_index (swap_fields guid.0) (digit_place k / 2) / 16) (slice_index (swap_fields guid.0) (digit_place k / 2))))

char_inner : (b : ℕ) → is_guid_char b ≡ true → is_clean b ≡ true
char_inner b is = let parts = and_parts (nat_lt 44 b) (nat_lt b 103) is in let above : nat_lt 44 b ≡ true = parts.0 in grind (arith, nat_tests)

chars_inner : (text : List ℕ) → list_all is_guid_char text ≡ true → IsClean text
chars_inner [] all = refl
chars_inner (b ∷ text) all =
    let parts = and_parts (is_guid_char b) (list_all is_guid_char text) all in
    and_from (is_clean b) (list_all is_clean text) (char_inner b parts.0) (chars_inner text parts.1)

pub guid_word : (guid : Guid) → IsWord (guid_text guid)
guid_word guid = (omega (arith, guid_long guid), chars_inner (guid_text guid) (guid_chars guid))

-- such a text does not begin with a brace
first_below : (text : List ℕ) → list_all is_guid_char text ≡ true → 0 < length text → (slice_index text 0 == 123) ≡ false
first_below [] all some = absurd (omega (arith, some))
first_below (b ∷ text) all some =
    let char = (and_parts (is_guid_char b) (list_all is_guid_char text) all).0 in
    let low : nat_lt b 103 ≡ true = (and_parts (nat_lt 44 b) (nat_lt b 103) char).1 in
    grind (arith, nat_tests)

pub no_brace : (guid : Guid) → (slice_index (guid_text guid) 0 == 123) ≡ false
no_brace guid = first_below (guid_text guid) (guid_chars guid) (omega (arith, guid_long guid))
