-- The words of numbers, GUIDs and bytes are plain.
use Rattle.std.proofs.Common.{◌≡◌, ℕ, suc, ◌<◌, ◌/◌, ◌%◌, ◌^◌, true, ltb, List, [], ◌∷◌, refl, arith, decimal, slice_index, nat_lt}
use Rattle.std.specs.List.{list_all}
use Rattle.std.proofs.{lemmas.Bool.and_parts, lemmas.Bool.Decides.nat_tests, lemmas.List.Sums.AllPass-from_list_all}
use Rattle.hex.specs.Hex.{encode_with, encode_lower, lower_digits, IsBytes}
use Rattle.pi_base.specs.{declared.guid.Guid.Guid, WordText.hexadecimal, WordText.guid_text}
use Rattle.line_words.specs.PrintedWords.{IsPlain}
use Rattle.line_words.proofs.{GuidWords.is_guid_char, GuidWords.guid_chars, Numerals.numeral_plain}

pub decimal_plain : (n : ℕ) → n < 2 ^ 64 → IsPlain (decimal n)
decimal_plain n fits = numeral_plain 10 n (omega arith) (omega arith) fits

pub hexadecimal_plain : (n : ℕ) → n < 2 ^ 64 → IsPlain (hexadecimal n)
hexadecimal_plain n fits = numeral_plain 16 n (omega arith) (omega arith) fits

chars_plain : (text : List ℕ) → list_all is_guid_char text ≡ true → IsPlain text
chars_plain [] all = refl
chars_plain (byte ∷ text) all =
    let parts = and_parts (is_guid_char byte) (list_all is_guid_char text) all in
    let high : nat_lt 40 byte ≡ true = (and_parts (nat_lt 40 byte) (nat_lt byte 103) parts.0).0 in
    let above : ltb 32 byte ≡ true = grind (arith, nat_tests) in
    rw above (chars_plain text parts.1)

pub guid_plain : (guid : Guid) → IsPlain (guid_text guid)
guid_plain guid = chars_plain (guid_text guid) (guid_chars guid)

-- a half of a byte
digit_above : (digit : ℕ) → digit < 16 → ltb 32 (slice_index lower_digits digit) ≡ true
digit_above digit below = AllPass-from_list_all (λ b. ltb 32 b) lower_digits refl digit 0 below

pub encoded_plain : (bytes : List ℕ) → IsBytes bytes → IsPlain (encode_lower bytes)
unfolding encode_with
encoded_plain [] fits = refl
encoded_plain (byte ∷ bytes) fits =
    let here : byte < 256 = fits 0 in
    let high = digit_above (byte / 16) (omega arith) in
    let low = digit_above (byte % 16) (omega arith) in
    rw (high, low) (encoded_plain bytes (λ k. fits (suc k)))
