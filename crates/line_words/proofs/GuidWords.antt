-- The text of a GUID: its characters, and reading it.
use Rattle.std.proofs.Common.{◌≡◌, ◌<◌, ◌/◌, ◌%◌, ◌&&◌, ℕ, zero, suc, Bool, true, false, eqb, cond, List, [], ◌∷◌, length, Some, None, option_map, refl, sym, ap, ◌∙◌, arith, inl, All, nat_lt, slice_index, length-append}
use Rattle.std.specs.List.{list_all}
use Rattle.std.proofs.{lemmas.Bool.Decides.nat_tests, lemmas.List.Elements.All-from_recursion, lemmas.List.Folds.list_all-append}
use Rattle.uuid.specs.Text.{by_index, is_hyphen_place, hex_digit, nibble, digit_place, hyphenated_text, lower}
use Rattle.uuid.specs.Parts.{swap_fields}
use Rattle.uuid.proofs.RoundTrips.{parses_hyphenated_text, swap_twice}
use Rattle.hex.specs.Hex.{IsBytes}
use Rattle.pi_base.specs.{declared.guid.Guid.Guid, GuidText.guid_of_text, WordText.guid_text}
use Rattle.line_words.specs.PrintedWords.{IsGuid}

-- a digit or a hyphen
abbrev pub is_guid_char : ℕ → Bool
is_guid_char b = nat_lt 40 b && nat_lt b 103

digit_char : (d : ℕ) → d < 16 → is_guid_char (hex_digit 97 d) ≡ true
digit_char d below = grind (arith, nat_tests)

half_below : (t : Bool) (a b : ℕ) → cond t (a % 16) (b % 16) < 16
half_below true a b = omega arith
half_below false a b = omega arith

place_char : (hyphen : Bool) (d : ℕ) → d < 16 → is_guid_char (cond hyphen 45 (hex_digit 97 d)) ≡ true
place_char true d below = refl
place_char false d below = digit_char d below

all_chars : (n : ℕ) (f : ℕ → ℕ) → ((k : ℕ) → is_guid_char (f k) ≡ true) → list_all is_guid_char (by_index n f) ≡ true
unfolding by_index
all_chars zero f each = refl
all_chars (suc n) f each = list_all-append is_guid_char (by_index n f) (f n ∷ []) ∙ rw (all_chars n f each, each n) refl

long_index : (n : ℕ) (f : ℕ → ℕ) → length (by_index n f) ≡ n
unfolding by_index
long_index zero f = refl
long_index (suc n) f = length-append (by_index n f) (f n ∷ []) ∙ rw (long_index n f) (omega arith)

pub guid_chars : (guid : Guid) → list_all is_guid_char (guid_text guid) ≡ true
guid_chars guid = all_chars 36 (λ k. cond (is_hyphen_place k) 45 (hex_digit 97 (nibble (swap_fields guid.0) (digit_place k))))
    (λ k. place_char (is_hyphen_place k) (nibble (swap_fields guid.0) (digit_place k)) (half_below (eqb (digit_place k % 2) 0) (slice_index (swap_fields guid.0) (digit_place k / 2) / 16) (slice_index (swap_fields guid.0) (digit_place k / 2))))

pub guid_long : (guid : Guid) → length (guid_text guid) ≡ 36
guid_long guid = long_index 36 (λ k. cond (is_hyphen_place k) 45 (hex_digit 97 (nibble (swap_fields guid.0) (digit_place k))))

swapped : (xs : List ℕ) → IsBytes xs → All (λ b. b < 256) (swap_fields xs)
swapped xs fits = All-from_recursion (λ b. b < 256) (swap_fields xs)
    (fits 3, (fits 2, (fits 1, (fits 0, (fits 5, (fits 4, (fits 7, (fits 6, (fits 8, (fits 9, (fits 10, (fits 11, (fits 12, (fits 13, (fits 14, (fits 15, tt))))))))))))))))

-- the text of a GUID is read as it
pub guid_back : (word : List ℕ) (guid : Guid) → IsGuid guid → word ≡ guid_text guid → guid_of_text word ≡ Some guid.0
guid_back word guid is text =
    ap guid_of_text text ∙ ap (option_map swap_fields) (sym (parses_hyphenated_text lower (swap_fields guid.0) (inl refl) refl (swapped guid.0 is.1)))
    ∙ ap Some (swap_twice guid.0 is.0)

pub guid_not_none : (word : List ℕ) (guid : Guid) → IsGuid guid → word ≡ guid_text guid → None ≡ guid_of_text word → ⊥
guid_not_none word guid is text none =
    let never : None ≡ Some guid.0 = none ∙ guid_back word guid is text in
    cc

pub guid_same : (word : List ℕ) (guid read : Guid) → IsGuid guid → word ≡ guid_text guid → Some read.0 ≡ guid_of_text word → guid_text read ≡ word
guid_same word guid read is text there =
    let some : Some read.0 ≡ Some guid.0 = there ∙ guid_back word guid is text in
    let bytes : read.0 ≡ guid.0 = cc in
    ap (λ xs. hyphenated_text lower (swap_fields xs)) bytes ∙ sym text
