-- Lines that show bytes behind a keyword.
use Rattle.std.proofs.Common.{◌≡◌, ◌++◌, ℕ, List, [], ◌∷◌, flat_map, sym, ap, ◌∙◌, append-nil, arith, length, decimal, ◌<◌, ◌^◌, Option, Some, None, Result, Ok, Err, IfOk, codes, MatchOption}
use Rattle.hex.specs.Hex.{IsBytes, encode_lower}
use Rattle.boot_model.specs.Text.{bytes_text, dash}
use Rattle.line_words.specs.PrintedWords.{Finds}
use Rattle.trace_reader.proofs.Splits.{same_back, behind_is, tail_of}
use Rattle.trace_reader.proofs.PlainWords.{decimal_16_plain}
use Rattle.boot_io.specs.Line.{spaced}

-- one word behind a keyword
pub one_word : (keyword word : List ℕ) → keyword ++ flat_map spaced (word ∷ []) ≡ keyword ++ 32 ∷ word
one_word keyword word = ap (λ rest. keyword ++ 32 ∷ rest) (append-nil word)

-- what a HOB's line shows behind its type
pub body_is : (line word body : List ℕ) (kind other : ℕ) → kind < 2 ^ 16 → other < 2 ^ 16 → line ≡ codes "hob" ++ flat_map spaced (decimal kind ∷ word ∷ [])
    → line ≡ codes "hob" ++ flat_map spaced (decimal other ∷ bytes_text body ∷ []) → word ≡ bytes_text body
body_is line word body kind other fits fit is there =
    let words = tail_of 32 _ _ (behind_is line (codes "hob") (flat_map spaced (decimal kind ∷ word ∷ [])) (flat_map spaced (decimal other ∷ bytes_text body ∷ [])) is there) in
    let rest = tail_of 32 _ _ (same_back (decimal kind) (decimal other) (word ∷ []) (bytes_text body ∷ []) (decimal_16_plain kind fits) (decimal_16_plain other fit) words) in
    sym (append-nil word) ∙ rest ∙ append-nil (bytes_text body)

-- bytes whose word is no dash are some
pub some_shown : (word bytes : List ℕ) → (word ≡ dash → ⊥) → word ≡ bytes_text bytes → (word ≡ encode_lower bytes) × (0 < length bytes)
some_shown word [] other is = absurd (other is)
some_shown word (byte ∷ bytes) other is = (is, omega arith)

-- bytes that are some and are shown are what a word shows
pub bytes_found : (word out : List ℕ) (r : Option (List ℕ)) → (word ≡ dash → ⊥)
    → MatchOption r (word ≡ encode_lower out → 0 < length out → ⊥) (λ same. (word ≡ encode_lower out) × (same ≡ out) × IsBytes out × (0 < length out))
    → ((bytes : List ℕ) → IsBytes bytes → word ≡ encode_lower bytes → out ≡ bytes)
    → Finds (λ bytes. IsBytes bytes × (word ≡ bytes_text bytes)) r
bytes_found word out (Some []) other answer only = absurd (omega (arith, answer.3, ap length answer.1))
bytes_found word out (Some (byte ∷ bytes)) other answer only = (rw answer.1 answer.2, answer.0 ∙ ap encode_lower (sym answer.1))
bytes_found word out None other none only = λ bytes is.
    let some = some_shown word bytes other is.1 in
    let same = only bytes is.0 some.0 in
    none (some.0 ∙ ap encode_lower (sym same)) (rw same some.1)

pub bytes_found_ok : {E : Type 0} (word out : List ℕ) (r : Result (Option (List ℕ)) E) → (word ≡ dash → ⊥)
    → IfOk r (λ found. MatchOption found (word ≡ encode_lower out → 0 < length out → ⊥) (λ same. (word ≡ encode_lower out) × (same ≡ out) × IsBytes out × (0 < length out)))
    → ((bytes : List ℕ) → IsBytes bytes → word ≡ encode_lower bytes → out ≡ bytes)
    → IfOk r (Finds (λ bytes. IsBytes bytes × (word ≡ bytes_text bytes)))
bytes_found_ok word out (Ok found) other answer only = bytes_found word out found other answer only
bytes_found_ok word out (Err e) other answer only = tt
