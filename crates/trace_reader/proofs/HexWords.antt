-- Words of bytes, decoded.
use Rattle.std.proofs.Common.{◌≡◌, ◌<◌, ◌^◌, ℕ, zero, suc, List, [], ◌∷◌, Result, Ok, Err, Bool, true, false, sym, ap, ◌∙◌, arith, length, ◌/◌, Option, Some, None, Decides, MatchOption, MatchResult}
use Rattle.line_words.specs.PrintedWords.{Finds}
use Rattle.hex.specs.Hex.{IsBytes, encode_lower, decode_sized, lower_digits}
use Rattle.hex.specs.declared.error.FromHexError.{FromHexError}
use Rattle.hex.proofs.HexLemmas.{decode_sized-encode_lower, length-encode_with}

pub one_byte : (byte : ℕ) → byte < 2 ^ 8 → IsBytes (byte ∷ [])
one_byte byte fits zero = fits
one_byte byte fits (suc k) = omega arith

-- a word of bytes is decoded to them
pub decoded : (word bytes out : List ℕ) (n : ℕ) (r : Result (Unit {0}) FromHexError)
    → MatchResult (decode_sized word n) (λ there. (r ≡ Ok tt) × (out ≡ there)) (λ e. r ≡ Err e)
    → length bytes ≡ n → IsBytes bytes → word ≡ encode_lower bytes → (r ≡ Ok tt) × (out ≡ bytes)
decoded word bytes out n r answer len fits is =
    let there : decode_sized word n ≡ Ok bytes = rw is (decode_sized-encode_lower bytes n len fits) in
    rw there at answer

pub not_refused : (word bytes out : List ℕ) (n : ℕ) (r : Result (Unit {0}) FromHexError) (e : FromHexError)
    → MatchResult (decode_sized word n) (λ there. (r ≡ Ok tt) × (out ≡ there)) (λ e. r ≡ Err e)
    → length bytes ≡ n → IsBytes bytes → word ≡ encode_lower bytes → r ≡ Err e → ⊥
not_refused word bytes out n r e answer len fits is refused =
    let read = (decoded word bytes out n r answer len fits is).0 in
    let never : Ok tt ≡ Err e = sym read ∙ refused in
    cc

-- bytes that are printed as the word are what it shows
pub read_back : {A : Type 0} (bytes_of : A → List ℕ) (valid : A → Type 0) (word out : List ℕ) (r : Option A)
    → MatchOption r (word ≡ encode_lower out → ⊥) (λ value. (word ≡ encode_lower out) × (bytes_of value ≡ out) × valid value)
    → ((value : A) → valid value → word ≡ encode_lower (bytes_of value) → out ≡ bytes_of value)
    → Finds (λ value. valid value × (word ≡ encode_lower (bytes_of value))) r
read_back bytes_of valid word out (Some value) answer only = (answer.2, answer.0 ∙ ap encode_lower (sym answer.1))
read_back bytes_of valid word out None none only = λ value is. none (is.1 ∙ ap encode_lower (sym (only value is.0 is.1)))

-- a word of bytes has two digits for each
pub two_digits : (word bytes : List ℕ) → word ≡ encode_lower bytes → length word / 2 ≡ length bytes
two_digits word bytes is = omega (arith, ap length is ∙ length-encode_with lower_digits bytes)

pub not_decided : {P : Type 0} (r : Bool) → Decides r P → r ≡ false → P → ⊥
not_decided r decides other holds =
    let yes : r ≡ true = decides.1 holds in
    cc
