-- Each word of a field is one value's.
use Rattle.std.proofs.Common.{◌≡◌, ◌<◌, ◌≤◌, ◌^◌, ◌+◌, ◌*◌, ℕ, List, [], ◌∷◌, Option, Some, None, Bool, true, false, cond, eqb, Ok, refl, sym, ap, ◌∙◌, arith, length, decimal, get_or, drop, codes, eqb-true}
use Rattle.std.specs.{Fmt.digits, Str.Parse.digits_value, Str.Parse.AllDigits}
use Rattle.std.proofs.{lemmas.Fmt.decimal_injective, lemmas.Str.Parse.digit_from_value}
use Rattle.hex.specs.Hex.{IsBytes, encode_lower, lower_digits, decode_of}
use Rattle.hex.proofs.HexLemmas.{decode_of-encode_lower, length-encode_with}
use Rattle.uuid.proofs.TextLemmas.{by_index_length}
use Rattle.pi_base.specs.{declared.guid.Guid.Guid, WordText.hexadecimal, WordText.guid_text}
use Rattle.store_model.specs.declared.state.TheConstants.{CORE}
use Rattle.boot_model.specs.declared.line.ExpressionWord.{ExpressionWord}
use Rattle.boot_model.specs.declared.line.ExpressionWord.TheVariants as V
use Rattle.boot_model.specs.Text.{by_text, rank_text, name_text, expression_text, bytes_text}
use Rattle.line_words.specs.PrintedWords.{IsGuid}
use Rattle.trace_reader.specs.Readable.{IsRank, IsName, IsExpression}
use Rattle.line_words.proofs.{Numerals.numeral, GuidWords.guid_back}
use Rattle.trace_reader.proofs.HexWords.{one_byte}

pub wide_one : (m n : ℕ) → m < 2 ^ 64 → n < 2 ^ 64 → decimal m ≡ decimal n → m ≡ n
wide_one m n fits fit is = decimal_injective m n fits fit is

pub decimal_one : (m n : ℕ) → m < 2 ^ 32 → n < 2 ^ 32 → decimal m ≡ decimal n → m ≡ n
decimal_one m n fits fit is = wide_one m n (omega arith) (omega arith) is

pub hexadecimal_one : (m n : ℕ) → m < 2 ^ 64 → n < 2 ^ 64 → hexadecimal m ≡ hexadecimal n → m ≡ n
hexadecimal_one m n fits fit is =
    let same : digits 16 false m ≡ digits 16 false n = ap (drop 2) is in
    sym (numeral 16 m (omega arith) (omega arith) fits).1 ∙ ap (digits_value 16) same ∙ (numeral 16 n (omega arith) (omega arith) fit).1

abbrev guid_with : List ℕ → Guid
guid_with bytes = record { 0 = bytes }

pub guid_one : (a b : Guid) → IsGuid a → IsGuid b → guid_text a ≡ guid_text b → a ≡ b
guid_one a b fits fit is =
    let bytes : Some a.0 ≡ Some b.0 = sym (guid_back (guid_text a) a fits refl) ∙ guid_back (guid_text a) b fit is in
    let same : a.0 ≡ b.0 = cc in
    ap guid_with same

-- a number begins with a digit
digit_first : (n first : ℕ) (rest : List ℕ) → n < 2 ^ 64 → decimal n ≡ first ∷ rest → (48 ≤ first) × (first ≤ 57)
digit_first n first rest fits is =
    let all : AllDigits 10 (first ∷ rest) = rw is at (numeral 10 n (omega arith) (omega arith) fits).0.1 in
    let range = digit_from_value first all.0 in
    (omega (arith, range.0), omega (arith, range.1))

by_cases : (a b : ℕ) (s t : Bool) → a < 2 ^ 32 → b < 2 ^ 32 → eqb a CORE ≡ s → eqb b CORE ≡ t → cond s (codes "core") (decimal a) ≡ cond t (codes "core") (decimal b) → a ≡ b
by_cases a b true true fits fit x y is = eqb-true a CORE x ∙ sym (eqb-true b CORE y)
by_cases a b true false fits fit x y is = absurd (omega (arith, (digit_first b 99 (111 ∷ 114 ∷ 101 ∷ []) (omega arith) (sym is)).1))
by_cases a b false true fits fit x y is = absurd (omega (arith, (digit_first a 99 (111 ∷ 114 ∷ 101 ∷ []) (omega arith) is).1))
by_cases a b false false fits fit x y is = decimal_one a b fits fit is

pub by_one : (a b : ℕ) → a < 2 ^ 32 → b < 2 ^ 32 → by_text a ≡ by_text b → a ≡ b
by_one a b fits fit is = by_cases a b (eqb a CORE) (eqb b CORE) fits fit refl refl is

pub rank_one : (a b : Option ℕ) → IsRank a → IsRank b → rank_text a ≡ rank_text b → a ≡ b
rank_one None None fits fit is = refl
rank_one None (Some b) fits fit is = absurd (omega (arith, (digit_first b 45 [] (omega (arith, fit)) (sym is)).0))
rank_one (Some a) None fits fit is = absurd (omega (arith, (digit_first a 45 [] (omega (arith, fits)) is).0))
rank_one (Some a) (Some b) fits fit is = ap Some (decimal_one a b fits fit is)

guid_long : (guid : Guid) → length (guid_text guid) ≡ 36
guid_long guid = by_index_length 36 _

pub name_one : (a b : Option Guid) → IsName a → IsName b → name_text a ≡ name_text b → a ≡ b
name_one None None fits fit is = refl
name_one None (Some b) fits fit is = absurd (omega (arith, ap length is, guid_long b))
name_one (Some a) None fits fit is = absurd (omega (arith, ap length is, guid_long a))
name_one (Some a) (Some b) fits fit is = ap Some (guid_one a b fits fit is)

pub encoded_one : (a b : List ℕ) → IsBytes a → IsBytes b → encode_lower a ≡ encode_lower b → a ≡ b
encoded_one a b fits fit is =
    let same : decode_of (encode_lower a) ≡ Ok b = ap decode_of is ∙ decode_of-encode_lower b fit in
    let read = sym (decode_of-encode_lower a fits) ∙ same in
    cc

pub kind_one : (a b : ℕ) → a < 2 ^ 8 → b < 2 ^ 8 → encode_lower (a ∷ []) ≡ encode_lower (b ∷ []) → a ≡ b
kind_one a b fits fit is = ap (λ xs. get_or xs 0 0) (encoded_one (a ∷ []) (b ∷ []) (one_byte a fits) (one_byte b fit) is)

encoded_long : (bytes : List ℕ) → length (encode_lower bytes) ≡ 2 * length bytes
encoded_long bytes = length-encode_with lower_digits bytes

pub bytes_one : (a b : List ℕ) → IsBytes a → IsBytes b → bytes_text a ≡ bytes_text b → a ≡ b
bytes_one [] [] fits fit is = refl
bytes_one [] (y ∷ b) fits fit is = absurd (omega (arith, ap length is, encoded_long (y ∷ b)))
bytes_one (x ∷ a) [] fits fit is = absurd (omega (arith, ap length is, encoded_long (x ∷ a)))
bytes_one (x ∷ a) (y ∷ b) fits fit is = encoded_one (x ∷ a) (y ∷ b) fits fit is

-- the first two bytes tell what an expression is
tag : List ℕ → ℕ
tag word = get_or word 0 0 * 256 + get_or word 1 0

pub expression_one : (a b : ExpressionWord) → IsExpression a → IsExpression b → expression_text a ≡ expression_text b → a ≡ b
unfolding expression_text tag
expression_one V.NoPart V.NoPart fits fit is = refl
expression_one V.Absent V.Absent fits fit is = refl
expression_one (V.Malformed at) (V.Malformed other) fits fit is = ap V.Malformed (decimal_one at other fits fit (ap (drop 10) is))
expression_one V.Tree V.Tree fits fit is = refl
expression_one V.Sor V.Sor fits fit is = refl
expression_one (V.Before name) (V.Before other) fits fit is = ap V.Before (guid_one name other fits fit (ap (drop 7) is))
expression_one (V.After name) (V.After other) fits fit is = ap V.After (guid_one name other fits fit (ap (drop 6) is))
expression_one _ _ fits fit is = absurd (omega (arith, ap tag is))
