-- The words of fields are plain.
use Rattle.std.proofs.Common.{◌≡◌, ◌<◌, ◌^◌, ℕ, Bool, true, false, eqb, cond, List, [], ◌∷◌, Option, Some, None, refl, arith, decimal}
use Rattle.std.proofs.lemmas.Bool.Decides.{nat_tests}
use Rattle.hex.specs.Hex.{encode_lower}
use Rattle.pi_base.specs.declared.guid.Guid.{Guid}
use Rattle.boot_model.specs.declared.line.ExpressionWord.{ExpressionWord}
use Rattle.boot_model.specs.declared.line.ExpressionWord.TheVariants as V
use Rattle.boot_model.specs.Text.{by_text, rank_text, name_text, expression_text}
use Rattle.store_model.specs.declared.state.TheConstants.{CORE}
use Rattle.line_words.specs.PrintedWords.{IsPlain}
use Rattle.trace_reader.specs.Readable.{IsRank, IsName, IsExpression, IsShown}
use Rattle.line_words.proofs.PlainWords.{decimal_plain, guid_plain, encoded_plain}
use Rattle.trace_reader.proofs.HexWords.{one_byte}

pub decimal_32_plain : (n : ℕ) → n < 2 ^ 32 → IsPlain (decimal n)
decimal_32_plain n fits = decimal_plain n (omega arith)

pub decimal_16_plain : (n : ℕ) → n < 2 ^ 16 → IsPlain (decimal n)
decimal_16_plain n fits = decimal_plain n (omega arith)

-- the core has a word, and a module its number
pub core_is : by_text CORE ≡ 99 ∷ 111 ∷ 114 ∷ 101 ∷ []
core_is = refl

pub module_is : (by : ℕ) → by < CORE → by_text by ≡ decimal by
module_is by below = let other : eqb by CORE ≡ false = grind (arith, nat_tests) in rw other refl

either_plain : (test : Bool) (a b : List ℕ) → IsPlain a → IsPlain b → IsPlain (cond test a b)
either_plain true a b plain others = plain
either_plain false a b plain others = others

pub by_plain : (by : ℕ) → by < 2 ^ 32 → IsPlain (by_text by)
by_plain by fits = either_plain (eqb by CORE) (99 ∷ 111 ∷ 114 ∷ 101 ∷ []) (decimal by) refl (decimal_32_plain by fits)

pub rank_plain : (rank : Option ℕ) → IsRank rank → IsPlain (rank_text rank)
rank_plain None fits = refl
rank_plain (Some rank) fits = decimal_32_plain rank fits

pub name_plain : (name : Option Guid) → IsName name → IsPlain (name_text name)
name_plain None fits = refl
name_plain (Some name) fits = guid_plain name

pub expression_plain : (expression : ExpressionWord) → IsExpression expression → IsPlain (expression_text expression)
unfolding expression_text
expression_plain V.NoPart fits = refl
expression_plain V.Absent fits = refl
expression_plain (V.Malformed at) fits = decimal_32_plain at fits
expression_plain V.Tree fits = refl
expression_plain V.Sor fits = refl
expression_plain (V.Before name) fits = guid_plain name
expression_plain (V.After name) fits = guid_plain name

pub kind_plain : (kind : ℕ) → kind < 2 ^ 8 → IsPlain (encode_lower (kind ∷ []))
kind_plain kind fits = encoded_plain (kind ∷ []) (one_byte kind fits)

pub shown_plain : (bytes : List ℕ) → IsShown bytes → IsPlain (encode_lower bytes)
shown_plain bytes shown = encoded_plain bytes shown.2
