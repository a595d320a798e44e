-- The values of operands that a line can show, and how small numbers are shown.
use Rattle.std.proofs.Common.{◌≡◌, ℕ, ◌<◌, ◌≤◌, ◌^◌, ◌&&◌, Bool, true, false, List, length, Option, Some, refl, arith, decimal, eqb, nat_le, not, codes}
use Rattle.std.proofs.lemmas.Bool.Decides.{nat_tests}
use Rattle.std.specs.{Prelude.⊤, List.list_all, List.AllByRecursion}
use Rattle.hex.specs.Hex.{IsBytes}
use Rattle.act_code.specs.declared.action.GuidArg.{GuidArg}
use Rattle.act_code.specs.declared.action.GuidArg.TheVariants.{Inline, Register}
use Rattle.act_code.specs.{declared.code.Code.Code, Table.format_of}
use Rattle.act_code.specs.declared.code.Code.TheVariants as code
use Rattle.act_code.specs.Format.{Format, Value, is_within, is_hob, Nothing, Byte, Within, RegisterNumber, BlockNumber, Little, GuidBytes, WordNumber, Counted, Text, Registers, Descriptor, HobBody, Pair}
use Rattle.asm_text.specs.{ActionText.small_number, OperandReading.small_word, WordReading.number_word, WordReading.choice_word}
use Rattle.line_words.specs.PrintedWords.{IsPlain, IsGuid}
use Rattle.line_words.proofs.PlainWords.{decimal_plain}
use Rattle.asm_text.proofs.WordLaws.{number_there, number_is, choice_there, choice_is, either_of}

abbrev pub IsReadableArg : GuidArg → Type 0
IsReadableArg (Inline guid) = IsGuid guid
IsReadableArg (Register v) = v < 16

abbrev pub IsReadableLast : ℕ → ℕ → Type 0
IsReadableLast ℕ.zero arg = arg < 16
IsReadableLast (ℕ.suc kind) arg = arg < 64

-- a line can show the value
abbrev pub IsReadable : (format : Format) → Value format → Type 0
IsReadable Nothing value = ⊤
IsReadable Byte value = value < 256
IsReadable (Within low high) value = is_within low high value ≡ true
IsReadable RegisterNumber value = value < 16
IsReadable BlockNumber value = value < 64
IsReadable (Little width) value = value < 256 ^ width
IsReadable GuidBytes value = IsGuid value
IsReadable WordNumber value = ⊤
IsReadable Counted value = (is_within 1 64 (length value) ≡ true) × IsBytes value
IsReadable Text value = (is_within 1 64 (length value) ≡ true) × (list_all (is_within 32 126) value ≡ true)
IsReadable Registers value = (is_within 1 8 (length value) ≡ true) × AllByRecursion (λ r. r < 16) value
IsReadable Descriptor value = (value.0 < 3) × IsReadableArg value.1 × IsReadableLast value.0 value.2
IsReadable HobBody value = (value.0 < 256) × (is_hob value.0 (length value.1) ≡ true) × IsBytes value.1
IsReadable (Pair first second) value = IsReadable first value.0 × IsReadable second value.1

-- operands that go on to the end of the line
abbrev pub is_open : Format → Bool
is_open Text = true
is_open Registers = true
is_open (Pair first second) = is_open second
is_open _ = false

-- a format whose numbers are not too large, and in which only the last operand goes on to the end
abbrev pub is_known : ℕ → Format → Bool
is_known most (Within low high) = nat_le high most
is_known most (Little width) = nat_le (256 ^ width) (2 ^ 64)
is_known most (Pair first second) = not (is_open first) && (is_known most first && is_known most second)
is_known most _ = true

-- how small numbers are shown and read
pub record Shows (shown : ℕ → List ℕ) (small : List ℕ → Option ℕ) (most : ℕ) : Type 0 where
  pub plain : (n : ℕ) → n ≤ most → IsPlain (shown n)
  pub there : (n : ℕ) → n ≤ most → small (shown n) ≡ Some n
  pub is : (word : List ℕ) (n : ℕ) → small word ≡ Some n → word ≡ shown n

pub decimal_shows : Shows decimal (number_word 10) 255
decimal_shows = record {
  plain = λ n few. decimal_plain n (omega arith);
  there = λ n few. number_there 10 n (omega arith) (omega arith) (omega arith);
  is = λ word n e. (number_is 10 n word e).1;
}

either_plain : (zero one : List ℕ) (n : ℕ) → IsPlain zero → IsPlain one → IsPlain (either_of zero one n)
either_plain zero one ℕ.zero a b = a
either_plain zero one (ℕ.suc n) a b = let other : eqb (ℕ.suc n) 0 ≡ false = grind (arith, nat_tests) in rw other b

at_most_one : (n : ℕ) → n ≤ 1 → is_within 0 1 n ≡ true
at_most_one ℕ.zero few = refl
at_most_one (ℕ.suc ℕ.zero) few = refl
at_most_one (ℕ.suc (ℕ.suc n)) few = absurd (omega arith)

get_shows : Shows (either_of (codes "get") (codes "set")) (choice_word (codes "get") (codes "set")) 1
get_shows = record {
  plain = λ n few. either_plain (codes "get") (codes "set") n refl refl;
  there = λ n few. choice_there (codes "get") (codes "set") n refl (at_most_one n few);
  is = λ word n e. choice_is (codes "get") (codes "set") word n e;
}

new_shows : Shows (either_of (codes "new") (codes "on")) (choice_word (codes "new") (codes "on")) 1
new_shows = record {
  plain = λ n few. either_plain (codes "new") (codes "on") n refl refl;
  there = λ n few. choice_there (codes "new") (codes "on") n refl (at_most_one n few);
  is = λ word n e. choice_is (codes "new") (codes "on") word n e;
}

abbrev pub most_of : Code → ℕ
most_of code.BootMode = 1
most_of code.DxeInstall = 1
most_of _ = 255

pub small_shows : (c : Code) → Shows (small_number c) (small_word c) (most_of c)
small_shows code.BootMode = get_shows
small_shows code.DxeInstall = new_shows
small_shows _ = decimal_shows

pub formats_known : (c : Code) → is_known (most_of c) (format_of c) ≡ true
formats_known code.Set = refl
formats_known _ = refl
