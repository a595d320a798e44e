-- An action's line has no line feed before its end.
use Rattle.std.proofs.Common.{◌≡◌, ℕ, suc, zero, ◌<◌, ◌≤◌, ◌^◌, ◌&&◌, Bool, true, false, not, eqb, ltb, List, [], ◌∷◌, ◌++◌, map, flat_map, Option, refl, arith, decimal, nat_le, ◌==◌, if◌then◌else◌}
use Rattle.std.specs.List.{list_all, AllByRecursion}
use Rattle.std.proofs.{lemmas.Bool.and_parts, lemmas.Bool.Decides.nat_tests}
use Rattle.hex.specs.Hex.{encode_lower}
use Rattle.pi_base.specs.declared.phase.Phase.{Phase}
use Rattle.act_code.specs.{declared.action.Action.Action, declared.action.GuidArg.GuidArg}
use Rattle.act_code.specs.declared.action.GuidArg.TheVariants.{Inline, Register}
use Rattle.act_code.specs.Format.{Format, Value, is_within, Nothing, Byte, Within, RegisterNumber, BlockNumber, Little, GuidBytes, WordNumber, Counted, Text, Registers, Descriptor, HobBody, Pair}
use Rattle.act_code.specs.Table.{name_of, format_of, code_of_action, operands}
use Rattle.asm_text.specs.ActionText.{small_number, words_of, spaced, operand_words, action_text, kind_word as shown_kind, guid_words, last_words}
use Rattle.line_words.specs.PrintedWords.{Lacks, IsPlain}
use Rattle.line_words.proofs.LineFeeds.{both_lack}
use Rattle.line_words.proofs.PlainWords.{decimal_plain, hexadecimal_plain, guid_plain, encoded_plain}
use Rattle.pi_base.specs.WordText.{hexadecimal, guid_text, word_text}
use Rattle.asm_text.specs.{Numerals.register, OperandReading.small_word}
use Rattle.asm_text.proofs.{PlainWords.register_plain, PlainWords.status_plain, WordLaws.is_most, GoodOperands.readable}
use Rattle.asm_text.proofs.Readables.{IsReadable, IsReadableArg, IsReadableLast, is_open, is_known, Shows, most_of, small_shows, formats_known}
use Rattle.asm_text.proofs.ActionLines.{IsGoodAction, good_operands, name_plain}

pub plain_lacks : (word : List ℕ) → IsPlain word → Lacks 10 word
plain_lacks [] plain = refl
plain_lacks (byte ∷ word) plain =
    let parts = and_parts (ltb 32 byte) (list_all (λ b. ltb 32 b) word) plain in
    let high : ltb 32 byte ≡ true = parts.0 in
    let other : eqb byte 10 ≡ false = grind (arith, nat_tests) in
    rw other (plain_lacks word parts.1)

printable_lacks : (text : List ℕ) → list_all (is_within 32 126) text ≡ true → Lacks 10 text
printable_lacks [] printable = refl
printable_lacks (byte ∷ text) printable =
    let parts = and_parts (is_within 32 126 byte) (list_all (is_within 32 126) text) printable in
    let high : nat_le 32 byte ≡ true = (and_parts (nat_le 32 byte) (nat_le byte 126) parts.0).0 in
    let other : eqb byte 10 ≡ false = grind (arith, nat_tests) in
    rw other (printable_lacks text parts.1)

spaced_lack : (words : List (List ℕ)) → AllByRecursion (Lacks 10) words → Lacks 10 (flat_map spaced words)
spaced_lack [] all = refl
spaced_lack (word ∷ words) all = both_lack word (flat_map spaced words) all.0 (spaced_lack words all.1)

pub all_both : (xs ys : List (List ℕ)) → AllByRecursion (Lacks 10) xs → AllByRecursion (Lacks 10) ys → AllByRecursion (Lacks 10) (xs ++ ys)
all_both [] ys a b = b
all_both (x ∷ xs) ys a b = (a.0, all_both xs ys a.1 b)

decimal_lacks : (n : ℕ) → n < 2 ^ 64 → Lacks 10 (decimal n)
decimal_lacks n fits = plain_lacks (decimal n) (decimal_plain n fits)

little_lacks : (test : Bool) (n : ℕ) → n < 2 ^ 64 → Lacks 10 (if test then decimal n else hexadecimal n)
little_lacks true n fits = decimal_lacks n fits
little_lacks false n fits = plain_lacks (hexadecimal n) (hexadecimal_plain n fits)

registers_lack : (list : List ℕ) → AllByRecursion (λ r. r < 16) list → AllByRecursion (Lacks 10) (map register list)
registers_lack [] small = tt
registers_lack (r ∷ list) small = (plain_lacks (register r) (register_plain r small.0), registers_lack list small.1)

kind_lacks : (kind : ℕ) → kind < 3 → Lacks 10 (shown_kind kind)
kind_lacks zero few = refl
kind_lacks (suc zero) few = refl
kind_lacks (suc (suc zero)) few = refl
kind_lacks (suc (suc (suc kind))) few = absurd (omega arith)

arg_lacks : (arg : GuidArg) → IsReadableArg arg → AllByRecursion (Lacks 10) (guid_words arg)
arg_lacks (Inline guid) is = (plain_lacks (guid_text guid) (guid_plain guid), tt)
arg_lacks (Register v) is = (refl, (plain_lacks (register v) (register_plain v is), tt))

last_lacks : (kind arg : ℕ) → IsReadableLast kind arg → AllByRecursion (Lacks 10) (last_words kind arg)
last_lacks zero arg is = (plain_lacks (register arg) (register_plain arg is), tt)
last_lacks (suc kind) arg is =
    let other : eqb (suc kind) 0 ≡ false = grind (arith, nat_tests) in
    rw other (refl, (decimal_lacks arg (omega (arith, is)), tt))

words_lack : (shown : ℕ → List ℕ) (small : List ℕ → Option ℕ) (most : ℕ) → Shows shown small most → (format : Format) (value : Value format) → is_known most format ≡ true → IsReadable format value
    → AllByRecursion (Lacks 10) (words_of shown format value)
words_lack shown small most laws Nothing value known is = tt
words_lack shown small most laws Byte value known is = (decimal_lacks value (omega arith), tt)
words_lack shown small most laws (Within low high) value known is =
    let few : value ≤ most = let a = is_most value high (and_parts (nat_le low value) (nat_le value high) is).1 in let b = is_most high most known in omega arith in
    (plain_lacks (shown value) (laws.plain value few), tt)
words_lack shown small most laws RegisterNumber value known is = (plain_lacks (register value) (register_plain value is), tt)
words_lack shown small most laws BlockNumber value known is = (refl, (decimal_lacks value (omega arith), tt))
words_lack shown small most laws (Little width) value known is =
    let fits : value < 2 ^ 64 = let a = is_most (256 ^ width) (2 ^ 64) known in omega arith in
    (little_lacks (width == 2) value fits, tt)
words_lack shown small most laws GuidBytes value known is = (plain_lacks (guid_text value) (guid_plain value), tt)
words_lack shown small most laws WordNumber value known is = (plain_lacks (word_text value) (status_plain value), tt)
words_lack shown small most laws Counted value known is = (plain_lacks (encode_lower value) (encoded_plain value is.1), tt)
words_lack shown small most laws Text value known is = (printable_lacks value is.1, tt)
words_lack shown small most laws Registers value known is = registers_lack value is.1
words_lack shown small most laws Descriptor value known is =
    (kind_lacks value.0 is.0, all_both (guid_words value.1) (last_words value.0 value.2) (arg_lacks value.1 is.1) (last_lacks value.0 value.2 is.2))
words_lack shown small most laws HobBody value known is = (decimal_lacks value.0 (omega (arith, is.0)), (plain_lacks (encode_lower value.1) (encoded_plain value.1 is.2), tt))
words_lack shown small most laws (Pair first second) value known is =
    let parts = and_parts (not (is_open first)) (is_known most first && is_known most second) known in
    let each = and_parts (is_known most first) (is_known most second) parts.1 in
    all_both (words_of shown first value.0) (words_of shown second value.1) (words_lack shown small most laws first value.0 each.0 is.0) (words_lack shown small most laws second value.1 each.1 is.1)

pub action_lacks : (phase : Phase) (a : Action) → IsGoodAction phase a → Lacks 10 (action_text a)
action_lacks phase a is =
    let c = code_of_action a in
    let words = words_lack (small_number c) (small_word c) (most_of c) (small_shows c) (format_of c) (operands a) (formats_known c) (readable (format_of c) (operands a) (good_operands phase a is)) in
    both_lack (name_of c) (flat_map spaced (operand_words a)) (plain_lacks (name_of c) (name_plain c)) (spaced_lack (operand_words a) words)
