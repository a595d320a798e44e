-- Operands are read as the values that they show, and as no others.
use Rattle.std.proofs.Common.{◌≡◌, ℕ, suc, zero, ◌<◌, ◌≤◌, ◌^◌, ◌&&◌, Bool, true, false, eqb, ltb, List, [], ◌∷◌, ◌++◌, length, map, flat_map, Option, Some, refl, sym, ap, subst, ◌∙◌, arith, decimal, nat_le, nat_lt, bytes_eq, not, ◌==◌, if◌then◌else◌, codes, append-nil}
use Rattle.std.specs.List.{list_all, AllByRecursion}
use Rattle.std.proofs.{lemmas.Bool.and_parts, lemmas.Bool.false≢true, lemmas.Bool.Decides.nat_tests}
use Rattle.hex.specs.Hex.{IsBytes, encode_lower}
use Rattle.pi_base.specs.{declared.guid.Guid.Guid, declared.word.Word.Word}
use Rattle.act_code.specs.declared.action.GuidArg.{GuidArg}
use Rattle.act_code.specs.declared.action.GuidArg.TheVariants.{Inline, Register}
use Rattle.act_code.specs.Format.{Format, Value, is_within, Nothing, Byte, Within, RegisterNumber, BlockNumber, Little, GuidBytes, WordNumber, Counted, Text, Registers, Descriptor, HobBody, Pair}
use Rattle.act_code.specs.Reading.{◌>>=◌, only_if}
use Rattle.asm_text.specs.ActionText.{spaced, words_of, kind_word as shown_kind, guid_words, last_words, block_words}
use Rattle.line_words.specs.PrintedWords.{IsPlain, IsGuid}
use Rattle.line_words.proofs.{Comparisons.same, GuidWords.guid_long}
use Rattle.line_words.proofs.PlainWords.{decimal_plain, hexadecimal_plain, guid_plain, encoded_plain}
use Rattle.pi_base.specs.WordText.{hexadecimal, guid_text, word_text}
use Rattle.asm_text.specs.Numerals.{register}
use Rattle.asm_text.specs.WordReading.{word_at, number_word, hexadecimal_word}
use Rattle.asm_text.specs.OperandReading.{read, register_at, within_at, little_at, guid_at, status_at, bytes_at, counted_at, text_at, registers_within, registers_at, block_at, guid_arg_at, last_at, descriptor_at, hob_at}
use Rattle.asm_text.proofs.{Guids.guid_word_there, PlainWords.register_plain, PlainWords.status_plain}
use Rattle.asm_text.proofs.WordLaws.{number_there, hexadecimal_there, register_there, kind_there, status_there, bytes_there, is_most}
use Rattle.asm_text.proofs.WordSplits.{Stands, stands_too, word_then, spaced_both}
use Rattle.asm_text.proofs.Readables.{IsReadable, IsReadableArg, IsReadableLast, is_open, is_known, Shows}

below : (n m : ℕ) → n < m → ltb n m ≡ true
below n m less = grind (arith, nat_tests)

within : (low high n : ℕ) → low ≤ n → n ≤ high → is_within low high n ≡ true
within low high n least most = grind (arith, nat_tests)

within_high : (low high n : ℕ) → is_within low high n ≡ true → n ≤ high
within_high low high n in_range = is_most n high (and_parts (nat_le low n) (nat_le n high) in_range).1

register_reads : (r : ℕ) (rest : List ℕ) → r < 16 → Stands rest → register_at (flat_map spaced (register r ∷ []) ++ rest) ≡ Some (r, rest)
unfolding register_at
register_reads r rest small stands = rw (word_then (register r) [] rest (register_plain r small) stands, register_there r small) refl

within_reads : (shown : ℕ → List ℕ) (small : List ℕ → Option ℕ) (low high n : ℕ) (rest : List ℕ) → IsPlain (shown n) → small (shown n) ≡ Some n → is_within low high n ≡ true → Stands rest
    → within_at small low high (flat_map spaced (shown n ∷ []) ++ rest) ≡ Some (n, rest)
unfolding within_at
within_reads shown small low high n rest plain there in_range stands = rw (word_then (shown n) [] rest plain stands, there, in_range) refl

decimal_reads : (low high n : ℕ) (rest : List ℕ) → low ≤ n → n ≤ high → n < 2 ^ 64 → Stands rest → within_at (number_word 10) low high (flat_map spaced (decimal n ∷ []) ++ rest) ≡ Some (n, rest)
decimal_reads low high n rest least most fits stands =
    within_reads decimal (number_word 10) low high n rest (decimal_plain n fits) (number_there 10 n (omega arith) (omega arith) fits) (within low high n least most) stands

abbrev sized : ℕ → List ℕ → ℕ → Option (ℕ × List ℕ)
sized limit rest n = only_if (nat_lt n limit) (n, rest)

abbrev little_word : Bool → List ℕ → Option ℕ
little_word test word = if test then number_word 10 word else hexadecimal_word word

little_by : (test : Bool) (limit n : ℕ) (rest : List ℕ) → n < limit → n < 2 ^ 64 → Stands rest
    → (word_at (flat_map spaced ((if test then decimal n else hexadecimal n) ∷ []) ++ rest) >>= λ w. little_word test w.0 >>= sized limit w.1) ≡ Some (n, rest)
little_by true limit n rest less fits stands = rw (word_then (decimal n) [] rest (decimal_plain n fits) stands, number_there 10 n (omega arith) (omega arith) fits, below n limit less) refl
little_by false limit n rest less fits stands = rw (word_then (hexadecimal n) [] rest (hexadecimal_plain n fits) stands, hexadecimal_there n fits, below n limit less) refl

little_reads : (width n : ℕ) (rest : List ℕ) → n < 256 ^ width → n < 2 ^ 64 → Stands rest
    → little_at width (flat_map spaced ((if width == 2 then decimal n else hexadecimal n) ∷ []) ++ rest) ≡ Some (n, rest)
unfolding little_at
little_reads width n rest less fits stands = little_by (width == 2) (256 ^ width) n rest less fits stands

guid_reads : (guid : Guid) (rest : List ℕ) → IsGuid guid → Stands rest → guid_at (flat_map spaced (guid_text guid ∷ []) ++ rest) ≡ Some (guid, rest)
unfolding guid_at
guid_reads guid rest is stands = rw (word_then (guid_text guid) [] rest (guid_plain guid) stands, guid_word_there guid is) refl

status_reads : (status : Word) (rest : List ℕ) → Stands rest → status_at (flat_map spaced (word_text status ∷ []) ++ rest) ≡ Some (status, rest)
unfolding status_at
status_reads status rest stands = rw (word_then (word_text status) [] rest (status_plain status) stands, status_there status) refl

bytes_reads : (bytes rest : List ℕ) → IsBytes bytes → Stands rest → bytes_at (flat_map spaced (encode_lower bytes ∷ []) ++ rest) ≡ Some (bytes, rest)
unfolding bytes_at
bytes_reads bytes rest fits stands = rw (word_then (encode_lower bytes) [] rest (encoded_plain bytes fits) stands, bytes_there bytes fits) refl

counted_reads : (bytes rest : List ℕ) → is_within 1 64 (length bytes) ≡ true → IsBytes bytes → Stands rest → counted_at (flat_map spaced (encode_lower bytes ∷ []) ++ rest) ≡ Some (bytes, rest)
unfolding counted_at
counted_reads bytes rest few fits stands = rw (bytes_reads bytes rest fits stands, few) refl

text_reads : (text : List ℕ) → is_within 1 64 (length text) ≡ true → list_all (is_within 32 126) text ≡ true → text_at (32 ∷ text) ≡ Some (text, [])
unfolding text_at
text_reads text few printable = rw (few, printable) refl

registers_reads_within : (n : ℕ) (list : List ℕ) → length list ≤ n → AllByRecursion (λ r. r < 16) list → registers_within n (flat_map spaced (map register list)) ≡ Some list
unfolding registers_within
registers_reads_within n [] few small = refl
registers_reads_within zero (r ∷ list) few small = absurd (omega arith)
registers_reads_within (suc n) (r ∷ list) few small =
    let first : register_at (flat_map spaced (map register (r ∷ list))) ≡ Some (r, flat_map spaced (map register list)) =
    ap register_at (ap (λ t. t ++ flat_map spaced (map register list)) (sym (append-nil (32 ∷ register r))))
    ∙ register_reads r (flat_map spaced (map register list)) small.0 (subst Stands (append-nil (flat_map spaced (map register list))) (stands_too (map register list) [] tt)) in
    rw (first, registers_reads_within n list (omega arith) small.1) refl

registers_reads : (list : List ℕ) → is_within 1 8 (length list) ≡ true → AllByRecursion (λ r. r < 16) list → registers_at (flat_map spaced (map register list)) ≡ Some (list, [])
unfolding registers_at
registers_reads list few small =
    let parts = and_parts (nat_le 1 (length list)) (nat_le (length list) 8) few in
    let some : nat_lt 0 (length list) ≡ true = below 0 (length list) (is_most 1 (length list) parts.0) in
    rw (registers_reads_within 8 list (is_most (length list) 8 parts.1) small, some) refl

block_reads : (block : ℕ) (rest : List ℕ) → block < 64 → Stands rest → block_at (flat_map spaced (block_words block) ++ rest) ≡ Some (block, rest)
unfolding block_at
block_reads block rest few stands =
    rw (word_then (codes "block") (decimal block ∷ []) rest refl stands, decimal_reads 0 63 block rest (omega arith) (omega arith) (omega arith) stands) refl

false_by : (test : Bool) → (test ≡ true → ⊥) → test ≡ false
false_by true never = absurd (never refl)
false_by false never = refl

not_at : (guid : Guid) → bytes_eq (guid_text guid) (codes "at") ≡ false
not_at guid = false_by (bytes_eq (guid_text guid) (codes "at")) (λ test. absurd (omega (arith, ap length ((same (guid_text guid) (codes "at")).0 test), guid_long guid)))

arg_reads : (arg : GuidArg) (rest : List ℕ) → IsReadableArg arg → Stands rest → guid_arg_at (flat_map spaced (guid_words arg) ++ rest) ≡ Some (arg, rest)
unfolding guid_arg_at
arg_reads (Register v) rest small stands = rw (word_then (codes "at") (register v ∷ []) rest refl stands, register_reads v rest small stands) refl
arg_reads (Inline guid) rest is stands =
    rw (word_then (guid_text guid) [] rest (guid_plain guid) stands, not_at guid, guid_reads guid rest is stands) refl

last_reads : (kind arg : ℕ) (rest : List ℕ) → IsReadableLast kind arg → Stands rest → last_at kind (flat_map spaced (last_words kind arg) ++ rest) ≡ Some (arg, rest)
unfolding last_at
last_reads zero arg rest small stands = register_reads arg rest small stands
last_reads (suc kind) arg rest small stands =
    let other : eqb (suc kind) 0 ≡ false = grind (arith, nat_tests) in
    rw other (block_reads arg rest small stands)

kind_plain : (kind : ℕ) → kind < 3 → IsPlain (shown_kind kind)
kind_plain zero few = refl
kind_plain (suc zero) few = refl
kind_plain (suc (suc zero)) few = refl
kind_plain (suc (suc (suc kind))) few = absurd (omega arith)

descriptor_reads : (value : ℕ × GuidArg × ℕ) (rest : List ℕ) → IsReadable Descriptor value → Stands rest
    → descriptor_at (flat_map spaced (shown_kind value.0 ∷ (guid_words value.1 ++ last_words value.0 value.2)) ++ rest) ≡ Some (value, rest)
unfolding descriptor_at
descriptor_reads value rest is stands =
    rw (
      word_then (shown_kind value.0) (guid_words value.1 ++ last_words value.0 value.2) rest (kind_plain value.0 is.0) stands,
      kind_there value.0 is.0,
      spaced_both (guid_words value.1) (last_words value.0 value.2) rest,
      arg_reads value.1 (flat_map spaced (last_words value.0 value.2) ++ rest) is.1 (stands_too (last_words value.0 value.2) rest stands),
      last_reads value.0 value.2 rest is.2 stands,
    ) refl

hob_reads : (value : ℕ × List ℕ) (rest : List ℕ) → IsReadable HobBody value → Stands rest → hob_at (flat_map spaced (decimal value.0 ∷ encode_lower value.1 ∷ []) ++ rest) ≡ Some (value, rest)
unfolding hob_at
hob_reads value rest is stands =
    rw (
      spaced_both (decimal value.0 ∷ []) (encode_lower value.1 ∷ []) rest,
      decimal_reads 0 255 value.0 (flat_map spaced (encode_lower value.1 ∷ []) ++ rest) (omega arith) (omega arith) (omega arith) (stands_too (encode_lower value.1 ∷ []) rest stands),
      bytes_reads value.1 rest is.2 stands,
      is.1,
    ) refl

-- what may follow operands
pub record Follows (format : Format) (rest : List ℕ) : Type 0 where
  pub stands : Stands rest
  pub last : is_open format ≡ true → rest ≡ []

closed : (test : Bool) → not test ≡ true → test ≡ false
closed true e = cc
closed false e = refl

pub reads : (shown : ℕ → List ℕ) (small : List ℕ → Option ℕ) (most : ℕ) → Shows shown small most → (format : Format) (value : Value format) (rest : List ℕ) → is_known most format ≡ true → IsReadable format value
    → Follows format rest → read small format (flat_map spaced (words_of shown format value) ++ rest) ≡ Some (value, rest)
reads shown small most laws Nothing value rest known is follows = refl
reads shown small most laws Byte value rest known is follows = decimal_reads 0 255 value rest (omega arith) (omega arith) (omega arith) follows.stands
reads shown small most laws (Within low high) value rest known is follows =
    let few : value ≤ most = let a = within_high low high value is in let b = is_most high most known in omega arith in
    within_reads shown small low high value rest (laws.plain value few) (laws.there value few) is follows.stands
reads shown small most laws RegisterNumber value rest known is follows = register_reads value rest is follows.stands
reads shown small most laws BlockNumber value rest known is follows = block_reads value rest is follows.stands
reads shown small most laws (Little width) value rest known is follows =
    let fits : value < 2 ^ 64 = let a = is_most (256 ^ width) (2 ^ 64) known in omega arith in
    little_reads width value rest is fits follows.stands
reads shown small most laws GuidBytes value rest known is follows = guid_reads value rest is follows.stands
reads shown small most laws WordNumber value rest known is follows = status_reads value rest follows.stands
reads shown small most laws Counted value rest known is follows = counted_reads value rest is.0 is.1 follows.stands
reads shown small most laws Text value rest known is follows =
    rw (follows.last refl) (ap text_at (append-nil (32 ∷ (value ++ [])) ∙ append-nil (32 ∷ value)) ∙ text_reads value is.0 is.1)
reads shown small most laws Registers value rest known is follows =
    rw (follows.last refl) (ap registers_at (append-nil (flat_map spaced (map register value))) ∙ registers_reads value is.0 is.1)
reads shown small most laws Descriptor value rest known is follows = descriptor_reads value rest is follows.stands
reads shown small most laws HobBody value rest known is follows = hob_reads value rest is follows.stands
reads shown small most laws (Pair first second) value rest known is follows =
    let parts = and_parts (not (is_open first)) (is_known most first && is_known most second) known in
    let each = and_parts (is_known most first) (is_known most second) parts.1 in
    let behind_first = flat_map spaced (words_of shown second value.1) ++ rest in
    let shut : is_open first ≡ false = closed (is_open first) parts.0 in
    let next : Follows first behind_first = record {
      stands = stands_too (words_of shown second value.1) rest follows.stands;
      last = λ e. absurd (false≢true (sym shut ∙ e));
    } in
    let last : Follows second rest = record { stands = follows.stands; last = follows.last } in
    let a = reads shown small most laws first value.0 behind_first each.0 is.0 next in
    let b = reads shown small most laws second value.1 rest each.1 is.1 last in
    rw (spaced_both (words_of shown first value.0) (words_of shown second value.1) rest, a, b) refl
