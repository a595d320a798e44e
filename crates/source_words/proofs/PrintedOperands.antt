-- The words of operands are read as the values that they show.
use Rattle.std.proofs.Common.{◌≡◌, ℕ, suc, zero, ◌<◌, ◌≤◌, ◌^◌, ◌&&◌, Bool, true, false, eqb, ltb, List, [], ◌∷◌, ◌++◌, length, map, Some, Ok, refl, sym, ◌∙◌, arith, decimal, append_assoc, nat_le, nat_lt, not, ◌==◌, if◌then◌else◌, codes, append-nil}
use Rattle.std.specs.List.{AllByRecursion}
use Rattle.std.proofs.{lemmas.Bool.and_parts, lemmas.Bool.false≢true, lemmas.Bool.Decides.nat_tests}
use Rattle.hex.specs.Hex.{IsBytes, encode_lower}
use Rattle.hex.proofs.HexLemmas.{decode_of-encode_lower}
use Rattle.pi_base.specs.{declared.guid.Guid.Guid, declared.word.Word.Word, declared.word.Word.TheVariants.Success}
use Rattle.pi_base.specs.WordText.{hexadecimal, guid_text, word_text}
use Rattle.act_code.specs.declared.action.GuidArg.{GuidArg}
use Rattle.act_code.specs.declared.action.GuidArg.TheVariants.{Inline, Register}
use Rattle.act_code.specs.declared.code.Code.{Code}
use Rattle.act_code.specs.declared.code.Code.TheVariants as code
use Rattle.act_code.specs.Format.{Format, Value, is_within, is_hob, Nothing, Byte, Within, RegisterNumber, BlockNumber, Little, GuidBytes, WordNumber, Counted, Text, Registers, Descriptor, HobBody, Pair}
use Rattle.asm_text.specs.ActionText.{words_of, small_number, kind_word, guid_words, last_words, block_words}
use Rattle.asm_text.specs.Numerals.{register}
use Rattle.source_words.proofs.PrintedValues.{is_most, IsShown, IsShownArg, IsShownLast, most_of}
use Rattle.line_words.specs.PrintedWords.{IsGuid}
use Rattle.source_words.specs.Words.{is_keyword}
use Rattle.source_words.specs.Word.{register_of, status_of, kind_of, choice_of, bytes_at}
use Rattle.source_words.specs.Operands.{read, register_at, within_at, choice_at, little_at, guid_at, status_at, counted_at, registers_within, registers_at, block_at, guid_arg_at, last_at, descriptor_at, hob_at, small_at}
use Rattle.source_words.proofs.LineWords.{IsWord}
use Rattle.source_words.proofs.Characters.{decimal_word, hexadecimal_word, encoded_word, guid_word}
use Rattle.source_words.proofs.ValueWords.{decimal_read, hexadecimal_read, guid_read, no_keyword}

below : (n m : ℕ) → n < m → ltb n m ≡ true
below n m less = grind (arith, nat_tests)

within : (low high n : ℕ) → low ≤ n → n ≤ high → is_within low high n ≡ true
within low high n least most = grind (arith, nat_tests)

within_high : (low high n : ℕ) → is_within low high n ≡ true → n ≤ high
within_high low high n in_range = is_most n high (and_parts (nat_le low n) (nat_le n high) in_range).1

-- a register
register_there : (r : ℕ) → r < 16 → register_of (register r) ≡ Some r
unfolding register_of
register_there r small = rw (decimal_read r (omega arith), below r 16 small) refl

register_reads : (r : ℕ) (rest : List (List ℕ)) → r < 16 → register_at (register r ∷ rest) ≡ Ok (r, rest)
unfolding register_at
register_reads r rest small = rw (register_there r small) refl

-- numbers
within_reads : (low high n : ℕ) (rest : List (List ℕ)) → is_within low high n ≡ true → n < 2 ^ 64 → within_at low high (decimal n ∷ rest) ≡ Ok (n, rest)
unfolding within_at
within_reads low high n rest in_range fits = rw (decimal_read n fits, in_range) refl

little_by : (test : Bool) (width n : ℕ) (rest : List (List ℕ)) → n < 256 ^ width → n < 2 ^ 64 → little_at width ((if test then decimal n else hexadecimal n) ∷ rest) ≡ Ok (n, rest)
unfolding little_at
little_by true width n rest less fits = rw (decimal_read n fits, below n (256 ^ width) less) refl
little_by false width n rest less fits = rw (hexadecimal_read n fits, below n (256 ^ width) less) refl

little_reads : (width n : ℕ) (rest : List (List ℕ)) → n < 256 ^ width → n < 2 ^ 64 → little_at width ((if width == 2 then decimal n else hexadecimal n) ∷ rest) ≡ Ok (n, rest)
little_reads width n rest less fits = little_by (width == 2) width n rest less fits

guid_reads : (guid : Guid) (rest : List (List ℕ)) → IsGuid guid → guid_at (guid_text guid ∷ rest) ≡ Ok (guid, rest)
unfolding guid_at
guid_reads guid rest is = rw (guid_read guid is) refl

status_there : (status : Word) → status_of (word_text status) ≡ Some status
unfolding status_of word_text
status_there Success = refl
status_there _ = refl

status_reads : (status : Word) (rest : List (List ℕ)) → status_at (word_text status ∷ rest) ≡ Ok (status, rest)
unfolding status_at
status_reads status rest = rw (status_there status) refl

-- bytes, which go on to the end of the line
bytes_read : (bytes : List ℕ) → IsBytes bytes → bytes_at (encode_lower bytes ∷ []) ≡ Ok (bytes, [])
unfolding bytes_at
bytes_read bytes fits = rw (append-nil (encode_lower bytes), decode_of-encode_lower bytes fits) refl

counted_reads : (bytes : List ℕ) → is_within 1 64 (length bytes) ≡ true → IsBytes bytes → counted_at (encode_lower bytes ∷ []) ≡ Ok (bytes, [])
unfolding counted_at
counted_reads bytes few fits = rw (bytes_read bytes fits, few) refl

registers_reads_within : (n : ℕ) (list : List ℕ) → length list ≤ n → AllByRecursion (λ r. r < 16) list → registers_within n (map register list) ≡ Ok list
unfolding registers_within
registers_reads_within n [] few small = refl
registers_reads_within zero (r ∷ list) few small = absurd (omega arith)
registers_reads_within (suc n) (r ∷ list) few small = rw (register_there r small.0, registers_reads_within n list (omega arith) small.1) refl

registers_reads : (list : List ℕ) → is_within 1 8 (length list) ≡ true → AllByRecursion (λ r. r < 16) list → registers_at (map register list) ≡ Ok (list, [])
unfolding registers_at
registers_reads list few small =
    let parts = and_parts (nat_le 1 (length list)) (nat_le (length list) 8) few in
    let some : nat_lt 0 (length list) ≡ true = below 0 (length list) (is_most 1 (length list) parts.0) in
    rw (registers_reads_within 8 list (is_most (length list) 8 parts.1) small, some) refl

block_reads : (block : ℕ) (rest : List (List ℕ)) → block < 64 → block_at (block_words block ++ rest) ≡ Ok (block, rest)
unfolding block_at
block_reads block rest few = within_reads 0 63 block rest (within 0 63 block (omega arith) (omega arith)) (omega arith)

arg_reads : (arg : GuidArg) (rest : List (List ℕ)) → IsShownArg arg → guid_arg_at (guid_words arg ++ rest) ≡ Ok (arg, rest)
unfolding guid_arg_at
arg_reads (Register v) rest small = rw (register_reads v rest small) refl
arg_reads (Inline guid) rest is = rw (no_keyword guid (codes "at") (λ e. absurd (omega (arith, e))), guid_reads guid rest is) refl

last_reads : (kind arg : ℕ) (rest : List (List ℕ)) → IsShownLast kind arg → last_at kind (last_words kind arg ++ rest) ≡ Ok (arg, rest)
unfolding last_at
last_reads zero arg rest small = register_reads arg rest small
last_reads (suc kind) arg rest small =
    let other : eqb (suc kind) 0 ≡ false = grind (arith, nat_tests) in
    rw other (block_reads arg rest small)

kind_there : (kind : ℕ) → kind < 3 → kind_of (kind_word kind) ≡ Some kind
unfolding kind_of
kind_there zero few = refl
kind_there (suc zero) few = refl
kind_there (suc (suc zero)) few = refl
kind_there (suc (suc (suc kind))) few = absurd (omega arith)

descriptor_reads : (value : ℕ × GuidArg × ℕ) (rest : List (List ℕ)) → IsShown Descriptor value
    → descriptor_at (kind_word value.0 ∷ ((guid_words value.1 ++ last_words value.0 value.2) ++ rest)) ≡ Ok (value, rest)
unfolding descriptor_at
descriptor_reads value rest is =
    rw (
      kind_there value.0 is.0,
      append_assoc (guid_words value.1) (last_words value.0 value.2) rest,
      arg_reads value.1 (last_words value.0 value.2 ++ rest) is.1,
      last_reads value.0 value.2 rest is.2,
    ) refl

hob_reads : (value : ℕ × List ℕ) → IsShown HobBody value → hob_at (decimal value.0 ∷ encode_lower value.1 ∷ []) ≡ Ok (value, [])
unfolding hob_at
hob_reads value is =
    rw (within_reads 0 255 value.0 (encode_lower value.1 ∷ []) (within 0 255 value.0 (omega arith) (omega arith)) (omega arith), bytes_read value.1 is.2, is.1) refl

-- small numbers, of which two are words
choice_there : (first second : List ℕ) (n : ℕ) → is_keyword first first ≡ true → is_keyword second first ≡ false → is_keyword second second ≡ true → n ≤ 1
    → choice_of first second (if n == 0 then first else second) ≡ Some n
unfolding choice_of
choice_there first second zero a b c few = rw a refl
choice_there first second (suc zero) a b c few = rw (b, c) refl
choice_there first second (suc (suc n)) a b c few = absurd (omega arith)

get_reads : (n : ℕ) (rest : List (List ℕ)) → n ≤ 1 → choice_at (codes "get") (codes "set") ((if n == 0 then codes "get" else codes "set") ∷ rest) ≡ Ok (n, rest)
unfolding choice_at
get_reads n rest few = rw (choice_there (codes "get") (codes "set") n refl refl refl few) refl

new_reads : (n : ℕ) (rest : List (List ℕ)) → n ≤ 1 → choice_at (codes "new") (codes "on") ((if n == 0 then codes "new" else codes "on") ∷ rest) ≡ Ok (n, rest)
unfolding choice_at
new_reads n rest few = rw (choice_there (codes "new") (codes "on") n refl refl refl few) refl

small_reads : (c : Code) (low high n : ℕ) (rest : List (List ℕ)) → is_within low high n ≡ true → n ≤ most_of c → small_at c low high (small_number c n ∷ rest) ≡ Ok (n, rest)
small_reads code.BootMode low high n rest in_range few = get_reads n rest few
small_reads code.DxeInstall low high n rest in_range few = new_reads n rest few
small_reads _ low high n rest in_range few = within_reads low high n rest in_range (omega arith)

-- operands that go on to the end of the line
abbrev ends_line : Format → Bool
ends_line Counted = true
ends_line Text = true
ends_line Registers = true
ends_line HobBody = true
ends_line (Pair first second) = ends_line second
ends_line _ = false

-- a format of words whose numbers are not too large, and in which only the last operand goes on to the end
abbrev pub is_worded : ℕ → Format → Bool
is_worded most (Within low high) = nat_le high most
is_worded most (Little width) = nat_le (256 ^ width) (2 ^ 64)
is_worded most Text = false
is_worded most (Pair first second) = not (ends_line first) && (is_worded most first && is_worded most second)
is_worded most _ = true

shut : (test : Bool) → not test ≡ true → test ≡ false
shut true e = cc
shut false e = refl

pub reads : (c : Code) (format : Format) (value : Value format) (rest : List (List ℕ)) → is_worded (most_of c) format ≡ true → IsShown format value
    → (ends_line format ≡ true → rest ≡ []) → read c format (words_of (small_number c) format value ++ rest) ≡ Ok (value, rest)
reads c Nothing value rest known is last = refl
reads c Byte value rest known is last = within_reads 0 255 value rest (within 0 255 value (omega arith) (omega arith)) (omega arith)
reads c (Within low high) value rest known is last =
    let few : value ≤ most_of c = let a = within_high low high value is in let b = is_most high (most_of c) known in omega arith in
    small_reads c low high value rest is few
reads c RegisterNumber value rest known is last = register_reads value rest is
reads c BlockNumber value rest known is last = block_reads value rest is
reads c (Little width) value rest known is last =
    let fits : value < 2 ^ 64 = let a = is_most (256 ^ width) (2 ^ 64) known in omega arith in
    little_reads width value rest is fits
reads c GuidBytes value rest known is last = guid_reads value rest is
reads c WordNumber value rest known is last = status_reads value rest
reads c Counted value rest known is last = rw (last refl) (counted_reads value is.0 is.1)
reads c Text value rest known is last = absurd (false≢true known)
reads c Registers value rest known is last = rw (last refl, append-nil (map register value)) (registers_reads value is.0 is.1)
reads c Descriptor value rest known is last = descriptor_reads value rest is
reads c HobBody value rest known is last = rw (last refl) (hob_reads value is)
reads c (Pair first second) value rest known is last =
    let parts = and_parts (not (ends_line first)) (is_worded (most_of c) first && is_worded (most_of c) second) known in
    let each = and_parts (is_worded (most_of c) first) (is_worded (most_of c) second) parts.1 in
    let closed : ends_line first ≡ false = shut (ends_line first) parts.0 in
    let a = reads c first value.0 (words_of (small_number c) second value.1 ++ rest) each.0 is.0 (λ e. absurd (false≢true (sym closed ∙ e))) in
    let b = reads c second value.1 rest each.1 is.1 last in
    rw (append_assoc (words_of (small_number c) first value.0) (words_of (small_number c) second value.1) rest, a, b) refl

-- each of the words is one
register_word : (r : ℕ) → r < 16 → IsWord (register r)
register_word r small = (omega arith, (decimal_word r (omega arith)).1)

status_word : (status : Word) → IsWord (word_text status)
unfolding word_text
status_word Success = (omega arith, refl)
status_word _ = (omega arith, refl)

all_registers : (list : List ℕ) → AllByRecursion (λ r. r < 16) list → AllByRecursion IsWord (map register list)
all_registers [] small = tt
all_registers (r ∷ list) small = (register_word r small.0, all_registers list small.1)

little_word : (width n : ℕ) → n < 2 ^ 64 → IsWord (if width == 2 then decimal n else hexadecimal n)
little_word width n fits = by_test (width == 2)
  where
    by_test : (test : Bool) → IsWord (if test then decimal n else hexadecimal n)
    by_test true = decimal_word n fits
    by_test false = hexadecimal_word n fits

either_word : (first second : List ℕ) (n : ℕ) → IsWord first → IsWord second → IsWord (if n == 0 then first else second)
either_word first second n a b = by_test (n == 0)
  where
    by_test : (test : Bool) → IsWord (if test then first else second)
    by_test true = a
    by_test false = b

small_word : (c : Code) (n : ℕ) → n ≤ most_of c → IsWord (small_number c n)
small_word code.BootMode n few = either_word (codes "get") (codes "set") n (omega arith, refl) (omega arith, refl)
small_word code.DxeInstall n few = either_word (codes "new") (codes "on") n (omega arith, refl) (omega arith, refl)
small_word _ n few = decimal_word n (omega arith)

all_then : (xs ys : List (List ℕ)) → AllByRecursion IsWord xs → AllByRecursion IsWord ys → AllByRecursion IsWord (xs ++ ys)
all_then [] ys a b = b
all_then (x ∷ xs) ys a b = (a.0, all_then xs ys a.1 b)

arg_words : (arg : GuidArg) → IsShownArg arg → AllByRecursion IsWord (guid_words arg)
arg_words (Inline guid) is = (guid_word guid, tt)
arg_words (Register v) small = ((omega arith, refl), (register_word v small, tt))

block_are : (block : ℕ) → block < 64 → AllByRecursion IsWord (block_words block)
block_are block few = ((omega arith, refl), (decimal_word block (omega arith), tt))

last_are : (kind arg : ℕ) → IsShownLast kind arg → AllByRecursion IsWord (last_words kind arg)
last_are zero arg small = (register_word arg small, tt)
last_are (suc kind) arg few =
    let other : eqb (suc kind) 0 ≡ false = grind (arith, nat_tests) in
    rw other (block_are arg few)

kind_are : (kind : ℕ) → kind < 3 → IsWord (kind_word kind)
kind_are zero few = (omega arith, refl)
kind_are (suc zero) few = (omega arith, refl)
kind_are (suc (suc zero)) few = (omega arith, refl)
kind_are (suc (suc (suc kind))) few = absurd (omega arith)

hob_some : (type size : ℕ) → is_hob type size ≡ true → 0 < size
hob_some type zero is = absurd (false≢true (sym (none type) ∙ is))
  where
    none : (t : ℕ) → is_hob t 0 ≡ false
    none t = by_tests (t == 3) (t == 4) (t == 5) (t == 6) (t == 9)
      where
        by_tests : (a b c d e : Bool) → (if a then false else if b then false else if c then false else if d then false else if e then false else false) ≡ false
        by_tests true b c d e = refl
        by_tests false true c d e = refl
        by_tests false false true d e = refl
        by_tests false false false true e = refl
        by_tests false false false false true = refl
        by_tests false false false false false = refl
hob_some type (suc size) is = omega arith

pub are_words : (c : Code) (format : Format) (value : Value format) → is_worded (most_of c) format ≡ true → IsShown format value
    → AllByRecursion IsWord (words_of (small_number c) format value)
are_words c Nothing value known is = tt
are_words c Byte value known is = (decimal_word value (omega arith), tt)
are_words c (Within low high) value known is =
    let few : value ≤ most_of c = let a = within_high low high value is in let b = is_most high (most_of c) known in omega arith in
    (small_word c value few, tt)
are_words c RegisterNumber value known is = (register_word value is, tt)
are_words c BlockNumber value known is = block_are value is
are_words c (Little width) value known is =
    let fits : value < 2 ^ 64 = let a = is_most (256 ^ width) (2 ^ 64) known in omega arith in
    (little_word width value fits, tt)
are_words c GuidBytes value known is = (guid_word value, tt)
are_words c WordNumber value known is = (status_word value, tt)
are_words c Counted value known is =
    let some : 0 < length value = is_most 1 (length value) (and_parts (nat_le 1 (length value)) (nat_le (length value) 64) is.0).0 in
    (encoded_word value some is.1, tt)
are_words c Text value known is = absurd (false≢true known)
are_words c Registers value known is = all_registers value is.1
are_words c Descriptor value known is = (kind_are value.0 is.0, all_then (guid_words value.1) (last_words value.0 value.2) (arg_words value.1 is.1) (last_are value.0 value.2 is.2))
are_words c HobBody value known is = (decimal_word value.0 (omega arith), (encoded_word value.1 (hob_some value.0 (length value.1) is.1) is.2, tt))
are_words c (Pair first second) value known is =
    let parts = and_parts (not (ends_line first)) (is_worded (most_of c) first && is_worded (most_of c) second) known in
    let each = and_parts (is_worded (most_of c) first) (is_worded (most_of c) second) parts.1 in
    all_then (words_of (small_number c) first value.0) (words_of (small_number c) second value.1) (are_words c first value.0 each.0 is.0) (are_words c second value.1 each.1 is.1)
