-- The values that a line can show are those of a script's actions: in their ranges, with registers below 16 and blocks below 64, and bytes where they are spelled.
use Rattle.std.proofs.Common.{◌≡◌, ℕ, suc, zero, ◌<◌, ◌≤◌, ◌&&◌, Bool, true, false, eqb, List, [], ◌∷◌, ◌++◌, length, refl, arith, nat_le, nat_lt, ◌==◌, if◌then◌else◌}
use Rattle.std.specs.List.{list_all}
use Rattle.std.proofs.{lemmas.Bool.and_parts, lemmas.Bool.Decides.nat_tests}
use Rattle.hex.specs.Hex.{IsBytes}
use Rattle.pi_base.specs.{Field.little_bytes, Word.word_number, declared.word.Word.Word, declared.word.Word.TheVariants.Success}
use Rattle.act_code.specs.declared.action.GuidArg.{GuidArg}
use Rattle.act_code.specs.declared.action.GuidArg.TheVariants.{Inline, Register}
use Rattle.act_code.specs.Format.{Format, Value, spelled, guid_arg_bytes, guid_arg_registers, IsInRange, IsGuidArg, registers_in, blocks_in, is_within, Nothing, Byte, Within, RegisterNumber, BlockNumber, Little, GuidBytes, WordNumber, Counted, Text, Registers, Descriptor, HobBody, Pair}
use Rattle.asm_text.proofs.Readables.{IsReadable, IsReadableArg, IsReadableLast}
use Rattle.asm_text.proofs.WordLaws.{is_most}
use Rattle.asm_text.proofs.ByteLists.{bytes_cons, bytes_tail, bytes_none, bytes_both, bytes_front, bytes_back, bytes_little, is_below, all_below, are_below, few_bytes, both_pass, each_passes}

pub record IsGood (format : Format) (value : Value format) : Type 0 where
  pub range : IsInRange format value
  pub registers : list_all (λ r. nat_lt r 16) (registers_in format value) ≡ true
  pub blocks : list_all (λ b. nat_lt b 64) (blocks_in format value) ≡ true
  pub bytes : IsBytes (spelled format value)

one_below : (n limit : ℕ) → list_all (λ x. nat_lt x limit) (n ∷ []) ≡ true → n < limit
one_below n limit test = (are_below limit (n ∷ []) test).0

is_one : (n limit : ℕ) → n < limit → list_all (λ x. nat_lt x limit) (n ∷ []) ≡ true
is_one n limit less = all_below limit (n ∷ []) (less, tt)

arg_readable : (arg : GuidArg) → IsGuidArg arg → list_all (λ r. nat_lt r 16) (guid_arg_registers arg) ≡ true → IsBytes (guid_arg_bytes arg) → IsReadableArg arg
arg_readable (Inline guid) range registers bytes = (range, bytes_tail 0 guid.0 bytes)
arg_readable (Register v) range registers bytes = one_below v 16 registers

last_readable : (kind arg : ℕ) → list_all (λ r. nat_lt r 16) (if kind == 0 then arg ∷ [] else []) ≡ true → list_all (λ b. nat_lt b 64) (if kind == 0 then [] else arg ∷ []) ≡ true → IsReadableLast kind arg
last_readable zero arg registers blocks = one_below arg 16 registers
last_readable (suc kind) arg registers blocks =
    let other : eqb (suc kind) 0 ≡ false = grind (arith, nat_tests) in
    one_below arg 64 (rw other at blocks)

pub readable : (format : Format) (value : Value format) → IsGood format value → IsReadable format value
readable Nothing value good = tt
readable Byte value good = good.range
readable (Within low high) value good = good.range
readable RegisterNumber value good = one_below value 16 good.registers
readable BlockNumber value good = one_below value 64 good.blocks
readable (Little width) value good = good.range
readable GuidBytes value good = (good.range, good.bytes)
readable WordNumber value good = tt
readable Counted value good = (good.range, bytes_tail (length value) value good.bytes)
readable Text value good = good.range
readable Registers value good = (good.range, are_below 16 value good.registers)
readable Descriptor value good =
    let few : value.0 ≤ 2 = is_most value.0 2 (and_parts (nat_le 0 value.0) (nat_le value.0 2) good.range.0).1 in
    let registers = each_passes (λ r. nat_lt r 16) (guid_arg_registers value.1) (if value.0 == 0 then value.2 ∷ [] else []) good.registers in
    let bytes = bytes_front (guid_arg_bytes value.1) (value.2 ∷ []) (bytes_tail value.0 (guid_arg_bytes value.1 ++ value.2 ∷ []) good.bytes) in
    (omega arith, arg_readable value.1 good.range.1 registers.0 bytes, last_readable value.0 value.2 registers.1 good.blocks)
readable HobBody value good =
    (good.bytes 0, good.range, bytes_back (little_bytes 2 (length value.1)) value.1 (bytes_tail value.0 (little_bytes 2 (length value.1) ++ value.1) good.bytes))
readable (Pair first second) value good =
    let registers = each_passes (λ r. nat_lt r 16) (registers_in first value.0) (registers_in second value.1) good.registers in
    let blocks = each_passes (λ b. nat_lt b 64) (blocks_in first value.0) (blocks_in second value.1) good.blocks in
    let a : IsGood first value.0 = record { range = good.range.0; registers = registers.0; blocks = blocks.0; bytes = bytes_front (spelled first value.0) (spelled second value.1) good.bytes } in
    let b : IsGood second value.1 = record { range = good.range.1; registers = registers.1; blocks = blocks.1; bytes = bytes_back (spelled first value.0) (spelled second value.1) good.bytes } in
    (readable first value.0 a, readable second value.1 b)

-- and back
word_small : (status : Word) → word_number status < 256
word_small Success = omega arith
word_small _ = omega arith

arg_range : (arg : GuidArg) → IsReadableArg arg → IsGuidArg arg
arg_range (Inline guid) is = is.0
arg_range (Register v) is = omega (arith, is)

arg_registers : (arg : GuidArg) → IsReadableArg arg → list_all (λ r. nat_lt r 16) (guid_arg_registers arg) ≡ true
arg_registers (Inline guid) is = refl
arg_registers (Register v) is = is_one v 16 is

arg_bytes : (arg : GuidArg) → IsReadableArg arg → IsBytes (guid_arg_bytes arg)
arg_bytes (Inline guid) is = bytes_cons 0 guid.0 (omega arith) is.1
arg_bytes (Register v) is = bytes_cons 1 (v ∷ []) (omega arith) (bytes_cons v [] (omega (arith, is)) bytes_none)

last_registers : (kind arg : ℕ) → IsReadableLast kind arg → list_all (λ r. nat_lt r 16) (if kind == 0 then arg ∷ [] else []) ≡ true
last_registers zero arg is = is_one arg 16 is
last_registers (suc kind) arg is = let other : eqb (suc kind) 0 ≡ false = grind (arith, nat_tests) in rw other refl

last_blocks : (kind arg : ℕ) → IsReadableLast kind arg → list_all (λ b. nat_lt b 64) (if kind == 0 then [] else arg ∷ []) ≡ true
last_blocks zero arg is = refl
last_blocks (suc kind) arg is = let other : eqb (suc kind) 0 ≡ false = grind (arith, nat_tests) in rw other (is_one arg 64 is)

last_byte : (kind arg : ℕ) → IsReadableLast kind arg → arg < 256
last_byte zero arg is = omega (arith, is)
last_byte (suc kind) arg is = omega (arith, is)

few_long : (high : ℕ) (n : ℕ) → high < 256 → is_within 1 high n ≡ true → n < 256
few_long high n small few = let most = is_most n high (and_parts (nat_le 1 n) (nat_le n high) few).1 in omega arith

kind_within : (kind : ℕ) → kind < 3 → is_within 0 2 kind ≡ true
kind_within kind few = grind (arith, nat_tests)

printable_bytes : (text : List ℕ) → list_all (is_within 32 126) text ≡ true → IsBytes text
printable_bytes [] all = bytes_none
printable_bytes (b ∷ text) all =
    let parts = and_parts (is_within 32 126 b) (list_all (is_within 32 126) text) all in
    let most = is_most b 126 (and_parts (nat_le 32 b) (nat_le b 126) parts.0).1 in
    bytes_cons b text (omega arith) (printable_bytes text parts.1)

-- of what is small and is not spelled in more than one byte
byte_good : (value : ℕ) → value < 256 → IsBytes (value ∷ [])
byte_good value small = bytes_cons value [] small bytes_none

within_byte : (low high value : ℕ) → high < 256 → is_within low high value ≡ true → value < 256
within_byte low high value small is = let most = is_most value high (and_parts (nat_le low value) (nat_le value high) is).1 in omega arith

-- the numbers of a format fit a byte
abbrev pub fits_byte : Format → Bool
fits_byte (Within low high) = nat_lt high 256
fits_byte (Pair first second) = fits_byte first && fits_byte second
fits_byte _ = true

pub good : (format : Format) (value : Value format) → fits_byte format ≡ true → IsReadable format value → IsGood format value
good Nothing value small is = record { range = tt; registers = refl; blocks = refl; bytes = bytes_none }
good Byte value small is = record { range = is; registers = refl; blocks = refl; bytes = byte_good value is }
good (Within low high) value small is = record { range = is; registers = refl; blocks = refl; bytes = byte_good value (within_byte low high value (is_below high 256 small) is) }
good RegisterNumber value small is = record { range = omega arith; registers = is_one value 16 is; blocks = refl; bytes = byte_good value (omega arith) }
good BlockNumber value small is = record { range = omega arith; registers = refl; blocks = is_one value 64 is; bytes = byte_good value (omega arith) }
good (Little width) value small is = record { range = is; registers = refl; blocks = refl; bytes = bytes_little width value }
good GuidBytes value small is = record { range = is.0; registers = refl; blocks = refl; bytes = is.1 }
good WordNumber value small is = record { range = tt; registers = refl; blocks = refl; bytes = byte_good (word_number value) (word_small value) }
good Counted value small is = record { range = is.0; registers = refl; blocks = refl; bytes = bytes_cons (length value) value (few_long 64 (length value) (omega arith) is.0) is.1 }
good Text value small is = record { range = (is.0, is.1); registers = refl; blocks = refl; bytes = bytes_cons (length value) value (few_long 64 (length value) (omega arith) is.0) (printable_bytes value is.1) }
good Registers value small is = record { range = is.0; registers = all_below 16 value is.1; blocks = refl; bytes = bytes_cons (length value) value (few_long 8 (length value) (omega arith) is.0) (few_bytes 16 value (omega arith) is.1) }
good Descriptor value small is = record {
  range = (kind_within value.0 is.0, arg_range value.1 is.1, last_byte value.0 value.2 is.2);
  registers = both_pass (λ r. nat_lt r 16) (guid_arg_registers value.1) (if value.0 == 0 then value.2 ∷ [] else []) (arg_registers value.1 is.1) (last_registers value.0 value.2 is.2);
  blocks = last_blocks value.0 value.2 is.2;
  bytes = bytes_cons value.0 (guid_arg_bytes value.1 ++ value.2 ∷ []) (omega (arith, is.0)) (bytes_both (guid_arg_bytes value.1) (value.2 ∷ []) (arg_bytes value.1 is.1) (byte_good value.2 (last_byte value.0 value.2 is.2)));
}
good HobBody value small is = record {
  range = is.1;
  registers = refl;
  blocks = refl;
  bytes = bytes_cons value.0 (little_bytes 2 (length value.1) ++ value.1) is.0 (bytes_both (little_bytes 2 (length value.1)) value.1 (bytes_little 2 (length value.1)) is.2);
}
good (Pair first second) value small is =
    let parts = and_parts (fits_byte first) (fits_byte second) small in
    let a = good first value.0 parts.0 is.0 in
    let b = good second value.1 parts.1 is.1 in
    record {
      range = (a.range, b.range);
      registers = both_pass (λ r. nat_lt r 16) (registers_in first value.0) (registers_in second value.1) a.registers b.registers;
      blocks = both_pass (λ b. nat_lt b 64) (blocks_in first value.0) (blocks_in second value.1) a.blocks b.blocks;
      bytes = bytes_both (spelled first value.0) (spelled second value.1) a.bytes b.bytes;
    }
