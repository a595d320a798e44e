-- The values of operands that a line can show: those of actions of bytes, with registers below 16 and blocks below 64.
use Rattle.std.proofs.Common.{◌≡◌, ℕ, suc, zero, ◌<◌, ◌≤◌, ◌^◌, true, false, eqb, List, [], ◌∷◌, ◌++◌, length, refl, arith, nat_le, nat_lt, ◌==◌, if◌then◌else◌}
use Rattle.std.specs.{Prelude.⊤, List.list_all, List.AllByRecursion}
use Rattle.std.proofs.{lemmas.Bool.and_parts, lemmas.Bool.Decides.nat_tests}
use Rattle.hex.specs.Hex.{IsBytes}
use Rattle.pi_base.specs.{Field.little_bytes, declared.phase.Phase.Phase}
use Rattle.line_words.specs.PrintedWords.{IsGuid}
use Rattle.act_code.specs.{declared.action.Action.Action, declared.action.GuidArg.GuidArg}
use Rattle.act_code.specs.declared.action.GuidArg.TheVariants.{Inline, Register}
use Rattle.act_code.specs.{declared.code.Code.Code, Index.is_indexed, Script.IsAction, Script.operand_bytes}
use Rattle.act_code.specs.declared.code.Code.TheVariants as code
use Rattle.act_code.specs.Format.{Format, Value, spelled, guid_arg_bytes, guid_arg_registers, IsInRange, IsGuidArg, registers_in, blocks_in, is_within, is_hob, Nothing, Byte, Within, RegisterNumber, BlockNumber, Little, GuidBytes, WordNumber, Counted, Text, Registers, Descriptor, HobBody, Pair}
use Rattle.act_code.specs.Table.{format_of, code_of_action, operands}

pub is_most : (n m : ℕ) → nat_le n m ≡ true → n ≤ m
is_most n m test = grind (arith, nat_tests)

-- the largest small number of an action
abbrev pub most_of : Code → ℕ
most_of code.BootMode = 1
most_of code.DxeInstall = 1
most_of _ = 255

abbrev pub IsShownArg : GuidArg → Type 0
IsShownArg (Inline guid) = IsGuid guid
IsShownArg (Register v) = v < 16

abbrev pub IsShownLast : ℕ → ℕ → Type 0
IsShownLast ℕ.zero arg = arg < 16
IsShownLast (ℕ.suc kind) arg = arg < 64

abbrev pub IsShown : (format : Format) → Value format → Type 0
IsShown Nothing value = ⊤
IsShown Byte value = value < 256
IsShown (Within low high) value = is_within low high value ≡ true
IsShown RegisterNumber value = value < 16
IsShown BlockNumber value = value < 64
IsShown (Little width) value = value < 256 ^ width
IsShown GuidBytes value = IsGuid value
IsShown WordNumber value = ⊤
IsShown Counted value = (is_within 1 64 (length value) ≡ true) × IsBytes value
IsShown Text value = (is_within 1 64 (length value) ≡ true) × (list_all (is_within 32 126) value ≡ true)
IsShown Registers value = (is_within 1 8 (length value) ≡ true) × AllByRecursion (λ r. r < 16) value
IsShown Descriptor value = (value.0 < 3) × IsShownArg value.1 × IsShownLast value.0 value.2
IsShown HobBody value = (value.0 < 256) × (is_hob value.0 (length value.1) ≡ true) × IsBytes value.1
IsShown (Pair first second) value = IsShown first value.0 × IsShown second value.1

-- parts of lists of bytes, and of tests
bytes_tail : (b : ℕ) (xs : List ℕ) → IsBytes (b ∷ xs) → IsBytes xs
bytes_tail b xs fits i = fits (suc i)

bytes_none : IsBytes []
bytes_none i = omega arith

bytes_cons : (b : ℕ) (xs : List ℕ) → b < 256 → IsBytes xs → IsBytes (b ∷ xs)
bytes_cons b xs here fits zero = here
bytes_cons b xs here fits (suc i) = fits i

bytes_front : (xs ys : List ℕ) → IsBytes (xs ++ ys) → IsBytes xs
bytes_front [] ys fits = bytes_none
bytes_front (x ∷ xs) ys fits = bytes_cons x xs (fits 0) (bytes_front xs ys (bytes_tail x (xs ++ ys) fits))

bytes_back : (xs ys : List ℕ) → IsBytes (xs ++ ys) → IsBytes ys
bytes_back [] ys fits = fits
bytes_back (x ∷ xs) ys fits = bytes_back xs ys (bytes_tail x (xs ++ ys) fits)

each_passes : (limit : ℕ) (xs ys : List ℕ) → list_all (λ x. nat_lt x limit) (xs ++ ys) ≡ true → (list_all (λ x. nat_lt x limit) xs ≡ true) × (list_all (λ x. nat_lt x limit) ys ≡ true)
each_passes limit [] ys all = (refl, all)
each_passes limit (x ∷ xs) ys all =
    let parts = and_parts (nat_lt x limit) (list_all (λ x. nat_lt x limit) (xs ++ ys)) all in
    let more = each_passes limit xs ys parts.1 in
    (rw parts.0 more.0, more.1)

is_below : (n limit : ℕ) → nat_lt n limit ≡ true → n < limit
is_below n limit test = grind (arith, nat_tests)

are_below : (limit : ℕ) (xs : List ℕ) → list_all (λ x. nat_lt x limit) xs ≡ true → AllByRecursion (λ x. x < limit) xs
are_below limit [] all = tt
are_below limit (x ∷ xs) all =
    let parts = and_parts (nat_lt x limit) (list_all (λ x. nat_lt x limit) xs) all in
    (is_below x limit parts.0, are_below limit xs parts.1)

one_below : (n limit : ℕ) → list_all (λ x. nat_lt x limit) (n ∷ []) ≡ true → n < limit
one_below n limit test = (are_below limit (n ∷ []) test).0

-- a value in its range, with registers below 16, blocks below 64, and spelled in bytes
record IsGood (format : Format) (value : Value format) : Type 0 where
  range : IsInRange format value
  registers : list_all (λ r. nat_lt r 16) (registers_in format value) ≡ true
  blocks : list_all (λ b. nat_lt b 64) (blocks_in format value) ≡ true
  bytes : IsBytes (spelled format value)

arg_shown : (arg : GuidArg) → IsGuidArg arg → list_all (λ r. nat_lt r 16) (guid_arg_registers arg) ≡ true → IsBytes (guid_arg_bytes arg) → IsShownArg arg
arg_shown (Inline guid) range registers bytes = (range, bytes_tail 0 guid.0 bytes)
arg_shown (Register v) range registers bytes = one_below v 16 registers

last_shown : (kind arg : ℕ) → list_all (λ r. nat_lt r 16) (if kind == 0 then arg ∷ [] else []) ≡ true → list_all (λ b. nat_lt b 64) (if kind == 0 then [] else arg ∷ []) ≡ true → IsShownLast kind arg
last_shown zero arg registers blocks = one_below arg 16 registers
last_shown (suc kind) arg registers blocks =
    let other : eqb (suc kind) 0 ≡ false = grind (arith, nat_tests) in
    one_below arg 64 (rw other at blocks)

shown : (format : Format) (value : Value format) → IsGood format value → IsShown format value
shown Nothing value good = tt
shown Byte value good = good.range
shown (Within low high) value good = good.range
shown RegisterNumber value good = one_below value 16 good.registers
shown BlockNumber value good = one_below value 64 good.blocks
shown (Little width) value good = good.range
shown GuidBytes value good = (good.range, good.bytes)
shown WordNumber value good = tt
shown Counted value good = (good.range, bytes_tail (length value) value good.bytes)
shown Text value good = good.range
shown Registers value good = (good.range, are_below 16 value good.registers)
shown Descriptor value good =
    let few : value.0 ≤ 2 = is_most value.0 2 (and_parts (nat_le 0 value.0) (nat_le value.0 2) good.range.0).1 in
    let registers = each_passes 16 (guid_arg_registers value.1) (if value.0 == 0 then value.2 ∷ [] else []) good.registers in
    let bytes = bytes_front (guid_arg_bytes value.1) (value.2 ∷ []) (bytes_tail value.0 (guid_arg_bytes value.1 ++ value.2 ∷ []) good.bytes) in
    (omega arith, arg_shown value.1 good.range.1 registers.0 bytes, last_shown value.0 value.2 registers.1 good.blocks)
shown HobBody value good =
    (good.bytes 0, good.range, bytes_back (little_bytes 2 (length value.1)) value.1 (bytes_tail value.0 (little_bytes 2 (length value.1) ++ value.1) good.bytes))
shown (Pair first second) value good =
    let registers = each_passes 16 (registers_in first value.0) (registers_in second value.1) good.registers in
    let blocks = each_passes 64 (blocks_in first value.0) (blocks_in second value.1) good.blocks in
    let a : IsGood first value.0 = record { range = good.range.0; registers = registers.0; blocks = blocks.0; bytes = bytes_front (spelled first value.0) (spelled second value.1) good.bytes } in
    let b : IsGood second value.1 = record { range = good.range.1; registers = registers.1; blocks = blocks.1; bytes = bytes_back (spelled first value.0) (spelled second value.1) good.bytes } in
    (shown first value.0 a, shown second value.1 b)

pub shown_operands : (phase : Phase) (a : Action) → IsAction phase a → is_indexed 64 a ≡ true → IsBytes (operand_bytes a) → IsShown (format_of (code_of_action a)) (operands a)
shown_operands phase a is indexed bytes =
    let parts = and_parts (list_all (λ r. nat_lt r 16) (registers_in (format_of (code_of_action a)) (operands a))) (list_all (λ b. nat_lt b 64) (blocks_in (format_of (code_of_action a)) (operands a))) indexed in
    shown (format_of (code_of_action a)) (operands a) (record { range = is.in_range; registers = parts.0; blocks = parts.1; bytes = bytes })
