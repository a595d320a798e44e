-- What is told of an action is what is told of each of its operands.
use Rattle.std.proofs.Common.{◌≡◌, ℕ, Bool, true, false, ◌&&◌, List, [], ◌∷◌, ◌++◌, length, Option, Some, None, Result, Ok, Err, All, refl, sym, ap, ◌∙◌, append_assoc, arith, IfSome, OnOk, nat_lt, flat_map, filter_map, append-nil}
use Rattle.std.specs.List.{list_all, cons_option, AllByRecursion}
use Rattle.std.proofs.{lemmas.List.Elements.All-from_recursion, lemmas.List.Folds.list_all-append, lemmas.Grind.flat_map-append}
use Rattle.pi_base.specs.declared.memory.OutOfMemory.{OutOfMemory}
use Rattle.act_code.specs.{declared.action.Action.Action, declared.action_operands.Operand.Operand, Script.operand_bytes, Script.IsWritable}
use Rattle.act_code.specs.Format.{Format, Value, IsInRange, spelled, registers_in, blocks_in, Nothing, Byte, Within, RegisterNumber, BlockNumber, Little, GuidBytes, WordNumber, Counted, Text, Registers, Descriptor, HobBody, Pair}
use Rattle.act_code.specs.Table.{format_of, code_of_action, operands}
use Rattle.act_code.specs.Index.{are_indexed, is_indexed}
use Rattle.act_code.specs.Operands.{Part, parts_of, part_of, action_parts, Telling, IsInTurn, told_of, told, IsShortValue, IsShort}
use Rattle.act_code.proofs.Formats.{within_le, hob_small}

abbrev tells : Telling → Part → List ℕ
tells tell part = tell part.0 part.1

-- of the operands of a format, one after the other
format_told : (tell : Telling) → IsInTurn tell → (format : Format) (value : Value format) → flat_map (tells tell) (parts_of format value) ≡ tell format value
format_told tell is (Pair first second) value =
    flat_map-append (tells tell) (parts_of first value.0) (parts_of second value.1)
    ∙ ap (λ t. t ++ flat_map (tells tell) (parts_of second value.1)) (format_told tell is first value.0)
    ∙ ap (λ t. tell first value.0 ++ t) (format_told tell is second value.1)
    ∙ sym (is.two first second value)
format_told tell is Nothing value = sym is.none
format_told tell is (Within low high) value = append-nil (tell (Within 0 255) value) ∙ sym (is.bounds low high value)
format_told tell is Byte value = append-nil (tell Byte value)
format_told tell is RegisterNumber value = append-nil (tell RegisterNumber value)
format_told tell is BlockNumber value = append-nil (tell BlockNumber value)
format_told tell is (Little width) value = append-nil (tell (Little width) value)
format_told tell is GuidBytes value = append-nil (tell GuidBytes value)
format_told tell is WordNumber value = append-nil (tell WordNumber value)
format_told tell is Counted value = append-nil (tell Counted value)
format_told tell is Text value = append-nil (tell Text value)
format_told tell is Registers value = append-nil (tell Registers value)
format_told tell is Descriptor value = append-nil (tell Descriptor value)
format_told tell is HobBody value = append-nil (tell HobBody value)

-- of what a writer is given
one_told : (tell : Telling) (part : Option Part) (text : List ℕ) (parts : List Part) → text ≡ flat_map (tells tell) parts → told_of tell part ++ text ≡ flat_map (tells tell) (cons_option part parts)
one_told tell None text parts is = is
one_told tell (Some part) text parts is = ap (λ t. tells tell part ++ t) is

given_told : (tell : Telling) (given : List Operand) → flat_map (told tell) given ≡ flat_map (tells tell) (filter_map part_of given)
given_told tell [] = refl
given_told tell (operand ∷ given) = one_told tell (part_of operand) (flat_map (told tell) given) (filter_map part_of given) (given_told tell given)

pub action_told : (tell : Telling) → IsInTurn tell → (action : Action) (given : List Operand) → filter_map part_of given ≡ action_parts action
    → flat_map (told tell) given ≡ tell (format_of (code_of_action action)) (operands action)
action_told tell is action given are = given_told tell given ∙ ap (flat_map (tells tell)) are ∙ format_told tell is (format_of (code_of_action action)) (operands action)

spelled_in_turn : IsInTurn spelled
spelled_in_turn = record { none = refl; two = λ first second value. refl; bounds = λ low high n. refl }

pub bytes_told : (action : Action) (given : List Operand) → filter_map part_of given ≡ action_parts action → flat_map (told spelled) given ≡ operand_bytes action
bytes_told = action_told spelled spelled_in_turn

-- registers and blocks
registers_in_turn : IsInTurn registers_in
registers_in_turn = record { none = refl; two = λ first second value. refl; bounds = λ low high n. refl }

blocks_in_turn : IsInTurn blocks_in
blocks_in_turn = record { none = refl; two = λ first second value. refl; bounds = λ low high n. refl }

crossed : (a b c d : Bool) → ((a && b) && (c && d)) ≡ ((a && c) && (b && d))
crossed true true c d = refl
crossed true false true d = refl
crossed true false false d = refl
crossed false b c d = refl

both_indexed : (first others first_blocks others_blocks : List ℕ) (count : ℕ)
    → (are_indexed first first_blocks count && are_indexed others others_blocks count) ≡ are_indexed (first ++ others) (first_blocks ++ others_blocks) count
both_indexed first others first_blocks others_blocks count =
    rw (list_all-append (λ r. nat_lt r 16) first others, list_all-append (λ b. nat_lt b count) first_blocks others_blocks)
    (crossed (list_all (λ r. nat_lt r 16) first) (list_all (λ b. nat_lt b count) first_blocks) (list_all (λ r. nat_lt r 16) others) (list_all (λ b. nat_lt b count) others_blocks))

abbrev pub indexes : ℕ → Operand → Bool
indexes count operand = are_indexed (told registers_in operand) (told blocks_in operand) count

all_indexed : (count : ℕ) (given : List Operand) → list_all (indexes count) given ≡ are_indexed (flat_map (told registers_in) given) (flat_map (told blocks_in) given) count
all_indexed count [] = refl
all_indexed count (operand ∷ given) =
    ap (λ b. indexes count operand && b) (all_indexed count given)
    ∙ both_indexed (told registers_in operand) (flat_map (told registers_in) given) (told blocks_in operand) (flat_map (told blocks_in) given) count

pub action_indexed : (count : ℕ) (action : Action) (given : List Operand) → filter_map part_of given ≡ action_parts action → list_all (indexes count) given ≡ is_indexed count action
action_indexed count action given are =
    all_indexed count given
    ∙ ap (λ r. are_indexed r (flat_map (told blocks_in) given) count) (action_told registers_in registers_in_turn action given are)
    ∙ ap (λ b. are_indexed (registers_in (format_of (code_of_action action)) (operands action)) b count) (action_told blocks_in blocks_in_turn action given are)

-- lists of an action that can be written are short
abbrev IsShortPart : Part → Type 0
IsShortPart part = IsShortValue part.0 part.1

both_short : (xs ys : List Part) → AllByRecursion IsShortPart xs → AllByRecursion IsShortPart ys → AllByRecursion IsShortPart (xs ++ ys)
both_short [] ys a b = b
both_short (x ∷ xs) ys a b = (a.0, both_short xs ys a.1 b)

parts_short : (format : Format) (value : Value format) → IsInRange format value → AllByRecursion IsShortPart (parts_of format value)
parts_short (Pair first second) value is = both_short (parts_of first value.0) (parts_of second value.1) (parts_short first value.0 is.0) (parts_short second value.1 is.1)
parts_short Nothing value is = tt
parts_short Counted value is = (omega (arith, within_le 1 64 (length value) is), tt)
parts_short Text value is = (omega (arith, within_le 1 64 (length value) is.0), tt)
parts_short Registers value is = (omega (arith, within_le 1 8 (length value) is), tt)
parts_short HobBody value is = (hob_small value.0 (length value.1) is, tt)
parts_short Byte value is = (tt, tt)
parts_short _ value is = (tt, tt)

one_short : {Behind : Type 0} (part : Option Part) (parts : List Part) → AllByRecursion IsShortPart (cons_option part parts) → (AllByRecursion IsShortPart parts → Behind) → IfSome part IsShortPart × Behind
one_short None parts all behind = (tt, behind all)
one_short (Some part) parts all behind = (all.0, behind all.1)

given_short : (given : List Operand) → AllByRecursion IsShortPart (filter_map part_of given) → AllByRecursion IsShort given
given_short [] all = tt
given_short (operand ∷ given) all = one_short (part_of operand) (filter_map part_of given) all (given_short given)

pub all_short : (action : Action) (given : List Operand) → filter_map part_of given ≡ action_parts action → IsWritable action → All IsShort given
all_short action given are is = All-from_recursion IsShort given (given_short given (rw are (parts_short (format_of (code_of_action action)) (operands action) is)))

-- what is written behind the code
pub behind_code : {R : Type 0} (result : Result R OutOfMemory) (old front new given text : List ℕ) (number : ℕ) → front ≡ old ++ number ∷ [] → given ≡ text → OnOk result (new ≡ front ++ given) → OnOk result (new ≡ old ++ (number ∷ text))
behind_code (Ok r) old front new given text number pushed are e = e ∙ ap (λ t. front ++ t) are ∙ ap (λ t. t ++ text) pushed ∙ append_assoc old (number ∷ []) text
behind_code (Err e) old front new given text number pushed are is = tt
