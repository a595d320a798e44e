-- The operands of an action, one by one (own).
use Rattle.std.specs.Prelude.{◌≡◌, ℕ, ◌<◌, ⊤, List, [], ◌∷◌, ◌++◌, length, Option, Some, None, IfSome}
use Rattle.act_code.specs.{declared.action.Action.Action, declared.action_operands.Operand.Operand}
use Rattle.act_code.specs.declared.action_operands.Operand.TheVariants as operand
use Rattle.act_code.specs.Format.{Format, Value, Nothing, Byte, Within, RegisterNumber, BlockNumber, Little, GuidBytes, WordNumber, Counted, Text, Registers, Descriptor, HobBody, Pair}
use Rattle.act_code.specs.Table.{format_of, code_of_action, operands}

-- an operand: its format and its value
abbrev pub Part : Type 0
Part = (format : Format) × Value format

-- the operands of a format in order; the bounds of a byte are not written
abbrev pub parts_of : (format : Format) → Value format → List Part
parts_of (Pair first second) value = parts_of first value.0 ++ parts_of second value.1
parts_of Nothing value = []
parts_of (Within low high) value = (Within 0 255, value) ∷ []
parts_of format value = (format, value) ∷ []

-- the operands of an action
abbrev pub action_parts : Action → List Part
action_parts action = parts_of (format_of (code_of_action action)) (operands action)

-- what a writer is given as an operand
abbrev pub part_of : Operand → Option Part
part_of operand.Nothing = None
part_of (operand.Register r) = Some (RegisterNumber, r)
part_of (operand.Block block) = Some (BlockNumber, block)
part_of (operand.Byte n) = Some (Byte, n)
part_of (operand.Choice n) = Some (Within 0 255, n)
part_of (operand.Number2 n) = Some (Little 2, n)
part_of (operand.Number4 n) = Some (Little 4, n)
part_of (operand.Number8 n) = Some (Little 8, n)
part_of (operand.Guid guid) = Some (GuidBytes, guid.now)
part_of (operand.Status status) = Some (WordNumber, status)
part_of (operand.Counted bytes) = Some (Counted, bytes.now)
part_of (operand.Text text) = Some (Text, text.now)
part_of (operand.Registers list) = Some (Registers, list.now)
part_of (operand.Descriptor kind guid arg) = Some (Descriptor, (kind, guid.now, arg))
part_of (operand.Hob kind body) = Some (HobBody, (kind, body.now))

-- a function from values of a format to numbers: their bytes, their text, their registers
abbrev pub Telling : Type 0
Telling = (format : Format) → Value format → List ℕ

-- it takes one operand after the other, and ignores the bounds
pub record IsInTurn (tell : Telling) : Type 0 where
  pub none : tell Nothing tt ≡ []
  pub two : (first second : Format) (value : Value first × Value second) → tell (Pair first second) value ≡ tell first value.0 ++ tell second value.1
  pub bounds : (low high n : ℕ) → tell (Within low high) n ≡ tell (Within 0 255) n

-- what the function gives for an operand
abbrev pub told_of : Telling → Option Part → List ℕ
told_of tell None = []
told_of tell (Some part) = tell part.0 part.1

abbrev pub told : Telling → Operand → List ℕ
told tell operand = told_of tell (part_of operand)

-- the length of a list fits the bytes that it is written in
abbrev pub IsShortValue : (format : Format) → Value format → Type 0
IsShortValue Counted value = length value < 256
IsShortValue Text value = length value < 256
IsShortValue Registers value = length value < 256
IsShortValue HobBody value = length value.1 < 65536
IsShortValue format value = ⊤

abbrev pub IsShort : Operand → Type 0
IsShort operand = IfSome (part_of operand) (λ part. IsShortValue part.0 part.1)
