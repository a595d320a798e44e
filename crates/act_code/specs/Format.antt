-- How the operands of actions are spelled (own).
use Rattle.std.specs.Prelude.{◌≡◌, ℕ, ◌<◌, ◌^◌, Bool, true, false, ◌&&◌, List, [], ◌∷◌, ◌++◌, length, nat_le, ◌==◌, ⊤, if◌then◌else◌}
use Rattle.std.specs.List.{list_all}
use Rattle.pi_base.specs.{Field.little_bytes, Word.word_number, declared.word.Word.Word, declared.guid.Guid.Guid}
use Rattle.act_code.specs.declared.action.GuidArg.{GuidArg}
use Rattle.act_code.specs.declared.action.GuidArg.TheVariants.{Inline, Register}

-- what an operand is, and operands one after the other
pub data Format : Type 0 where
  Nothing : Format
  Byte : Format  -- a byte
  Within : ℕ → ℕ → Format  -- a byte from one number to another
  RegisterNumber : Format  -- the number of a register, a byte
  BlockNumber : Format  -- the number of a block, a byte
  Little : ℕ → Format  -- a little-endian number of so many bytes
  GuidBytes : Format  -- a GUID
  WordNumber : Format  -- the number of a word, a byte
  Counted : Format  -- a byte from 1 to 64, and so many bytes
  Text : Format  -- the same, with bytes from 0x20 to 0x7e
  Registers : Format  -- a byte from 1 to 8, and so many numbers of registers
  Descriptor : Format  -- a kind from 0 to 2; 0 and a GUID, or 1 and the number of a register; the number of a register for kind 0, else of a block
  HobBody : Format  -- a type, two bytes with a length, and a body of that length
  Pair : Format → Format → Format

-- the values of an operand
abbrev pub Value : Format → Type 0
Value Nothing = Unit {0}
Value Byte = ℕ
Value (Within low high) = ℕ
Value RegisterNumber = ℕ
Value BlockNumber = ℕ
Value (Little width) = ℕ
Value GuidBytes = Guid
Value WordNumber = Word
Value Counted = List ℕ
Value Text = List ℕ
Value Registers = List ℕ
Value Descriptor = ℕ × GuidArg × ℕ
Value HobBody = ℕ × List ℕ
Value (Pair first second) = Value first × Value second

-- a GUID's form and the GUID, or the register
abbrev pub guid_arg_bytes : GuidArg → List ℕ
guid_arg_bytes (Inline guid) = 0 ∷ guid.0
guid_arg_bytes (Register v) = 1 ∷ (v ∷ [])

-- the bytes of an operand
abbrev pub spelled : (format : Format) → Value format → List ℕ
spelled Nothing value = []
spelled Byte value = value ∷ []
spelled (Within low high) value = value ∷ []
spelled RegisterNumber value = value ∷ []
spelled BlockNumber value = value ∷ []
spelled (Little width) value = little_bytes width value
spelled GuidBytes value = value.0
spelled WordNumber value = word_number value ∷ []
spelled Counted value = length value ∷ value
spelled Text value = length value ∷ value
spelled Registers value = length value ∷ value
spelled Descriptor value = value.0 ∷ (guid_arg_bytes value.1 ++ value.2 ∷ [])
spelled HobBody value = value.0 ∷ (little_bytes 2 (length value.1) ++ value.1)
spelled (Pair first second) value = spelled first value.0 ++ spelled second value.1

-- a number from low to high
abbrev pub is_within : ℕ → ℕ → ℕ → Bool
is_within low high n = nat_le low n && nat_le n high

-- the types of HOBs that a script may make, and the lengths of their bodies: resource, GUID, FV, CPU and FV2
abbrev pub is_hob : ℕ → ℕ → Bool
is_hob type size =
    if type == 3 then size == 40
    else if type == 4 then is_within 16 1024 size
    else if type == 5 then size == 16
    else if type == 6 then size == 8
    else if type == 9 then size == 48
    else false

-- sixteen bytes, or a byte
abbrev pub IsGuidArg : GuidArg → Type 0
IsGuidArg (Inline guid) = length guid.0 ≡ 16
IsGuidArg (Register v) = v < 256

-- a value of the operand's range, which also has its type's range
abbrev pub IsInRange : (format : Format) → Value format → Type 0
IsInRange Nothing value = ⊤
IsInRange Byte value = value < 256
IsInRange (Within low high) value = is_within low high value ≡ true
IsInRange RegisterNumber value = value < 256
IsInRange BlockNumber value = value < 256
IsInRange (Little width) value = value < 256 ^ width
IsInRange GuidBytes value = length value.0 ≡ 16
IsInRange WordNumber value = ⊤
IsInRange Counted value = is_within 1 64 (length value) ≡ true
IsInRange Text value = (is_within 1 64 (length value) ≡ true) × (list_all (is_within 32 126) value ≡ true)
IsInRange Registers value = is_within 1 8 (length value) ≡ true
IsInRange Descriptor value = (is_within 0 2 value.0 ≡ true) × IsGuidArg value.1 × (value.2 < 256)
IsInRange HobBody value = is_hob value.0 (length value.1) ≡ true
IsInRange (Pair first second) value = IsInRange first value.0 × IsInRange second value.1

-- the registers of a GUID, and of a descriptor's last operand
abbrev pub guid_arg_registers : GuidArg → List ℕ
guid_arg_registers (Inline guid) = []
guid_arg_registers (Register v) = v ∷ []

-- the registers that an operand names
abbrev pub registers_in : (format : Format) → Value format → List ℕ
registers_in Nothing value = []
registers_in Byte value = []
registers_in (Within low high) value = []
registers_in RegisterNumber value = value ∷ []
registers_in BlockNumber value = []
registers_in (Little width) value = []
registers_in GuidBytes value = []
registers_in WordNumber value = []
registers_in Counted value = []
registers_in Text value = []
registers_in Registers value = value
registers_in Descriptor value = guid_arg_registers value.1 ++ (if value.0 == 0 then value.2 ∷ [] else [])
registers_in HobBody value = []
registers_in (Pair first second) value = registers_in first value.0 ++ registers_in second value.1

-- the blocks that an operand names
abbrev pub blocks_in : (format : Format) → Value format → List ℕ
blocks_in Nothing value = []
blocks_in Byte value = []
blocks_in (Within low high) value = []
blocks_in RegisterNumber value = []
blocks_in BlockNumber value = value ∷ []
blocks_in (Little width) value = []
blocks_in GuidBytes value = []
blocks_in WordNumber value = []
blocks_in Counted value = []
blocks_in Text value = []
blocks_in Registers value = []
blocks_in Descriptor value = if value.0 == 0 then [] else value.2 ∷ []
blocks_in HobBody value = []
blocks_in (Pair first second) value = blocks_in first value.0 ++ blocks_in second value.1
