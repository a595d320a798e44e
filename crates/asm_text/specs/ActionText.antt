-- Actions as text (own): a line is the action's name and its operands in their order, with single spaces. The count of what follows is not written.
use Rattle.std.specs.Prelude.{ℕ, ◌==◌, if◌then◌else◌, List, [], ◌∷◌, ◌++◌, codes, decimal, map, flat_map}
use Rattle.hex.specs.Hex.{encode_lower}
use Rattle.act_code.specs.{declared.action.Action.Action, declared.action.GuidArg.GuidArg}
use Rattle.act_code.specs.declared.action.GuidArg.TheVariants.{Inline, Register}
use Rattle.act_code.specs.{declared.code.Code.Code, Operands.Telling}
use Rattle.act_code.specs.declared.code.Code.TheVariants as code
use Rattle.act_code.specs.Format.{Format, Value, Nothing, Byte, Within, RegisterNumber, BlockNumber, Little, GuidBytes, WordNumber, Counted, Text, Registers, Descriptor, HobBody, Pair}
use Rattle.act_code.specs.Table.{name_of, format_of, code_of_action, operands}
use Rattle.pi_base.specs.WordText.{hexadecimal, guid_text, word_text}
use Rattle.asm_text.specs.Numerals.{register}

-- the form of `boot_mode`, and of a driver's `install`, is a word; other small numbers are decimal
abbrev pub small_number : Code → ℕ → List ℕ
small_number code.BootMode form = if form == 0 then codes "get" else codes "set"
small_number code.DxeInstall form = if form == 0 then codes "new" else codes "on"
small_number _ n = decimal n

-- what a descriptor is of
abbrev pub kind_word : ℕ → List ℕ
kind_word kind = if kind == 0 then codes "ppi" else if kind == 1 then codes "callback" else codes "dispatch"

-- a GUID, or the register with its address
abbrev pub guid_words : GuidArg → List (List ℕ)
guid_words (Inline guid) = guid_text guid ∷ []
guid_words (Register v) = codes "at" ∷ register v ∷ []

-- a block by its number
abbrev pub block_words : ℕ → List (List ℕ)
block_words block = codes "block" ∷ decimal block ∷ []

-- a PPI's register, or a notification's block
abbrev pub last_words : ℕ → ℕ → List (List ℕ)
last_words kind arg = if kind == 0 then register arg ∷ [] else block_words arg

-- the words of operands: instances, of two bytes, are decimal, and other little-endian numbers hexadecimal
abbrev pub words_of : (ℕ → List ℕ) → (format : Format) → Value format → List (List ℕ)
words_of small Nothing value = []
words_of small Byte value = decimal value ∷ []
words_of small (Within low high) value = small value ∷ []
words_of small RegisterNumber value = register value ∷ []
words_of small BlockNumber value = block_words value
words_of small (Little width) value = (if width == 2 then decimal value else hexadecimal value) ∷ []
words_of small GuidBytes value = guid_text value ∷ []
words_of small WordNumber value = word_text value ∷ []
words_of small Counted value = encode_lower value ∷ []
words_of small Text value = value ∷ []
words_of small Registers value = map register value
words_of small Descriptor value = kind_word value.0 ∷ (guid_words value.1 ++ last_words value.0 value.2)
words_of small HobBody value = decimal value.0 ∷ encode_lower value.1 ∷ []
words_of small (Pair first second) value = words_of small first value.0 ++ words_of small second value.1

-- a word after a space
abbrev pub spaced : List ℕ → List ℕ
spaced word = 32 ∷ word

-- the words of an operand of a code's action, each after a space
abbrev pub operand_text : Code → Telling
operand_text code format value = flat_map spaced (words_of (small_number code) format value)

-- the words of an action after its name
abbrev pub operand_words : Action → List (List ℕ)
operand_words action = words_of (small_number (code_of_action action)) (format_of (code_of_action action)) (operands action)

-- an action in one line, without its line feed
abbrev pub action_text : Action → List ℕ
action_text action = name_of (code_of_action action) ++ flat_map spaced (operand_words action)
