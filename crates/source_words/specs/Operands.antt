-- Reading the operands of an action from left to right (own).
use Rattle.std.specs.Prelude.{ℕ, zero, suc, ◌^◌, ◌==◌, nat_lt, if◌then◌else◌, codes, List, [], ◌∷◌, length, Result, Ok, Err}
use Rattle.line_words.specs.Number.{number_of}
use Rattle.pi_base.specs.{declared.word.Word.Word, declared.guid.Guid.Guid}
use Rattle.act_code.specs.{declared.action.Action.Action, declared.action.GuidArg.GuidArg}
use Rattle.act_code.specs.declared.action.GuidArg.TheVariants.{Inline, Register}
use Rattle.act_code.specs.{declared.code.Code.Code, Table.format_of, Table.made, Source.Way}
use Rattle.act_code.specs.declared.code.Code.TheVariants as code
use Rattle.act_code.specs.Format.{Format, Value, is_within, is_hob, Nothing, Byte, Within, RegisterNumber, BlockNumber, Little, GuidBytes, WordNumber, Counted, Text, Registers, Descriptor, HobBody, Pair}
use Rattle.source_words.specs.{Words.is_keyword, GuidWord.guid_of, declared.script.fault.LineFault.LineFault}
use Rattle.source_words.specs.declared.script.fault.LineFault.TheVariants as fault
use Rattle.source_words.specs.Reading.{◌>>=◌, only_if, there, answer_of}
use Rattle.source_words.specs.Word.{word_at, register_of, choice_of, kind_of, status_of, bytes_at}

unfoldable pub register_at : List (List ℕ) → Result (ℕ × List (List ℕ)) LineFault
register_at words = do
  w ← word_at words
  r ← there fault.Register (register_of w.0)
  Ok (r, w.1)

-- a number from one to another
unfoldable pub within_at : ℕ → ℕ → List (List ℕ) → Result (ℕ × List (List ℕ)) LineFault
within_at low high words = do
  w ← word_at words
  n ← there fault.Number (number_of w.0)
  only_if (is_within low high n) fault.Range (n, w.1)

-- one of two words
unfoldable pub choice_at : List ℕ → List ℕ → List (List ℕ) → Result (ℕ × List (List ℕ)) LineFault
choice_at first second words = do
  w ← word_at words
  n ← there fault.Word (choice_of first second w.0)
  Ok (n, w.1)

-- a number of so many bytes
unfoldable pub little_at : ℕ → List (List ℕ) → Result (ℕ × List (List ℕ)) LineFault
little_at width words = do
  w ← word_at words
  n ← there fault.Number (number_of w.0)
  only_if (nat_lt n (256 ^ width)) fault.Range (n, w.1)

unfoldable pub guid_at : List (List ℕ) → Result (Guid × List (List ℕ)) LineFault
guid_at words = do
  w ← word_at words
  guid ← there fault.Guid (guid_of w.0)
  Ok (guid, w.1)

unfoldable pub status_at : List (List ℕ) → Result (Word × List (List ℕ)) LineFault
status_at words = do
  w ← word_at words
  status ← there fault.Status (status_of w.0)
  Ok (status, w.1)

-- 1 to 64 bytes
unfoldable pub counted_at : List (List ℕ) → Result (List ℕ × List (List ℕ)) LineFault
counted_at words = do
  bytes ← bytes_at words
  only_if (is_within 1 64 (length bytes.0)) fault.Range bytes

-- registers to the end of the line, at most so many
unfoldable pub registers_within : ℕ → List (List ℕ) → Result (List ℕ) LineFault
registers_within n [] = Ok []
registers_within zero (word ∷ words) = Err fault.Extra
registers_within (suc n) (word ∷ words) = do
  first ← there fault.Register (register_of word)
  others ← registers_within n words
  Ok (first ∷ others)

-- 1 to 8 registers to the end of the line
unfoldable pub registers_at : List (List ℕ) → Result (List ℕ × List (List ℕ)) LineFault
registers_at words = do
  list ← registers_within 8 words
  only_if (nat_lt 0 (length list)) fault.Missing (list, [])

-- the number of a block
unfoldable pub block_at : List (List ℕ) → Result (ℕ × List (List ℕ)) LineFault
block_at words = do
  w ← word_at words
  rest ← only_if (is_keyword w.0 (codes "block")) fault.Word w.1
  within_at 0 63 rest

-- a GUID, or the register with its address
unfoldable pub guid_arg_at : List (List ℕ) → Result (GuidArg × List (List ℕ)) LineFault
guid_arg_at words = do
  w ← word_at words
  if is_keyword w.0 (codes "at") then register_at w.1 >>= (λ v. Ok (Register v.0, v.1)) else guid_at words >>= (λ guid. Ok (Inline guid.0, guid.1))

-- a PPI's register, or a notification's block
unfoldable pub last_at : ℕ → List (List ℕ) → Result (ℕ × List (List ℕ)) LineFault
last_at kind words = if kind == 0 then register_at words else block_at words

unfoldable pub descriptor_at : List (List ℕ) → Result ((ℕ × GuidArg × ℕ) × List (List ℕ)) LineFault
descriptor_at words = do
  w ← word_at words
  kind ← there fault.Word (kind_of w.0)
  guid ← guid_arg_at w.1
  arg ← last_at kind guid.1
  Ok ((kind, guid.0, arg.0), arg.1)

unfoldable pub hob_at : List (List ℕ) → Result ((ℕ × List ℕ) × List (List ℕ)) LineFault
hob_at words = do
  kind ← within_at 0 255 words
  body ← bytes_at kind.1
  only_if (is_hob kind.0 (length body.0)) fault.Hob ((kind.0, body.0), body.1)

-- a byte: that of `boot_mode`, and of a driver's `install`, is a word
abbrev pub small_at : Code → ℕ → ℕ → List (List ℕ) → Result (ℕ × List (List ℕ)) LineFault
small_at code.BootMode low high words = choice_at (codes "get") (codes "set") words
small_at code.DxeInstall low high words = choice_at (codes "new") (codes "on") words
small_at _ low high words = within_at low high words

-- operands of a format; a text is no list of words
abbrev pub read : Code → (format : Format) → List (List ℕ) → Result (Value format × List (List ℕ)) LineFault
read code Nothing words = Ok (tt, words)
read code Byte words = within_at 0 255 words
read code (Within low high) words = small_at code low high words
read code RegisterNumber words = register_at words
read code BlockNumber words = block_at words
read code (Little width) words = little_at width words
read code GuidBytes words = guid_at words
read code WordNumber words = status_at words
read code Counted words = counted_at words
read code Text words = Err fault.Log
read code Registers words = registers_at words
read code Descriptor words = descriptor_at words
read code HobBody words = hob_at words
read code (Pair first second) words = do
  x ← read code first words
  y ← read code second x.1
  Ok ((x.0, y.0), y.1)

-- how the words of a line give an operand; what is left has its action's code with it
abbrev pub word_way : Way (Code × List (List ℕ)) LineFault
word_way format left = answer_of (λ words. (left.0, words)) (read left.0 format left.1)

-- the action of a code whose operands the words are, all of them
unfoldable pub operands_at : Code → List (List ℕ) → Result Action LineFault
operands_at code words = do
  x ← read code (format_of code) words
  only_if (length x.1 == 0) fault.Extra (made code x.0)
