-- Reading the operands of an action from left to right, each after a space (own).
use Rattle.std.specs.Prelude.{ℕ, zero, suc, ◌^◌, ◌&&◌, ◌==◌, nat_lt, bytes_eq, if◌then◌else◌, codes, List, [], ◌∷◌, length, Option, Some, None}
use Rattle.std.specs.List.{list_all}
use Rattle.pi_base.specs.{declared.word.Word.Word, declared.guid.Guid.Guid}
use Rattle.act_code.specs.{declared.action.Action.Action, declared.action.GuidArg.GuidArg}
use Rattle.act_code.specs.declared.action.GuidArg.TheVariants.{Inline, Register}
use Rattle.act_code.specs.{declared.code.Code.Code, Table.format_of, Table.made, Source.Way}
use Rattle.act_code.specs.declared.code.Code.TheVariants as code
use Rattle.act_code.specs.Format.{Format, Value, is_within, is_hob, Nothing, Byte, Within, RegisterNumber, BlockNumber, Little, GuidBytes, WordNumber, Counted, Text, Registers, Descriptor, HobBody, Pair}
use Rattle.act_code.specs.Reading.{◌>>=◌, only_if, answer_of}
use Rattle.asm_text.specs.Front.{behind, guid_word}
use Rattle.asm_text.specs.WordReading.{word_at, number_word, hexadecimal_word, register_word, choice_word, kind_word, status_word, bytes_word}

unfoldable pub register_at : List ℕ → Option (ℕ × List ℕ)
register_at text = do
  w ← word_at text
  r ← register_word w.0
  Some (r, w.1)

-- a number from one to another, by a way to read it
unfoldable pub within_at : (List ℕ → Option ℕ) → ℕ → ℕ → List ℕ → Option (ℕ × List ℕ)
within_at small low high text = do
  w ← word_at text
  n ← small w.0
  only_if (is_within low high n) (n, w.1)

-- a number of so many bytes
unfoldable pub little_at : ℕ → List ℕ → Option (ℕ × List ℕ)
little_at width text = do
  w ← word_at text
  n ← if width == 2 then number_word 10 w.0 else hexadecimal_word w.0
  only_if (nat_lt n (256 ^ width)) (n, w.1)

unfoldable pub guid_at : List ℕ → Option (Guid × List ℕ)
guid_at text = do
  w ← word_at text
  guid ← guid_word w.0
  Some (guid, w.1)

unfoldable pub status_at : List ℕ → Option (Word × List ℕ)
status_at text = do
  w ← word_at text
  status ← status_word w.0
  Some (status, w.1)

unfoldable pub bytes_at : List ℕ → Option (List ℕ × List ℕ)
bytes_at text = do
  w ← word_at text
  bytes ← bytes_word w.0
  Some (bytes, w.1)

-- 1 to 64 bytes
unfoldable pub counted_at : List ℕ → Option (List ℕ × List ℕ)
counted_at text = do
  bytes ← bytes_at text
  only_if (is_within 1 64 (length bytes.0)) bytes

-- the rest of the line, 1 to 64 printable characters
unfoldable pub text_at : List ℕ → Option (List ℕ × List ℕ)
text_at text = do
  logged ← behind (codes " ") text
  only_if (is_within 1 64 (length logged) && list_all (is_within 32 126) logged) (logged, [])

-- registers to the end of the line, at most so many
unfoldable pub registers_within : ℕ → List ℕ → Option (List ℕ)
registers_within n [] = Some []
registers_within zero (b ∷ text) = None
registers_within (suc n) (b ∷ text) = do
  first ← register_at (b ∷ text)
  others ← registers_within n first.1
  Some (first.0 ∷ others)

-- 1 to 8 registers to the end of the line
unfoldable pub registers_at : List ℕ → Option (List ℕ × List ℕ)
registers_at text = do
  list ← registers_within 8 text
  only_if (nat_lt 0 (length list)) (list, [])

-- the number of a block
unfoldable pub block_at : List ℕ → Option (ℕ × List ℕ)
block_at text = do
  w ← word_at text
  rest ← only_if (bytes_eq w.0 (codes "block")) w.1
  within_at (number_word 10) 0 63 rest

-- a GUID, or the register with its address
unfoldable pub guid_arg_at : List ℕ → Option (GuidArg × List ℕ)
guid_arg_at text = do
  w ← word_at text
  if bytes_eq w.0 (codes "at") then register_at w.1 >>= (λ v. Some (Register v.0, v.1)) else guid_at text >>= (λ guid. Some (Inline guid.0, guid.1))

-- a PPI's register, or a notification's block
unfoldable pub last_at : ℕ → List ℕ → Option (ℕ × List ℕ)
last_at kind text = if kind == 0 then register_at text else block_at text

unfoldable pub descriptor_at : List ℕ → Option ((ℕ × GuidArg × ℕ) × List ℕ)
descriptor_at text = do
  w ← word_at text
  kind ← kind_word w.0
  guid ← guid_arg_at w.1
  arg ← last_at kind guid.1
  Some ((kind, guid.0, arg.0), arg.1)

unfoldable pub hob_at : List ℕ → Option ((ℕ × List ℕ) × List ℕ)
hob_at text = do
  kind ← within_at (number_word 10) 0 255 text
  body ← bytes_at kind.1
  only_if (is_hob kind.0 (length body.0)) ((kind.0, body.0), body.1)

-- operands of a format
abbrev pub read : (List ℕ → Option ℕ) → (format : Format) → List ℕ → Option (Value format × List ℕ)
read small Nothing text = Some (tt, text)
read small Byte text = within_at (number_word 10) 0 255 text
read small (Within low high) text = within_at small low high text
read small RegisterNumber text = register_at text
read small BlockNumber text = block_at text
read small (Little width) text = little_at width text
read small GuidBytes text = guid_at text
read small WordNumber text = status_at text
read small Counted text = counted_at text
read small Text text = text_at text
read small Registers text = registers_at text
read small Descriptor text = descriptor_at text
read small HobBody text = hob_at text
read small (Pair first second) text = do
  x ← read small first text
  y ← read small second x.1
  Some ((x.0, y.0), y.1)

-- how a small number is read
abbrev pub small_word : Code → List ℕ → Option ℕ
small_word code.BootMode = choice_word (codes "get") (codes "set")
small_word code.DxeInstall = choice_word (codes "new") (codes "on")
small_word _ = number_word 10

-- how the text of a line gives an operand; what is left carries its action's code
abbrev pub line_way : Way (Code × List ℕ) (Unit {0})
line_way format line = answer_of (λ text. (line.0, text)) (read (small_word line.0) format line.1)

-- the action of a code whose operands the text is, all of it
unfoldable pub operands_at : Code → List ℕ → Option Action
operands_at code text = do
  x ← read (small_word code) (format_of code) text
  only_if (length x.1 == 0) (made code x.0)
