-- Reading operands and actions from left to right: a value and the bytes after it, or nothing.
use Rattle.std.specs.Prelude.{◌≡◌, ℕ, Bool, ⊤, List, [], ◌∷◌, length, take, drop, Option, Some, None, Result, Ok, Err, option_and_then, nat_le, ◌==◌, if◌then◌else◌}
use Rattle.std.specs.List.{list_all}
use Rattle.pi_base.specs.{Field.little_number, declared.word.Word.Word, declared.guid.Guid.Guid, Guids.guid_at, declared.phase.Phase.Phase}
use Rattle.pi_base.specs.declared.word.Word.TheVariants.{Success, InvalidParameter, NotFound, OutOfResources, NotAvailableYet, AlreadyStarted, AccessDenied}
use Rattle.act_code.specs.declared.action.GuidArg.{GuidArg}
use Rattle.act_code.specs.declared.action.GuidArg.TheVariants.{Inline, Register}
use Rattle.act_code.specs.{declared.action.Action.Action, declared.code.Code.Code, declared.operand.Unread.Unread, Source.Way}
use Rattle.act_code.specs.declared.operand.Unread.TheVariants as unread
use Rattle.act_code.specs.Format.{Format, Value, is_within, is_hob, Nothing, Byte, Within, RegisterNumber, BlockNumber, Little, GuidBytes, WordNumber, Counted, Text, Registers, Descriptor, HobBody, Pair}
use Rattle.act_code.specs.Table.{code_of, is_code_of, format_of, made}

infixl 10 ◌>>=◌
abbrev pub ◌>>=◌ : {A B : Type 0} → Option A → (A → Option B) → Option B
o >>= f = option_and_then f o

-- a value that passes a test
abbrev pub only_if : {A : Type 0} → Bool → A → Option A
only_if test x = if test then Some x else None

-- what a function returned, seen by view, is what reading gives, unless memory ran out
abbrev pub Fails : {Y : Type 0} → Unread → Option Y → Type 0
Fails unread.Memory read = ⊤
Fails unread.Malformed read = read ≡ None

abbrev pub Gives : {X Y : Type 0} → (X → Y) → Result X Unread → Option Y → Type 0
Gives view (Ok x) read = read ≡ Some (view x)
Gives view (Err e) read = Fails e read

-- why nothing was read: the one cause, or memory ran out
abbrev pub cause_of : Unread → Option (Unit {0})
cause_of unread.Malformed = Some tt
cause_of unread.Memory = None

-- a value and what is left after it, seen by view; or the one cause
abbrev pub answer_of : {A X Left : Type 0} → (X → Left) → Option (A × X) → Result (A × Left) (Unit {0})
answer_of view (Some x) = Ok (x.0, view x.1)
answer_of view None = Err tt

unfoldable pub byte_at : List ℕ → Option (ℕ × List ℕ)
byte_at [] = None
byte_at (b ∷ rest) = Some (b, rest)

unfoldable pub within_at : ℕ → ℕ → List ℕ → Option (ℕ × List ℕ)
within_at low high bytes = do
  b ← byte_at bytes
  only_if (is_within low high b.0) b

unfoldable pub little_at : ℕ → List ℕ → Option (ℕ × List ℕ)
little_at width bytes = only_if (nat_le width (length bytes)) (little_number width bytes, drop width bytes)

unfoldable pub guid_front : List ℕ → Option (Guid × List ℕ)
guid_front bytes = only_if (nat_le 16 (length bytes)) (guid_at bytes 0, drop 16 bytes)

-- the word of a number
abbrev pub word_of : ℕ → Option Word
word_of n =
    if n == 0 then Some Success
    else if n == 1 then Some InvalidParameter
    else if n == 2 then Some NotFound
    else if n == 3 then Some OutOfResources
    else if n == 4 then Some NotAvailableYet
    else if n == 5 then Some AlreadyStarted
    else if n == 6 then Some AccessDenied
    else None

unfoldable pub word_at : List ℕ → Option (Word × List ℕ)
word_at bytes = do
  b ← byte_at bytes
  word ← word_of b.0
  Some (word, b.1)

-- so many bytes
unfoldable pub bytes_at : ℕ → List ℕ → Option (List ℕ × List ℕ)
bytes_at n bytes = only_if (nat_le n (length bytes)) (take n bytes, drop n bytes)

-- a byte from 1 to high, and so many bytes
unfoldable pub counted_at : ℕ → List ℕ → Option (List ℕ × List ℕ)
counted_at high bytes = do
  n ← within_at 1 high bytes
  bytes_at n.0 n.1

unfoldable pub text_at : List ℕ → Option (List ℕ × List ℕ)
text_at bytes = do
  text ← counted_at 64 bytes
  only_if (list_all (is_within 32 126) text.0) text

unfoldable pub guid_arg_at : List ℕ → Option (GuidArg × List ℕ)
guid_arg_at bytes = do
  form ← within_at 0 1 bytes
  if form.0 == 0 then guid_front form.1 >>= (λ guid. Some (Inline guid.0, guid.1)) else byte_at form.1 >>= (λ v. Some (Register v.0, v.1))

unfoldable pub descriptor_at : List ℕ → Option ((ℕ × GuidArg × ℕ) × List ℕ)
descriptor_at bytes = do
  kind ← within_at 0 2 bytes
  guid ← guid_arg_at kind.1
  arg ← byte_at guid.1
  Some ((kind.0, guid.0, arg.0), arg.1)

unfoldable pub hob_at : List ℕ → Option ((ℕ × List ℕ) × List ℕ)
hob_at bytes = do
  kind ← byte_at bytes
  size ← little_at 2 kind.1
  body ← bytes_at size.0 size.1
  only_if (is_hob kind.0 size.0) ((kind.0, body.0), body.1)

-- operands of a format
abbrev pub read : (format : Format) → List ℕ → Option (Value format × List ℕ)
read Nothing bytes = Some (tt, bytes)
read Byte bytes = byte_at bytes
read (Within low high) bytes = within_at low high bytes
read RegisterNumber bytes = byte_at bytes
read BlockNumber bytes = byte_at bytes
read (Little width) bytes = little_at width bytes
read GuidBytes bytes = guid_front bytes
read WordNumber bytes = word_at bytes
read Counted bytes = counted_at 64 bytes
read Text bytes = text_at bytes
read Registers bytes = counted_at 8 bytes
read Descriptor bytes = descriptor_at bytes
read HobBody bytes = hob_at bytes
read (Pair first second) bytes = do
  x ← read first bytes
  y ← read second x.1
  Some ((x.0, y.0), y.1)

-- how bytes give an operand
abbrev pub byte_way : Way (List ℕ) (Unit {0})
byte_way format bytes = answer_of (λ rest. rest) (read format bytes)

-- an action, after its code
unfoldable pub operands_at : Code → List ℕ → Option (Action × List ℕ)
operands_at code bytes = do
  x ← read (format_of code) bytes
  Some (made code x.0, x.1)

-- an action of a phase
unfoldable pub action_at : Phase → List ℕ → Option (Action × List ℕ)
action_at phase bytes = do
  b ← byte_at bytes
  code ← code_of b.0
  if is_code_of phase code then operands_at code b.1 else None
