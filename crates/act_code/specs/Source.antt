-- Operands from any source: a source says how it reads one, and they follow one another (own).
use Rattle.std.specs.Prelude.{◌≡◌, ⊤, Option, Some, None, Result, Ok, Err}
use Rattle.act_code.specs.{declared.action.Action.Action, declared.code.Code.Code, Table.format_of, Table.made}
use Rattle.act_code.specs.Format.{Format, Value, Nothing, Pair}

infixl 10 ◌>>=◌
abbrev pub ◌>>=◌ : {A B Cause : Type 0} → Result A Cause → (A → Result B Cause) → Result B Cause
(Ok x) >>= f = f x
(Err e) >>= f = Err e

-- how a source reads one operand: its value and what is left after it, or the cause why there is none
abbrev pub Way : Type 0 → Type 0 → Type 0
Way Left Cause = (format : Format) → Left → Result (Value format × Left) Cause

-- operands of a format, by a way to read each of them
abbrev pub read_by : {Left Cause : Type 0} → Way Left Cause → (format : Format) → Left → Result (Value format × Left) Cause
read_by way (Pair first second) left = do
  x ← read_by way first left
  y ← read_by way second x.1
  Ok ((x.0, y.0), y.1)
read_by way Nothing left = Ok (tt, left)
read_by way format left = way format left

-- the action of a code, and what is left after its operands
unfoldable pub operands_by : {Left Cause : Type 0} → Way Left Cause → Code → Left → Result (Action × Left) Cause
operands_by way code left = do
  x ← read_by way (format_of code) left
  Ok (made code x.0, x.1)

-- a failure has the cause why nothing is read, unless memory ran out
abbrev pub Stops : {Cause Y : Type 0} → Option Cause → Result Y Cause → Type 0
Stops None read = ⊤
Stops (Some cause) read = read ≡ Err cause

-- a value and what is left of the source are what reading gives
abbrev pub Gives : {Self Fault Left Cause X : Type 0} → (Self → Left) → (Fault → Option Cause) → Result (X × Self) Fault → Result (X × Left) Cause → Type 0
Gives left cause (Ok x) read = read ≡ Ok (x.0, left x.1)
Gives left cause (Err fault) read = Stops (cause fault) read
