-- What a call answers beside what a definition says: the value, or what is wrong, unless memory ran out.
use Rattle.std.specs.Prelude.{◌≡◌, ℕ, ⊤, Bool, if◌then◌else◌, Option, Some, None, Result, Ok, Err}
use Rattle.volume_text.specs.{declared.fault.Cause.Cause, declared.fault.Fault.Fault, declared.fault.Stop.Stop}
use Rattle.volume_text.specs.declared.fault.Stop.TheVariants as stop
use Rattle.volume_text.specs.declared.fault.TextFault.{TextFault}
use Rattle.volume_text.specs.declared.fault.TextFault.TheVariants as text_fault

infixl 10 ◌>>=◌
abbrev pub ◌>>=◌ : {A B : Type 0} → Result A Cause → (A → Result B Cause) → Result B Cause
(Ok x) >>= f = f x
(Err e) >>= f = Err e

-- a value that passes a test
abbrev pub only_if : {A : Type 0} → Bool → Cause → A → Result A Cause
only_if test cause x = if test then Ok x else Err cause

-- a value that is there
abbrev pub there : {A : Type 0} → Cause → Option A → Result A Cause
there cause (Some x) = Ok x
there cause None = Err cause

abbrev pub Stops : {Y : Type 0} → Stop → Result Y Cause → Type 0
Stops stop.Memory read = ⊤
Stops (stop.Fault cause) read = read ≡ Err cause

-- what a call returned, seen by view, is this
abbrev pub Gives : {X Y : Type 0} → (X → Y) → Result X Stop → Result Y Cause → Type 0
Gives view (Ok x) read = read ≡ Ok (view x)
Gives view (Err e) read = Stops e read

abbrev pub StopsAs : {Y : Type 0} → (Result Y Cause → Type 0) → Stop → Type 0
StopsAs Is stop.Memory = ⊤
StopsAs Is (stop.Fault cause) = Is (Err cause)

-- what a call returned is such a value, or such a cause
abbrev pub Meets : {Y : Type 0} → (Result Y Cause → Type 0) → Result Y Stop → Type 0
Meets Is (Ok x) = Is (Ok x)
Meets Is (Err e) = StopsAs Is e

-- what is wrong is wrong with the line of this number
abbrev pub at : {A : Type 0} → ℕ → Result A Cause → Result A Fault
at line (Ok x) = Ok x
at line (Err cause) = Err (record { line = line; cause = cause })

abbrev pub onward : {A B : Type 0} → Result A Fault → (A → Result B Fault) → Result B Fault
onward (Ok x) f = f x
onward (Err e) f = Err e

abbrev pub StopsText : {Y : Type 0} → (Result Y Fault → Type 0) → TextFault → Type 0
StopsText Is text_fault.Memory = ⊤
StopsText Is (text_fault.Bad fault) = Is (Err fault)

-- what a call returned is such a value, or such a fault
abbrev pub Answers : {Y : Type 0} → (Result Y Fault → Type 0) → Result Y TextFault → Type 0
Answers Is (Ok x) = Is (Ok x)
Answers Is (Err e) = StopsText Is e
