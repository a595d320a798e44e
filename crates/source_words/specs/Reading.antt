-- Reading a line from left to right: a value and the words behind it, or what is wrong.
use Rattle.std.specs.Prelude.{◌≡◌, ⊤, Bool, if◌then◌else◌, Option, Some, None, Result, Ok, Err}
pub use Rattle.act_code.specs.Source.{◌>>=◌}
use Rattle.source_words.specs.{declared.script.fault.LineFault.LineFault, declared.script.fault.Stop.Stop}
use Rattle.source_words.specs.declared.script.fault.Stop.TheVariants as stop

-- a value that passes a test
abbrev pub only_if : {A : Type 0} → Bool → LineFault → A → Result A LineFault
only_if test fault x = if test then Ok x else Err fault

-- a value that is there
abbrev pub there : {A : Type 0} → LineFault → Option A → Result A LineFault
there fault (Some x) = Ok x
there fault None = Err fault

-- what a function returned, seen by view, is what reading gives, unless memory ran out
abbrev pub Stops : {Y : Type 0} → Stop → Result Y LineFault → Type 0
Stops stop.Memory read = ⊤
Stops (stop.Fault fault) read = read ≡ Err fault

abbrev pub Gives : {X Y : Type 0} → (X → Y) → Result X Stop → Result Y LineFault → Type 0
Gives view (Ok x) read = read ≡ Ok (view x)
Gives view (Err e) read = Stops e read

-- why nothing was read: the fault, or memory ran out
abbrev pub cause_of : Stop → Option LineFault
cause_of (stop.Fault fault) = Some fault
cause_of stop.Memory = None

-- a value and what is left behind it, seen by view
abbrev pub answer_of : {A X Left : Type 0} → (X → Left) → Result (A × X) LineFault → Result (A × Left) LineFault
answer_of view (Ok x) = Ok (x.0, view x.1)
answer_of view (Err fault) = Err fault
