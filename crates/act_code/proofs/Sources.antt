-- Reading from any source, and from bytes.
use Rattle.std.proofs.Common.{◌≡◌, ℕ, List, Option, Some, None, Result, Ok, Err, refl, ap, option_and_then}
use Rattle.act_code.specs.{declared.action.Action.Action, declared.code.Code.Code, declared.operand.Unread.Unread}
use Rattle.act_code.specs.declared.operand.Unread.TheVariants as unread
use Rattle.act_code.specs.Format.{Format, Nothing, Byte, Pair}
use Rattle.act_code.specs.Table.{format_of, made}
use Rattle.act_code.specs.Source.{◌>>=◌, Gives as SourceGives, Stops, read_by, operands_by}
use Rattle.act_code.specs.Reading.{Fails, Gives, cause_of, answer_of, read, byte_way, operands_at}

-- what stops a reading stops one that goes on behind it
pub stops_then : {A B Cause : Type 0} (cause : Option Cause) (read : Result A Cause) (f : A → Result B Cause) → Stops cause read → Stops cause (read >>= f)
stops_then None read f stops = tt
stops_then (Some cause) read f stops = ap (λ r. r >>= f) stops

-- a failure of bytes is one of a source
pub fails_stops : {A : Type 0} (e : Unread) (read : Option (A × List ℕ)) → Fails e read → Stops (cause_of e) (answer_of (λ rest. rest) read)
fails_stops unread.Malformed read fails = ap (answer_of (λ rest. rest)) fails
fails_stops unread.Memory read fails = tt

-- what bytes give is what a source gives
pub given : {A X : Type 0} (view : X → List ℕ) (result : Result (A × X) Unread) (read : Option (A × List ℕ))
    → Gives (λ x. (x.0, view x.1)) result read → SourceGives view cause_of result (answer_of (λ rest. rest) read)
given view (Ok x) read is = ap (answer_of (λ rest. rest)) is
given view (Err e) read fails = fails_stops e read fails

-- an action of what is read
made_is : {A B X : Type 0} (one : Result (A × X) (Unit {0})) (read : Option (A × X)) (make : A → B)
    → one ≡ answer_of (λ rest. rest) read → (one >>= λ x. Ok (make x.0, x.1)) ≡ answer_of (λ rest. rest) (option_and_then (λ x. Some (make x.0, x.1)) read)
made_is one None make is = rw is refl
made_is one (Some x) make is = rw is refl

abbrev both : {A B X : Type 0} → A → B × X → (A × B) × X
both a y = ((a, y.0), y.1)

pair_is : {A B X : Type 0} (one : Result (A × X) (Unit {0})) (read : Option (A × X)) (two : X → Result (B × X) (Unit {0})) (then : X → Option (B × X))
    → one ≡ answer_of (λ rest. rest) read → ((rest : X) → two rest ≡ answer_of (λ rest. rest) (then rest))
    → (one >>= λ x. two x.1 >>= λ y. Ok (both x.0 y)) ≡ answer_of (λ rest. rest) (option_and_then (λ x. option_and_then (λ y. Some (both x.0 y)) (then x.1)) read)
pair_is one None two then is behind = rw is refl
pair_is one (Some x) two then is behind = rw is (made_is (two x.1) (then x.1) (λ y. (x.0, y)) (behind x.1))

read_is : (format : Format) (bytes : List ℕ) → read_by byte_way format bytes ≡ answer_of (λ rest. rest) (read format bytes)
read_is Nothing bytes = refl
read_is (Pair first second) bytes = pair_is (read_by byte_way first bytes) (read first bytes) (read_by byte_way second) (read second) (read_is first bytes) (read_is second)
read_is Byte bytes = refl
read_is _ bytes = refl

operands_are : (code : Code) (bytes : List ℕ) → operands_by byte_way code bytes ≡ answer_of (λ rest. rest) (operands_at code bytes)
unfolding operands_by operands_at
operands_are code bytes = made_is (read_by byte_way (format_of code) bytes) (read (format_of code) bytes) (made code) (read_is (format_of code) bytes)

answered : {A X : Type 0} (read : Option (A × X)) (x : A × X) → answer_of (λ rest. rest) read ≡ Ok x → read ≡ Some x
answered (Some y) x is = cc
answered None x is = absurd cc

stopped : {A X : Type 0} (e : Unread) (read : Option (A × X)) → Stops (cause_of e) (answer_of (λ rest. rest) read) → Fails e read
stopped unread.Malformed (Some y) stops = absurd cc
stopped unread.Malformed None stops = refl
stopped unread.Memory read stops = tt

-- what any source gives, for bytes
pub operands_given : {X : Type 0} (code : Code) (bytes : List ℕ) (view : X → List ℕ) (result : Result (Action × X) Unread)
    → SourceGives view cause_of result (operands_by byte_way code bytes) → Gives (λ x. (x.0, view x.1)) result (operands_at code bytes)
operands_given code bytes view (Ok x) is = answered (operands_at code bytes) (x.0, view x.1) (rw (← operands_are code bytes) is)
operands_given code bytes view (Err e) stops = stopped e (operands_at code bytes) (rw (← operands_are code bytes) stops)
