-- What any source gives, for the words of a line.
use Rattle.std.proofs.Common.{◌≡◌, ℕ, List, length, Result, Ok, Err, refl, ap, ◌==◌}
use Rattle.act_code.specs.{declared.action.Action.Action, declared.code.Code.Code, Table.format_of, Table.made}
use Rattle.act_code.specs.Format.{Format, Value, Nothing, Byte, Pair}
use Rattle.act_code.specs.Source.{Stops as SourceStops, read_by, operands_by}
use Rattle.source_words.specs.{declared.script.fault.LineFault.LineFault, declared.script.fault.Stop.Stop}
use Rattle.source_words.specs.declared.script.fault.LineFault.TheVariants as fault
use Rattle.source_words.specs.declared.script.fault.Stop.TheVariants as stop
use Rattle.source_words.specs.Reading.{◌>>=◌, only_if, Stops, cause_of, answer_of}
use Rattle.source_words.specs.Operands.{read, word_way, operands_at}

same_Ok : {A E : Type 0} (x y : A) → ◌≡◌ {A = Result A E} (Ok x) (Ok y) → x ≡ y
same_Ok x y e = cc

-- a failure of words is one of a source
pub stops_too : {A X Left : Type 0} (view : X → Left) (e : Stop) (read : Result (A × X) LineFault) → Stops e read → SourceStops (cause_of e) (answer_of view read)
stops_too view (stop.Fault f) read stops = ap (answer_of view) stops
stops_too view stop.Memory read stops = tt

-- the same, with what is read behind the first operand
made_is : {A B X Left : Type 0} (view : X → Left) (one : Result (A × Left) LineFault) (read : Result (A × X) LineFault) (make : A → B)
    → one ≡ answer_of view read → (one >>= λ x. Ok (make x.0, x.1)) ≡ answer_of view (read >>= λ x. Ok (make x.0, x.1))
made_is view one (Err e) make is = rw is refl
made_is view one (Ok x) make is = rw is refl

abbrev both : {A B X : Type 0} → A → B × X → (A × B) × X
both a y = ((a, y.0), y.1)

pair_is : {A B X Left : Type 0} (view : X → Left) (one : Result (A × Left) LineFault) (read : Result (A × X) LineFault) (two : Left → Result (B × Left) LineFault)
    (then : X → Result (B × X) LineFault) → one ≡ answer_of view read → ((rest : X) → two (view rest) ≡ answer_of view (then rest))
    → (one >>= λ x. two x.1 >>= λ y. Ok (both x.0 y)) ≡ answer_of view (read >>= λ x. then x.1 >>= λ y. Ok (both x.0 y))
pair_is view one (Err e) two then is behind = rw is refl
pair_is view one (Ok x) two then is behind = rw is (made_is view (two (view x.1)) (then x.1) (λ y. (x.0, y)) (behind x.1))

abbrev beside : Code → List (List ℕ) → Code × List (List ℕ)
beside code rest = (code, rest)

read_is : (code : Code) (format : Format) (words : List (List ℕ)) → read_by word_way format (code, words) ≡ answer_of (beside code) (read code format words)
read_is code Nothing words = refl
read_is code (Pair first second) words =
    pair_is (beside code) (read_by word_way first (code, words)) (read code first words) (read_by word_way second) (read code second)
    (read_is code first words) (read_is code second)
read_is code Byte words = refl
read_is code _ words = refl

operands_are : (code : Code) (words : List (List ℕ))
    → operands_by word_way code (code, words) ≡ answer_of (beside code) (read code (format_of code) words >>= λ x. Ok (made code x.0, x.1))
unfolding operands_by
operands_are code words = made_is (beside code) (read_by word_way (format_of code) (code, words)) (read code (format_of code) words) (made code) (read_is code (format_of code) words)

found : (code : Code) (r : Result (Value (format_of code) × List (List ℕ)) LineFault) (x : Action × (Code × List (List ℕ)))
    → answer_of (beside code) (r >>= λ v. Ok (made code v.0, v.1)) ≡ Ok x
    → (r >>= λ v. only_if (length v.1 == 0) fault.Extra (made code v.0)) ≡ only_if (length x.1.1 == 0) fault.Extra x.0
found code (Ok v) x is =
    let front : Action × (Code × List (List ℕ)) = (made code v.0, (code, v.1)) in
    ap (λ (p : Action × (Code × List (List ℕ))). only_if (length p.1.1 == 0) fault.Extra p.0) (same_Ok front x is)
found code (Err e) x is = absurd cc

stopped : (code : Code) (r : Result (Value (format_of code) × List (List ℕ)) LineFault) (e : Stop)
    → SourceStops (cause_of e) (answer_of (beside code) (r >>= λ v. Ok (made code v.0, v.1))) → Stops e (r >>= λ v. only_if (length v.1 == 0) fault.Extra (made code v.0))
stopped code (Ok v) (stop.Fault f) stops = absurd cc
stopped code (Err f) (stop.Fault g) stops = cc
stopped code r stop.Memory stops = tt

-- the action, where nothing follows its operands
pub operands_found : (code : Code) (words : List (List ℕ)) (x : Action × (Code × List (List ℕ)))
    → operands_by word_way code (code, words) ≡ Ok x → operands_at code words ≡ only_if (length x.1.1 == 0) fault.Extra x.0
unfolding operands_at
operands_found code words x is = found code (read code (format_of code) words) x (rw (← operands_are code words) is)

pub operands_fail : (code : Code) (words : List (List ℕ)) (e : Stop) → SourceStops (cause_of e) (operands_by word_way code (code, words)) → Stops e (operands_at code words)
unfolding operands_at
operands_fail code words e stops = stopped code (read code (format_of code) words) e (rw (← operands_are code words) stops)
