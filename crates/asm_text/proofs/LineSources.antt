-- What any source gives, for the text of a line.
use Rattle.std.proofs.Common.{◌≡◌, ℕ, List, length, Option, Some, None, Result, Ok, refl, ap, ◌==◌, option_and_then}
use Rattle.act_code.specs.{declared.action.Action.Action, declared.code.Code.Code, declared.operand.Unread.Unread}
use Rattle.act_code.specs.declared.operand.Unread.TheVariants as unread
use Rattle.act_code.specs.Format.{Format, Value, Nothing, Byte, Pair}
use Rattle.act_code.specs.Table.{format_of, made}
use Rattle.act_code.specs.Source.{◌>>=◌, Stops, read_by, operands_by}
use Rattle.act_code.specs.Reading.{Fails, cause_of, answer_of, only_if}
use Rattle.asm_text.specs.OperandReading.{read, small_word, line_way, operands_at}

same_Ok : {A E : Type 0} (x y : A) → ◌≡◌ {A = Result A E} (Ok x) (Ok y) → x ≡ y
same_Ok x y e = cc

-- a failure of a line is one of a source
pub fails_stops : {A X Left : Type 0} (view : X → Left) (e : Unread) (read : Option (A × X)) → Fails e read → Stops (cause_of e) (answer_of view read)
fails_stops view unread.Malformed read fails = ap (answer_of view) fails
fails_stops view unread.Memory read fails = tt

-- the same, with what is read behind the first operand
made_is : {A B X Left : Type 0} (view : X → Left) (one : Result (A × Left) (Unit {0})) (read : Option (A × X)) (make : A → B)
    → one ≡ answer_of view read → (one >>= λ x. Ok (make x.0, x.1)) ≡ answer_of view (option_and_then (λ x. Some (make x.0, x.1)) read)
made_is view one None make is = rw is refl
made_is view one (Some x) make is = rw is refl

abbrev both : {A B X : Type 0} → A → B × X → (A × B) × X
both a y = ((a, y.0), y.1)

pair_is : {A B X Left : Type 0} (view : X → Left) (one : Result (A × Left) (Unit {0})) (read : Option (A × X)) (two : Left → Result (B × Left) (Unit {0})) (then : X → Option (B × X))
    → one ≡ answer_of view read → ((rest : X) → two (view rest) ≡ answer_of view (then rest))
    → (one >>= λ x. two x.1 >>= λ y. Ok (both x.0 y)) ≡ answer_of view (option_and_then (λ x. option_and_then (λ y. Some (both x.0 y)) (then x.1)) read)
pair_is view one None two then is behind = rw is refl
pair_is view one (Some x) two then is behind = rw is (made_is view (two (view x.1)) (then x.1) (λ y. (x.0, y)) (behind x.1))

abbrev beside : Code → List ℕ → Code × List ℕ
beside code rest = (code, rest)

read_is : (code : Code) (format : Format) (text : List ℕ) → read_by line_way format (code, text) ≡ answer_of (beside code) (read (small_word code) format text)
read_is code Nothing text = refl
read_is code (Pair first second) text =
    pair_is (beside code) (read_by line_way first (code, text)) (read (small_word code) first text) (read_by line_way second) (read (small_word code) second)
    (read_is code first text) (read_is code second)
read_is code Byte text = refl
read_is code _ text = refl

-- what is read of operands, whether or not more follows them
abbrev front_at : Code → List ℕ → Option (Action × List ℕ)
front_at code text = option_and_then (λ x. Some (made code x.0, x.1)) (read (small_word code) (format_of code) text)

operands_are : (code : Code) (text : List ℕ) → operands_by line_way code (code, text) ≡ answer_of (beside code) (front_at code text)
unfolding operands_by
operands_are code text =
    made_is (beside code) (read_by line_way (format_of code) (code, text)) (read (small_word code) (format_of code) text) (made code) (read_is code (format_of code) text)

found : (code : Code) (o : Option (Value (format_of code) × List ℕ)) (x : Action × (Code × List ℕ))
    → answer_of (beside code) (option_and_then (λ v. Some (made code v.0, v.1)) o) ≡ Ok x
    → option_and_then (λ v. only_if (length v.1 == 0) (made code v.0)) o ≡ only_if (length x.1.1 == 0) x.0
found code (Some v) x is =
    let front : Action × (Code × List ℕ) = (made code v.0, (code, v.1)) in
    ap (λ (p : Action × (Code × List ℕ)). only_if (length p.1.1 == 0) p.0) (same_Ok front x is)
found code None x is = absurd cc

stopped : (code : Code) (o : Option (Value (format_of code) × List ℕ)) (e : Unread)
    → Stops (cause_of e) (answer_of (beside code) (option_and_then (λ v. Some (made code v.0, v.1)) o)) → Fails e (option_and_then (λ v. only_if (length v.1 == 0) (made code v.0)) o)
stopped code (Some v) unread.Malformed stops = absurd cc
stopped code None unread.Malformed stops = refl
stopped code o unread.Memory stops = tt

-- the action, where nothing follows its operands
pub operands_found : (code : Code) (text : List ℕ) (x : Action × (Code × List ℕ)) → operands_by line_way code (code, text) ≡ Ok x → operands_at code text ≡ only_if (length x.1.1 == 0) x.0
unfolding operands_at
operands_found code text x is = found code (read (small_word code) (format_of code) text) x (rw (← operands_are code text) is)

pub operands_fail : (code : Code) (text : List ℕ) (e : Unread) → Stops (cause_of e) (operands_by line_way code (code, text)) → Fails e (operands_at code text)
unfolding operands_at
operands_fail code text e stops = stopped code (read (small_word code) (format_of code) text) e (rw (← operands_are code text) stops)
