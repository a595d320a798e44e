-- The table of actions: bytes and codes, and actions with their codes and operands.
use Rattle.std.proofs.Common.{◌≡◌, ℕ, Bool, true, false, List, [], ◌∷◌, ◌++◌, Option, Some, None, refl, sym, ap, subst, eqb-true, ◌==◌, if◌then◌else◌, find}
use Rattle.std.proofs.lemmas.Option.{same_Some}
use Rattle.pi_base.specs.{Field.AreBytes, declared.phase.Phase.Phase}
use Rattle.act_code.specs.{declared.action.Action.Action, declared.action.Action.TheVariants.Set as ActionSet, declared.code.Code.Code}
use Rattle.act_code.specs.{declared.code.Code.TheVariants.Set, declared.code.TheConstants.CODES, Script.action_bytes, Script.IsAction}
use Rattle.act_code.specs.Format.{Value, spelled, IsInRange}
use Rattle.act_code.specs.Table.{number_of, code_of, is_code_of, format_of, made, code_of_action, operands}
use Rattle.act_code.specs.Reading.{◌>>=◌, byte_at, read, operands_at, action_at}
use Rattle.act_code.proofs.Formats.{bind_some, Takes, takes_then, byte_takes, read_takes, read_again}

found_by : {X : Type 0} (p : X → Bool) (x y : X) (test : Bool) (others : Option X) → p x ≡ test → (others ≡ Some y → p y ≡ true) → (if test then Some x else others) ≡ Some y → p y ≡ true
found_by p x y true others is behind e = subst (λ z. p z ≡ true) (same_Some x y e) is
found_by p x y false others is behind e = behind e

find_passes : {X : Type 0} (p : X → Bool) (xs : List X) (y : X) → find p xs ≡ Some y → p y ≡ true
find_passes p [] y e = absurd cc
find_passes p (x ∷ xs) y e = found_by p x y (p x) (find p xs) refl (find_passes p xs y) e

-- a byte's code has that byte
code_of-is : (n : ℕ) (c : Code) → code_of n ≡ Some c → number_of c ≡ n
code_of-is n c e = sym (eqb-true n (number_of c) (find_passes (λ c. n == number_of c) CODES c e))

-- a code's byte has that code
code_of-number : (c : Code) → code_of (number_of c) ≡ Some c
code_of-number Set = refl
code_of-number _ = refl

made-bytes : (c : Code) (v : Value (format_of c)) → number_of c ∷ spelled (format_of c) v ≡ action_bytes (made c v)
made-bytes Set v = refl
made-bytes _ v = refl

made-is : (phase : Phase) (c : Code) (v : Value (format_of c)) → is_code_of phase c ≡ true → IsInRange (format_of c) v → IsAction phase (made c v)
made-is phase Set v of_phase in_range = record { of_phase = of_phase; in_range = in_range }
made-is phase _ v of_phase in_range = record { of_phase = of_phase; in_range = in_range }

made-operands : (a : Action) → made (code_of_action a) (operands a) ≡ a
made-operands (ActionSet r n) = refl
made-operands _ = refl

only_then : {A : Type 0} (test : Bool) (x : Option A) (y : A) → (if test then x else None) ≡ Some y → (test ≡ true) × (x ≡ Some y)
only_then true x y e = (refl, e)
only_then false x y e = absurd cc

-- an action that is read is one of the phase, and stands there
pub action_takes : (phase : Phase) (bytes : List ℕ) (x : Action × List ℕ) → AreBytes bytes → action_at phase bytes ≡ Some x → Takes bytes (action_bytes x.0) x.1 × IsAction phase x.0
unfolding action_at operands_at
action_takes phase bytes x all e =
    let b = bind_some (byte_at bytes) (λ b. code_of b.0 >>= λ c. if is_code_of phase c then operands_at c b.1 else None) x e in
    let c = bind_some (code_of b.0.0) (λ c. if is_code_of phase c then operands_at c b.0.1 else None) x b.2 in
    let p = only_then (is_code_of phase c.0) (operands_at c.0 b.0.1) x c.2 in
    let v = bind_some (read (format_of c.0) b.0.1) (λ v. Some (made c.0 v.0, v.1)) x p.1 in
    let t = byte_takes bytes b.0.0 b.0.1 all b.1 in
    let u = read_takes (format_of c.0) b.0.1 v.0 t.0.left v.1 in
    let is : number_of c.0 ≡ b.0.0 = code_of-is b.0.0 c.0 c.1 in
    let front : Takes bytes (number_of c.0 ∷ []) b.0.1 = rw is t.0 in
    let whole = takes_then bytes (number_of c.0 ∷ []) b.0.1 (spelled (format_of c.0) v.0.0) v.0.1 front u.0 in
    subst (λ (q : Action × List ℕ). Takes bytes (action_bytes q.0) q.1 × IsAction phase q.0) (same_Some (made c.0 v.0.0, v.0.1) x v.2)
    (subst (λ (text : List ℕ). Takes bytes text v.0.1) (made-bytes c.0 v.0.0) whole, made-is phase c.0 v.0.0 p.0 u.1)

-- and one that stands there is read
pub action_again : (phase : Phase) (a : Action) (rest : List ℕ) → IsAction phase a → action_at phase (action_bytes a ++ rest) ≡ Some (a, rest)
unfolding action_at operands_at byte_at
action_again phase a rest is =
    rw (code_of-number (code_of_action a), is.of_phase, read_again (format_of (code_of_action a)) (operands a) rest is.in_range) (ap (λ x. Some (x, rest)) (made-operands a))
