-- One action with its tests, and one number of actions: what is read, and the fault where nothing is.
use Rattle.std.proofs.Common.{◌≡◌, ℕ, Bool, true, false, List, ◌++◌, length, drop, Option, Some, None, Result, Ok, Err, refl, sym, ap, subst, ◌∙◌, arith, inl, inr, ◌&&◌, nat_le, if◌then◌else◌, ◌⊎◌, length-append, drop_at, take-append-drop}
use Rattle.std.proofs.lemmas.Bool.{false≢true}
use Rattle.pi_base.specs.Field.{AreBytes, little_number, little_bytes}
use Rattle.act_code.specs.{declared.action.Action.Action, declared.header.Header.Header, declared.fault.ActFault.ActFault}
use Rattle.act_code.specs.{declared.fault.ActCause.ActCause, Format.is_within, Index.is_indexed, Index.has_room, Reading.action_at}
use Rattle.act_code.specs.declared.fault.ActCause.TheVariants as cause
use Rattle.act_code.specs.ScriptReading.{fault_at, checked, checked_at, count_at}
use Rattle.act_code.specs.Script.{action_bytes, IsAction, IsSound, IsActionFault, HasNoCount}
use Rattle.pi_base.specs.Lists.{Begins}
use Rattle.act_code.proofs.Fields.{little_reads, little_back, length-little}
use Rattle.act_code.proofs.Formats.{Takes, within_small, long_enough, long_tested, AreBytes-drop}
use Rattle.act_code.proofs.{Codes.action_takes, Codes.action_again, Lists.Laws}

abbrev Tests : {A : Type 0} → Bool → Bool → A → ActFault → ActFault → Result A ActFault
Tests indexed room x jump index = if indexed then (if room then Ok x else Err jump) else Err index

tests_pass : {A : Type 0} (indexed room : Bool) (x y : A) (jump index : ActFault) → Tests indexed room x jump index ≡ Ok y → (indexed ≡ true) × (room ≡ true) × (x ≡ y)
tests_pass true true x y jump index e = (refl, refl, cc)
tests_pass true false x y jump index e = absurd cc
tests_pass false room x y jump index e = absurd cc

tests_fail : {A : Type 0} (indexed room : Bool) (x : A) (jump index f : ActFault) → Tests indexed room x jump index ≡ Err f → ((indexed ≡ false) × (index ≡ f)) ⊎ ((indexed ≡ true) × (room ≡ false) × (jump ≡ f))
tests_fail true true x jump index f e = absurd cc
tests_fail true false x jump index f e = inr (refl, refl, cc)
tests_fail false room x jump index f e = inl (refl, cc)

checked_takes : (header : Header) (left : ℕ) (bytes : List ℕ) (x : Action × List ℕ) → AreBytes bytes → checked_at header left bytes ≡ Ok x → Takes bytes (action_bytes x.0) x.1 × IsSound header.phase header.blocks left x.0
unfolding checked_at checked
checked_takes header left bytes x all e = of (action_at header.phase bytes) refl e
  where
    of : (o : Option (Action × List ℕ)) → action_at header.phase bytes ≡ o → checked header left bytes o ≡ Ok x → Takes bytes (action_bytes x.0) x.1 × IsSound header.phase header.blocks left x.0
    of None is e' = absurd cc
    of (Some y) is e' =
        let p = tests_pass (is_indexed header.blocks y.0) (has_room left y.0) y x (fault_at header.size cause.Jump bytes) (fault_at header.size cause.Index bytes) e' in
        let t = action_takes header.phase bytes y all is in
        subst (λ (z : Action × List ℕ). Takes bytes (action_bytes z.0) z.1 × IsSound header.phase header.blocks left z.0) p.2 (t.0, record { is = t.1; indexed = p.0; room = p.1 })

checked_again : (header : Header) (left : ℕ) (a : Action) (rest : List ℕ) → IsSound header.phase header.blocks left a → checked_at header left (action_bytes a ++ rest) ≡ Ok (a, rest)
unfolding checked_at checked
checked_again header left a rest sound =
    ap (checked header left (action_bytes a ++ rest)) (action_again header.phase a rest sound.is) ∙ rw (sound.indexed, sound.room) refl

pub action_laws : (header : Header) → Laws (checked_at header) action_bytes (IsSound header.phase header.blocks)
action_laws header = record { takes = checked_takes header; again = checked_again header }

abbrev IsToldAction : Header → ℕ → List ℕ → ActFault → Type 0
IsToldAction header left bytes f = IsActionFault header.phase header.blocks left bytes f.cause × (f ≡ fault_at header.size f.cause bytes)

-- what is wrong where no action is read
pub checked_fails : (header : Header) (left : ℕ) (bytes : List ℕ) (f : ActFault) → AreBytes bytes → checked_at header left bytes ≡ Err f
    → IsActionFault header.phase header.blocks left bytes f.cause × (f ≡ fault_at header.size f.cause bytes)
unfolding checked_at checked
checked_fails header left bytes f all e = of (action_at header.phase bytes) refl e
  where
    of : (o : Option (Action × List ℕ)) → action_at header.phase bytes ≡ o → checked header left bytes o ≡ Err f → IsToldAction header left bytes f
    of None is e' =
        let same : fault_at header.size cause.Action bytes ≡ f = cc in
        subst (IsToldAction header left bytes) same (
          (λ a good begins.
              let there : action_at header.phase bytes ≡ Some (a, begins.0) = ap (action_at header.phase) begins.1 ∙ action_again header.phase a begins.0 good in
              let both : ◌≡◌ {A = Option (Action × List ℕ)} None (Some (a, begins.0)) = sym is ∙ there in absurd cc),
          refl,
        )
    of (Some y) is e' =
        let t = action_takes header.phase bytes y all is in
        elim (tests_fail (is_indexed header.blocks y.0) (has_room left y.0) y (fault_at header.size cause.Jump bytes) (fault_at header.size cause.Index bytes) f e') [
          | inl (no_index, same) ↦ subst (IsToldAction header left bytes) same ((y.0, t.1, (y.1, t.0.parts), no_index), refl)
          | inr (indexed, no_room, same) ↦ subst (IsToldAction header left bytes) same ((y.0, t.1, (y.1, t.0.parts), indexed, no_room), refl)
        ]

there_again : (header : Header) (left : ℕ) (bytes : List ℕ) (a : Action) → IsAction header.phase a → Begins bytes (action_bytes a) → (rest : List ℕ) × (checked_at header left bytes ≡ checked header left bytes (Some (a, rest)))
unfolding checked_at checked
there_again header left bytes a good begins = (begins.0, ap (checked header left bytes) (ap (action_at header.phase) begins.1 ∙ action_again header.phase a begins.0 good))

-- and where that is wrong, no action is read
pub checked_fails_again : (header : Header) (left : ℕ) (bytes : List ℕ) (c : ActCause) → AreBytes bytes → IsActionFault header.phase header.blocks left bytes c → checked_at header left bytes ≡ Err (fault_at header.size c bytes)
unfolding checked_at checked
checked_fails_again header left bytes cause.Action all wrong = of (action_at header.phase bytes) refl
  where
    of : (o : Option (Action × List ℕ)) → action_at header.phase bytes ≡ o → checked header left bytes (action_at header.phase bytes) ≡ Err (fault_at header.size cause.Action bytes)
    of None is = ap (checked header left bytes) is
    of (Some y) is = let t = action_takes header.phase bytes y all is in absurd (wrong y.0 t.1 (y.1, t.0.parts))
checked_fails_again header left bytes cause.Index all wrong =
    let at = there_again header left bytes wrong.0 wrong.1 wrong.2 in at.1 ∙ rw wrong.3 refl
checked_fails_again header left bytes cause.Jump all wrong =
    let at = there_again header left bytes wrong.0 wrong.1 wrong.2 in at.1 ∙ rw (wrong.3, wrong.4) refl
checked_fails_again header left bytes cause.Magic all wrong = absurd wrong
checked_fails_again header left bytes cause.Version all wrong = absurd wrong
checked_fails_again header left bytes cause.Phase all wrong = absurd wrong
checked_fails_again header left bytes cause.Count all wrong = absurd wrong
checked_fails_again header left bytes cause.Block all wrong = absurd wrong
checked_fails_again header left bytes cause.Memory all wrong = absurd wrong

-- ---- the number of a block's actions

both_true : (a b : Bool) → (a && b) ≡ true → (a ≡ true) × (b ≡ true)
both_true true b e = (refl, e)
both_true false b e = absurd (false≢true e)

pub count_again : (header : Header) (n : ℕ) (rest : List ℕ) → is_within 1 1024 n ≡ true → count_at header (little_bytes 2 n ++ rest) ≡ Ok (n, rest)
unfolding count_at
count_again header n rest is =
    let long : nat_le 2 (length (little_bytes 2 n ++ rest)) ≡ true = long_tested 2 _ (omega (arith, length-append (little_bytes 2 n) rest, length-little 2 n)) in
    let back : little_number 2 (little_bytes 2 n ++ rest) ≡ n = little_reads 2 n rest (within_small 1 1024 n (omega arith) is) in
    rw (long, back, is, drop_at (little_bytes 2 n) rest 2 (length-little 2 n)) refl

counted_or : (b : Bool) (x : ℕ × List ℕ) (g : ActFault) (r : Result (ℕ × List ℕ) ActFault) → (if b then Ok x else Err g) ≡ r → ((b ≡ true) × (r ≡ Ok x)) ⊎ (r ≡ Err g)
counted_or true x g r e = inl (refl, sym e)
counted_or false x g r e = inr (sym e)

pub count_takes : (header : Header) (bytes : List ℕ) (x : ℕ × List ℕ) → AreBytes bytes → count_at header bytes ≡ Ok x → Takes bytes (little_bytes 2 x.0) x.1 × (is_within 1 1024 x.0 ≡ true)
unfolding count_at
count_takes header bytes x all e =
    elim (counted_or (nat_le 2 (length bytes) && is_within 1 1024 (little_number 2 bytes)) (little_number 2 bytes, drop 2 bytes) (fault_at header.size cause.Block bytes) (Ok x) e) [
      | inl (tests, same) ↦
          let p = both_true (nat_le 2 (length bytes)) (is_within 1 1024 (little_number 2 bytes)) tests in
          let is : x ≡ (little_number 2 bytes, drop 2 bytes) = cc in
          let front : bytes ≡ little_bytes 2 (little_number 2 bytes) ++ drop 2 bytes = sym (take-append-drop 2 bytes) ∙ ap (λ t. t ++ drop 2 bytes) (sym (little_back 2 bytes all (long_enough 2 (length bytes) p.0))) in
          subst (λ (p : ℕ × List ℕ). Takes bytes (little_bytes 2 p.0) p.1 × (is_within 1 1024 p.0 ≡ true)) (sym is) (record { parts = front; left = AreBytes-drop 2 bytes all }, p.1)
      | inr same ↦ absurd cc
    ]

count_fault : (header : Header) (bytes : List ℕ) (f : ActFault) → count_at header bytes ≡ Err f → f ≡ fault_at header.size cause.Block bytes
unfolding count_at
count_fault header bytes f e =
    elim (counted_or (nat_le 2 (length bytes) && is_within 1 1024 (little_number 2 bytes)) (little_number 2 bytes, drop 2 bytes) (fault_at header.size cause.Block bytes) (Err f) e) [
      | inl (tests, same) ↦ absurd cc
      | inr same ↦ cc
    ]

pub count_fails : (header : Header) (bytes : List ℕ) (f : ActFault) → count_at header bytes ≡ Err f → HasNoCount bytes × (f ≡ fault_at header.size cause.Block bytes)
count_fails header bytes f e = (
  (λ n is begins.
      let there : count_at header bytes ≡ Ok (n, begins.0) = ap (count_at header) begins.1 ∙ count_again header n begins.0 is in
      let both : ◌≡◌ {A = Result (ℕ × List ℕ) ActFault} (Err f) (Ok (n, begins.0)) = sym e ∙ there in absurd cc),
  count_fault header bytes f e,
)

pub count_fails_again : (header : Header) (bytes : List ℕ) → AreBytes bytes → HasNoCount bytes → count_at header bytes ≡ Err (fault_at header.size cause.Block bytes)
count_fails_again header bytes all none = of (count_at header bytes) refl
  where
    of : (r : Result (ℕ × List ℕ) ActFault) → count_at header bytes ≡ r → count_at header bytes ≡ Err (fault_at header.size cause.Block bytes)
    of (Ok x) is = let t = count_takes header bytes x all is in absurd (none x.0 t.1 (x.1, t.0.parts))
    of (Err f) is = is ∙ ap (λ g. Err g) (count_fault header bytes f is)
