-- Things one behind the other: what is read is spelled so, what is spelled so is read, and a fault is the first one's.
use Rattle.std.proofs.Common.{◌≡◌, ℕ, suc, zero, ◌-◌, ◌≤◌, ◌<◌, List, [], ◌∷◌, ◌++◌, length, Result, Ok, Err, refl, sym, ap, subst, ◌∙◌, append_assoc, arith, flat_map}
use Rattle.pi_base.specs.Field.{AreBytes}
use Rattle.act_code.specs.{declared.fault.ActFault.ActFault, ScriptReading.◌>>=◌, ScriptReading.many, Script.Each}
use Rattle.act_code.proofs.{Formats.Takes, Formats.takes_then, Many.with_front}

-- the value of a step that did not fail
pub bind_ok : {A B : Type 0} (r : Result A ActFault) (f : A → Result B ActFault) (y : B) → (r >>= f) ≡ Ok y → (x : A) × (r ≡ Ok x) × (f x ≡ Ok y)
bind_ok (Ok x) f y e = (x, refl, e)
bind_ok (Err d) f y e = absurd cc

abbrev done : {A : Type 0} → A → Result A ActFault
done x = Ok x

pub ok_is : {A : Type 0} (x y : A) → done x ≡ done y → x ≡ y
ok_is x y e = cc

pub err_is : {A : Type 0} (f g : ActFault) → ◌≡◌ {A = Result A ActFault} (Err f) (Err g) → f ≡ g
err_is f g e = cc

-- one thing: what is read is spelled so and good, and what is good is read
pub record Laws {A : Type 0} (one : ℕ → List ℕ → Result (A × List ℕ) ActFault) (spell : A → List ℕ) (Good : ℕ → A → Type 0) : Type 0 where
  pub takes : (left : ℕ) (bytes : List ℕ) (x : A × List ℕ) → AreBytes bytes → one left bytes ≡ Ok x → Takes bytes (spell x.0) x.1 × Good left x.0
  pub again : (left : ℕ) (x : A) (rest : List ℕ) → Good left x → one left (spell x ++ rest) ≡ Ok (x, rest)

one_less : (n : ℕ) → suc n - 1 ≡ n
one_less n = omega arith

pub many_takes : {A : Type 0} (one : ℕ → List ℕ → Result (A × List ℕ) ActFault) (spell : A → List ℕ) (Good : ℕ → A → Type 0) (laws : Laws one spell Good) (n : ℕ) (bytes : List ℕ) (x : List A × List ℕ)
    → AreBytes bytes → many one n bytes ≡ Ok x → Takes bytes (flat_map spell x.0) x.1 × (length x.0 ≡ n) × Each Good n x.0
unfolding many
many_takes {A} one spell Good laws zero bytes x all e =
    subst (λ (y : List A × List ℕ). Takes bytes (flat_map spell y.0) y.1 × (length y.0 ≡ 0) × Each Good 0 y.0) (ok_is ([], bytes) x e) (record { parts = refl; left = all }, refl, tt)
many_takes {A} one spell Good laws (suc n) bytes x all e =
    let a = bind_ok (one (suc n) bytes) (λ first. many one n first.1 >>= λ others. Ok (first.0 ∷ others.0, others.1)) x e in
    let b = bind_ok (many one n a.0.1) (λ others. Ok (a.0.0 ∷ others.0, others.1)) x a.2 in
    let first = laws.takes (suc n) bytes a.0 all a.1 in
    let second = many_takes one spell Good laws n a.0.1 b.0 first.0.left b.1 in
    let made : List A × List ℕ = (a.0.0 ∷ b.0.0, b.0.1) in
    let others : Each Good (suc n - 1) b.0.0 = subst (λ k. Each Good k b.0.0) (sym (one_less n)) second.2 in
    subst (λ (y : List A × List ℕ). Takes bytes (flat_map spell y.0) y.1 × (length y.0 ≡ suc n) × Each Good (suc n) y.0) (ok_is made x b.2)
    (takes_then bytes (spell a.0.0) a.0.1 (flat_map spell b.0.0) b.0.1 first.0 second.0, ap suc second.1, (first.1, others))

pub many_again : {A : Type 0} (one : ℕ → List ℕ → Result (A × List ℕ) ActFault) (spell : A → List ℕ) (Good : ℕ → A → Type 0) (laws : Laws one spell Good) (n : ℕ) (xs : List A) (rest : List ℕ)
    → Each Good n xs → length xs ≤ n → many one n (flat_map spell xs ++ rest) ≡ with_front xs (many one (n - length xs) rest)
unfolding many
many_again {A} one spell Good laws n [] rest good le = nothing (many one n rest) ∙ ap (λ k. with_front [] (many one k rest)) (omega arith)
  where
    nothing : (r : Result (List A × List ℕ) ActFault) → r ≡ with_front [] r
    nothing (Ok x) = refl
    nothing (Err f) = refl
many_again {A} one spell Good laws zero (x ∷ xs) rest good le = absurd (omega arith)
many_again {A} one spell Good laws (suc n) (x ∷ xs) rest good le =
    let grouped : (spell x ++ flat_map spell xs) ++ rest ≡ spell x ++ (flat_map spell xs ++ rest) = append_assoc (spell x) (flat_map spell xs) rest in
    let others : Each Good n xs = subst (λ k. Each Good k xs) (one_less n) good.1 in
    let less : suc n - suc (length xs) ≡ n - length xs = omega arith in
    ap (many one (suc n)) grouped ∙ rw (laws.again (suc n) x (flat_map spell xs ++ rest) good.0, many_again one spell Good laws n xs rest others (omega arith), less) (joined (many one (n - length xs) rest))
  where
    joined : (r : Result (List A × List ℕ) ActFault) → (with_front xs r >>= λ others. Ok (x ∷ others.0, others.1)) ≡ with_front (x ∷ xs) r
    joined (Ok y) = refl
    joined (Err f) = refl

-- good things up to one at fault
pub record Fails {A : Type 0} (one : ℕ → List ℕ → Result (A × List ℕ) ActFault) (spell : A → List ℕ) (Good : ℕ → A → Type 0) (n : ℕ) (bytes : List ℕ) (f : ActFault) : Type 0 where
  pub before : List A
  pub rest : List ℕ
  pub here : Takes bytes (flat_map spell before) rest
  pub few : length before < n
  pub good : Each Good n before
  pub wrong : one (n - length before) rest ≡ Err f

abbrev prepended : {A : Type 0} → A → Result (List A × List ℕ) ActFault → Result (List A × List ℕ) ActFault
prepended x r = r >>= λ others. Ok (x ∷ others.0, others.1)

abbrev joined_with : {A : Type 0} → (ℕ → List ℕ → Result (A × List ℕ) ActFault) → ℕ → A × List ℕ → Result (List A × List ℕ) ActFault
joined_with one n x = prepended x.0 (many one n x.1)

pub many_fails : {A : Type 0} (one : ℕ → List ℕ → Result (A × List ℕ) ActFault) (spell : A → List ℕ) (Good : ℕ → A → Type 0) (laws : Laws one spell Good) (n : ℕ) (bytes : List ℕ) (f : ActFault)
    → AreBytes bytes → many one n bytes ≡ Err f → Fails one spell Good n bytes f
unfolding many
many_fails one spell Good laws zero bytes f all e = absurd cc
many_fails {A} one spell Good laws (suc n) bytes f all e = first (one (suc n) bytes) refl e
    (λ x g h. many_fails one spell Good laws n x g h)
  where
    later : (x : A × List ℕ) → one (suc n) bytes ≡ Ok x → (r : Result (List A × List ℕ) ActFault) → many one n x.1 ≡ r → prepended x.0 r ≡ Err f
        → ((rest : List ℕ) (g : ActFault) → AreBytes rest → many one n rest ≡ Err g → Fails one spell Good n rest g) → Fails one spell Good (suc n) bytes f
    later x is (Ok y) read e' more = absurd cc
    later x is (Err g) read e' more =
        let t = laws.takes (suc n) bytes x all is in
        let m = more x.1 g t.0.left read in
        let same : g ≡ f = cc in
        let less : suc n - suc (length m.before) ≡ n - length m.before = omega arith in
        record {
          before = x.0 ∷ m.before;
          rest = m.rest;
          here = takes_then bytes (spell x.0) x.1 (flat_map spell m.before) m.rest t.0 m.here;
          few = omega (arith, m.few);
          good = (t.1, subst (λ k. Each Good k m.before) (sym (one_less n)) m.good);
          wrong = rw (less, ← same) m.wrong;
        }

    first : (r : Result (A × List ℕ) ActFault) → one (suc n) bytes ≡ r → (r >>= joined_with one n) ≡ Err f → ((rest : List ℕ) (g : ActFault) → AreBytes rest → many one n rest ≡ Err g → Fails one spell Good n rest g) → Fails one spell Good (suc n) bytes f
    first (Ok x) is e' more = later x is (many one n x.1) refl e' more
    first (Err g) is e' more =
        let same : g ≡ f = err_is {A = List A × List ℕ} g f e' in
        let here : one (suc n) bytes ≡ Err f = is ∙ ap (λ h. Err h) same in
        let whole : suc n - 0 ≡ suc n = omega arith in
        record { before = []; rest = bytes; here = record { parts = refl; left = all }; few = omega arith; good = tt; wrong = rw whole here }

pub many_fails_again : {A : Type 0} (one : ℕ → List ℕ → Result (A × List ℕ) ActFault) (spell : A → List ℕ) (Good : ℕ → A → Type 0) (laws : Laws one spell Good) (n : ℕ) (xs : List A) (rest : List ℕ) (f : ActFault)
    → Each Good n xs → length xs < n → one (n - length xs) rest ≡ Err f → many one n (flat_map spell xs ++ rest) ≡ Err f
unfolding many
many_fails_again one spell Good laws n xs rest f good few wrong =
    let k : n - length xs ≡ suc (n - length xs - 1) = omega arith in
    let here : one (suc (n - length xs - 1)) rest ≡ Err f = rw (← k) wrong in
    many_again one spell Good laws n xs rest good (omega arith) ∙ rw (k, here) refl
