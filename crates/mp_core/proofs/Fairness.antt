-- The table starts a processor only where its last job is done, and a processor is busy where a part of a job is not yet done.
use Rattle.std.proofs.Common.{◌≡◌, ℕ, zero, suc, ◌<◌, ◌≤◌, Bool, true, false, not, ◌||◌, cond, eqb, ltb, List, [], ◌∷◌, ◌++◌, length, drop, sym, refl, ap, subst, ◌∙◌, arith, Option, Some, None, ⊎_elim, true≢false, eqb-true, ne_eqb, lt-ltb, le-ltb, append-nil, is_some}
use Rattle.std.proofs.lemmas.Bool.{false≢true, eqb-false, cases_lt}
use Rattle.std.proofs.lemmas.List.{drop_all}
use Rattle.std.specs.Option.{option_or}
use Rattle.mp_core.specs.{declared.op.Op.Op, Past.is_empty, Fair.starts, Fair.IsFair}
use Rattle.mp_core.specs.Schedule.{Step, Starts, Turns, turns, last_start, is_busy, undone, ops_of}
use Rattle.mp_core.proofs.Turned.{turns-starts, turns-again, starts-turns, none_undone}

pub fair-turns : (q : ℕ) (s : List Step) → IsFair s → IsFair (s ++ Turns q ∷ [])
fair-turns q [] f = tt
fair-turns q (Turns on ∷ later) f = fair-turns q later f
fair-turns q (Starts on j ∷ later) f = (
  (λ again. let before : starts on later ≡ true = sym (starts-turns on q later) ∙ again in
      subst (λ n. length j ≤ n) (sym (turns-again on q later before)) (f.0 before)),
  fair-turns q later f.1,
)

-- a job of which nothing is left is as long as its turns, at most
short : (t : ℕ) (j : List Op) → drop t j ≡ [] → length j ≤ t
short zero [] e = omega arith
short zero (op ∷ rest) e = absurd (cc)
short (suc t) [] e = omega arith
short (suc t) (op ∷ rest) e = let rest_short : length rest ≤ t = short t rest e in omega arith

pub front_empty : (x y : List Op) → x ++ y ≡ [] → x ≡ []
front_empty [] y e = refl
front_empty (op ∷ rest) y e = absurd (cc)

pub back_empty : (x y : List Op) → x ++ y ≡ [] → y ≡ []
back_empty [] y e = e
back_empty (op ∷ rest) y e = absurd (cc)

starts-starts : (p q : ℕ) (s : List Step) (job : List Op) → eqb q p ≡ false → starts p (s ++ Starts q job ∷ []) ≡ starts p s
starts-starts p q [] job h = ap (λ b. b || false) h
starts-starts p q (Turns on ∷ later) job h = starts-starts p q later job h
starts-starts p q (Starts on j ∷ later) job h = ap (λ b. eqb on p || b) (starts-starts p q later job h)

flipped : (a b : ℕ) → eqb a b ≡ false → eqb b a ≡ false
flipped a b h = ne_eqb b a (λ e. eqb-false a b h (sym e))

pub fair-starts : (p : ℕ) (s : List Step) (job : List Op) → IsFair s → ops_of p (undone s) ≡ [] → IsFair (s ++ Starts p job ∷ [])
fair-starts p [] job f e = ((λ again. absurd (false≢true again)), tt)
fair-starts p (Turns on ∷ later) job f e = fair-starts p later job f e
fair-starts p (Starts on j ∷ later) job f e = (
  (λ again. subst (λ n. length j ≤ n) (sym (turns-starts on later p job))
      (elim (eqb on p) as (λ b. eqb on p ≡ b → length j ≤ turns on later) [
        | true ↦ λ mine. short (turns on later) j (front_empty (drop (turns on later) j) (ops_of p (undone later))
            (subst (λ b. cond b (drop (turns on later) j) [] ++ ops_of p (undone later) ≡ []) mine e))
        | false ↦ λ other. f.0 (sym (starts-starts on p later job (flipped on p other)) ∙ again)
      ] refl)),
  fair-starts p later job f.1 (back_empty (cond (eqb on p) (drop (turns on later) j) []) (ops_of p (undone later)) e),
)

-- a processor is busy where something is left of its job

abbrev busy_of : Option (List Op × ℕ) → Bool
busy_of start = elim start [ Some found ↦ ltb found.1 (length found.0) | None ↦ false ]

absent : (b d : Bool) (o : Option (List Op × ℕ)) (x : List Op × ℕ) → (b || d) ≡ false → (d ≡ false → o ≡ None) → option_or o (cond b (Some x) None) ≡ None
absent true d o x h e = absurd (true≢false h)
absent false d o x h e = ap (λ a. option_or a None) (e h)

present : (b d : Bool) (o : Option (List Op × ℕ)) (x : List Op × ℕ) → (b || d) ≡ true → (d ≡ true → is_some o ≡ true) → is_some (option_or o (cond b (Some x) None)) ≡ true
present true d None x h e = refl
present false d None x h e = e h
present b d (Some y) x h e = refl

last_none : (p : ℕ) (s : List Step) → starts p s ≡ false → last_start p s ≡ None
last_none p [] h = refl
last_none p (Turns on ∷ later) h = last_none p later h
last_none p (Starts on j ∷ later) h = absent (eqb on p) (starts p later) (last_start p later) (j, turns p later) h (last_none p later)

last_some : (p : ℕ) (s : List Step) → starts p s ≡ true → is_some (last_start p s) ≡ true
last_some p [] h = absurd (false≢true h)
last_some p (Turns on ∷ later) h = last_some p later h
last_some p (Starts on j ∷ later) h = present (eqb on p) (starts p later) (last_start p later) (j, turns p later) h (last_some p later)

left_over : (t : ℕ) (j : List Op) → t < length j → not (is_empty (drop t j)) ≡ true
left_over zero [] h = absurd (omega arith)
left_over zero (op ∷ rest) h = refl
left_over (suc t) [] h = absurd (omega arith)
left_over (suc t) (op ∷ rest) h = left_over t rest (omega arith)

busy_here : (t : ℕ) (j : List Op) → ltb t (length j) ≡ not (is_empty (drop t j))
busy_here t j = ⊎_elim (λ h. lt-ltb t (length j) h ∙ sym (left_over t j h)) (λ h. le-ltb t (length j) h ∙ ap (λ x. not (is_empty x)) (sym (drop_all t j h))) (cases_lt t (length j))

or_none : (o : Option (List Op × ℕ)) → option_or o None ≡ o
or_none None = refl
or_none (Some start) = refl

or_found : (o other : Option (List Op × ℕ)) → is_some o ≡ true → option_or o other ≡ o
or_found None other h = absurd (false≢true h)
or_found (Some start) other h = refl

-- the turns after a start of p are those of p
is_busy_at : (p on : ℕ) (j : List Op) (later : List Step) (b : Bool) → eqb on p ≡ b
    → busy_of (option_or (last_start p later) (cond b (Some (j, turns p later)) None)) ≡ busy_of (option_or (last_start p later) (cond b (Some (j, turns on later)) None))
is_busy_at p on j later true e = ap (λ n. busy_of (option_or (last_start p later) (Some (j, turns n later)))) (sym (eqb-true on p e))
is_busy_at p on j later false e = refl

busy_step : (b d : Bool) (t : ℕ) (j U : List Op) (o : Option (List Op × ℕ)) → busy_of o ≡ not (is_empty U) → (b ≡ true → d ≡ true → length j ≤ t)
    → (d ≡ true → is_some o ≡ true) → (d ≡ false → o ≡ None) → (d ≡ false → U ≡ [])
    → busy_of (option_or o (cond b (Some (j, t)) None)) ≡ not (is_empty (cond b (drop t j) [] ++ U))
busy_step false d t j U o e f found missing none_u = ap busy_of (or_none o) ∙ e
busy_step true true t j U o e f found missing none_u =
    ap busy_of (or_found o (Some (j, t)) (found refl)) ∙ e ∙ ap (λ x. not (is_empty (x ++ U))) (sym (drop_all t j (f refl refl)))
busy_step true false t j U o e f found missing none_u =
    ap (λ x. busy_of (option_or x (Some (j, t)))) (missing refl) ∙ busy_here t j ∙ ap (λ x. not (is_empty x)) (sym (append-nil (drop t j)))
    ∙ ap (λ x. not (is_empty (drop t j ++ x))) (sym (none_u refl))

pub is_busy-undone : (p : ℕ) (s : List Step) → IsFair s → is_busy p s ≡ not (is_empty (ops_of p (undone s)))
is_busy-undone p [] f = refl
is_busy-undone p (Turns on ∷ later) f = is_busy-undone p later f
is_busy-undone p (Starts on j ∷ later) f =
    is_busy_at p on j later (eqb on p) refl
    ∙ busy_step (eqb on p) (starts p later) (turns on later) j (ops_of p (undone later)) (last_start p later) (is_busy-undone p later f.1)
    (λ mine again. f.0 (subst (λ n. starts n later ≡ true) (sym (eqb-true on p mine)) again)) (last_some p later) (last_none p later) (none_undone p later)
