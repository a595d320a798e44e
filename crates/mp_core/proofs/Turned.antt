-- What a turn at the end does, and a start at the end.
use Rattle.std.proofs.Common.{◌≡◌, ℕ, zero, suc, ◌+◌, ◌≤◌, Bool, true, false, ◌||◌, cond, eqb, List, [], ◌∷◌, ◌++◌, length, take, drop, sym, refl, ap, subst, ◌∙◌, arith, append_assoc, true≢false, eqb-true, eq-eqb, ne_eqb, append-nil, sum_by}
use Rattle.std.proofs.{lemmas.Bool.false≢true, lemmas.Bool.eqb-false, lemmas.List.drop_all}
use Rattle.std.proofs.lemmas.List.Sums.{sum_by-cons, sum_by-append}
use Rattle.mp_core.specs.{declared.op.Op.Op, Fair.starts, Fair.IsFair}
use Rattle.mp_core.specs.Schedule.{Step, Starts, Turns, Part, turns, jobs, done, undone, added, adds, ops_of}

pub same : {A : Type 0} (b : Bool) (x : A) → cond b x x ≡ x
same true x = refl
same false x = refl

-- a start at the end

pub turns-starts : (p : ℕ) (s : List Step) (q : ℕ) (job : List Op) → turns p (s ++ Starts q job ∷ []) ≡ turns p s
turns-starts p [] q job = same (eqb q p) 0
turns-starts p (Turns on ∷ later) q job = ap (λ n. cond (eqb on p) (suc n) n) (turns-starts p later q job)
turns-starts p (Starts on j ∷ later) q job = ap (λ n. cond (eqb on p) 0 n) (turns-starts p later q job)

pub done-starts : (s : List Step) (q : ℕ) (job : List Op) → done (s ++ Starts q job ∷ []) ≡ done s ++ record { on = q; ops = [] } ∷ []
done-starts [] q job = refl
done-starts (Turns on ∷ later) q job = done-starts later q job
done-starts (Starts on j ∷ later) q job = λ i. record { on = on; ops = take (turns-starts on later q job i) j } ∷ done-starts later q job i

pub undone-starts : (s : List Step) (q : ℕ) (job : List Op) → undone (s ++ Starts q job ∷ []) ≡ undone s ++ record { on = q; ops = job } ∷ []
undone-starts [] q job = refl
undone-starts (Turns on ∷ later) q job = undone-starts later q job
undone-starts (Starts on j ∷ later) q job = λ i. record { on = on; ops = drop (turns-starts on later q job i) j } ∷ undone-starts later q job i

-- a turn at the end

pub turns-other : (p q : ℕ) (s : List Step) → eqb q p ≡ false → turns p (s ++ Turns q ∷ []) ≡ turns p s
turns-other p q [] h = ap (λ b. cond b 1 0) h
turns-other p q (Turns on ∷ later) h = ap (λ n. cond (eqb on p) (suc n) n) (turns-other p q later h)
turns-other p q (Starts on j ∷ later) h = ap (λ n. cond (eqb on p) 0 n) (turns-other p q later h)

before_next : (b d : Bool) (x y : ℕ) → (b || d) ≡ true → (d ≡ true → x ≡ y) → cond b 0 x ≡ cond b 0 y
before_next true d x y h e = refl
before_next false d x y h e = e h

pub turns-again : (p q : ℕ) (s : List Step) → starts p s ≡ true → turns p (s ++ Turns q ∷ []) ≡ turns p s
turns-again p q [] h = absurd (false≢true h)
turns-again p q (Turns on ∷ later) h = ap (λ n. cond (eqb on p) (suc n) n) (turns-again p q later h)
turns-again p q (Starts on j ∷ later) h = before_next (eqb on p) (starts p later) _ _ h (turns-again p q later)

one_more : (b : Bool) (n : ℕ) → cond b (suc (suc n)) (suc n) ≡ suc (cond b (suc n) n)
one_more true n = refl
one_more false n = refl

in_last : (b d : Bool) (x y : ℕ) → (b || d) ≡ false → (d ≡ false → x ≡ suc y) → cond b 0 x ≡ suc (cond b 0 y)
in_last true d x y h e = absurd (true≢false h)
in_last false d x y h e = e h

pub turns-last : (p : ℕ) (s : List Step) → starts p s ≡ false → turns p (s ++ Turns p ∷ []) ≡ suc (turns p s)
turns-last p [] h = ap (λ b. cond b 1 0) (eq-eqb p p refl)
turns-last p (Turns on ∷ later) h = ap (λ n. cond (eqb on p) (suc n) n) (turns-last p later h) ∙ one_more (eqb on p) (turns p later)
turns-last p (Starts on j ∷ later) h = in_last (eqb on p) (starts p later) _ _ h (turns-last p later)

-- a processor that does not start has no parts
none : (b d : Bool) (x y : List Op) → (b || d) ≡ false → (d ≡ false → y ≡ []) → cond b x [] ++ y ≡ []
none true d x y h e = absurd (true≢false h)
none false d x y h e = e h

pub none_done : (p : ℕ) (s : List Step) → starts p s ≡ false → ops_of p (done s) ≡ []
none_done p [] h = refl
none_done p (Turns on ∷ later) h = none_done p later h
none_done p (Starts on j ∷ later) h = none (eqb on p) (starts p later) _ _ h (none_done p later)

pub none_undone : (p : ℕ) (s : List Step) → starts p s ≡ false → ops_of p (undone s) ≡ []
none_undone p [] h = refl
none_undone p (Turns on ∷ later) h = none_undone p later h
none_undone p (Starts on j ∷ later) h = none (eqb on p) (starts p later) _ _ h (none_undone p later)

pub none_jobs : (p : ℕ) (s : List Step) → starts p s ≡ false → ops_of p (jobs s) ≡ []
none_jobs p [] h = refl
none_jobs p (Turns on ∷ later) h = none_jobs p later h
none_jobs p (Starts on j ∷ later) h = none (eqb on p) (starts p later) _ _ h (none_jobs p later)

pub starts-turns : (p q : ℕ) (s : List Step) → starts p (s ++ Turns q ∷ []) ≡ starts p s
starts-turns p q [] = refl
starts-turns p q (Turns on ∷ later) = starts-turns p q later
starts-turns p q (Starts on j ∷ later) = ap (λ b. eqb on p || b) (starts-turns p q later)

-- the operations of a processor after a turn of another

under : (b : Bool) (x y : List Op) → (b ≡ true → x ≡ y) → cond b x [] ≡ cond b y []
under true x y h = h refl
under false x y h = refl

turns_of : (p q on : ℕ) (later : List Step) → eqb q p ≡ false → eqb on p ≡ true → turns on (later ++ Turns q ∷ []) ≡ turns on later
turns_of p q on later h e = turns-other on q later (subst (λ n. eqb q n ≡ false) (sym (eqb-true on p e)) h)

pub done-turns_other : (p q : ℕ) (s : List Step) → eqb q p ≡ false → ops_of p (done (s ++ Turns q ∷ [])) ≡ ops_of p (done s)
done-turns_other p q [] h = refl
done-turns_other p q (Turns on ∷ later) h = done-turns_other p q later h
done-turns_other p q (Starts on j ∷ later) h =
    λ i. under (eqb on p) (take (turns on (later ++ Turns q ∷ [])) j) (take (turns on later) j) (λ e. ap (λ n. take n j) (turns_of p q on later h e)) i ++ done-turns_other p q later h i

pub undone-turns_other : (p q : ℕ) (s : List Step) → eqb q p ≡ false → ops_of p (undone (s ++ Turns q ∷ [])) ≡ ops_of p (undone s)
undone-turns_other p q [] h = refl
undone-turns_other p q (Turns on ∷ later) h = undone-turns_other p q later h
undone-turns_other p q (Starts on j ∷ later) h =
    λ i. under (eqb on p) (drop (turns on (later ++ Turns q ∷ [])) j) (drop (turns on later) j) (λ e. ap (λ n. drop n j) (turns_of p q on later h e)) i ++ undone-turns_other p q later h i

-- the operations of a processor after its own turn

take_one_more : (t : ℕ) (j : List Op) → take (suc t) j ≡ take t j ++ take 1 (drop t j)
take_one_more zero j = refl
take_one_more (suc t) [] = refl
take_one_more (suc t) (op ∷ rest) = ap (λ ops. op ∷ ops) (take_one_more t rest)

drop_one_more : (t : ℕ) (j : List Op) → drop (suc t) j ≡ drop 1 (drop t j)
drop_one_more zero j = refl
drop_one_more (suc t) [] = refl
drop_one_more (suc t) (op ∷ rest) = drop_one_more t rest

-- a start of a processor, and the turns that it has without the last one and with it
record Head (mine again : Bool) (t with_last : ℕ) (job : List Op) : Type 0 where
  pub another : mine ≡ false → with_last ≡ t
  pub before : mine ≡ true → again ≡ true → with_last ≡ t
  pub last : mine ≡ true → again ≡ false → with_last ≡ suc t
  pub short : mine ≡ true → again ≡ true → length job ≤ t

head : (p on : ℕ) (job : List Op) (later : List Step) → (starts on later ≡ true → length job ≤ turns on later)
    → Head (eqb on p) (starts p later) (turns on later) (turns on (later ++ Turns p ∷ [])) job
head p on job later short = record {
  another = λ e. turns-other on p later (ne_eqb p on (λ q. eqb-false on p e (sym q)));
  before = λ e h. turns-again on p later (subst (λ n. starts n later ≡ true) (sym (eqb-true on p e)) h);
  last = λ e h. subst (λ n. turns on (later ++ Turns n ∷ []) ≡ suc (turns on later)) (eqb-true on p e) (turns-last on later (subst (λ n. starts n later ≡ false) (sym (eqb-true on p e)) h));
  short = λ e h. short (subst (λ n. starts n later ≡ true) (sym (eqb-true on p e)) h);
}

done_step : (b d : Bool) (t n : ℕ) (j D' D U : List Op) → Head b d t n j → D' ≡ D ++ take 1 U → (d ≡ false → D ≡ []) → (d ≡ false → U ≡ [])
    → cond b (take n j) [] ++ D' ≡ (cond b (take t j) [] ++ D) ++ take 1 (cond b (drop t j) [] ++ U)
done_step false d t n j D' D U h e none_d none_u = e
done_step true true t n j D' D U h e none_d none_u =
    (λ i. take (h.before refl refl i) j ++ e i) ∙ sym (append_assoc (take t j) D (take 1 U))
    ∙ ap (λ x. (take t j ++ D) ++ take 1 (x ++ U)) (sym (drop_all t j (h.short refl refl)))
done_step true false t n j D' D U h e none_d none_u =
    (λ i. take (h.last refl refl i) j ++ (e ∙ (λ k. none_d refl k ++ take 1 (none_u refl k))) i)
    ∙ append-nil (take (suc t) j) ∙ take_one_more t j
    ∙ (λ i. sym (append-nil (take t j)) i ++ take 1 (sym (append-nil (drop t j)) i))
    ∙ (λ i. (take t j ++ sym (none_d refl) i) ++ take 1 (drop t j ++ sym (none_u refl) i))

pub done-turns : (p : ℕ) (s : List Step) → IsFair s → ops_of p (done (s ++ Turns p ∷ [])) ≡ ops_of p (done s) ++ take 1 (ops_of p (undone s))
done-turns p [] f = refl
done-turns p (Turns on ∷ later) f = done-turns p later f
done-turns p (Starts on j ∷ later) f =
    done_step (eqb on p) (starts p later) (turns on later) _ j _ (ops_of p (done later)) (ops_of p (undone later))
    (head p on j later f.0) (done-turns p later f.1) (none_done p later) (none_undone p later)

undone_step : (b d : Bool) (t n : ℕ) (j U' U : List Op) → Head b d t n j → U' ≡ drop 1 U → (d ≡ false → U ≡ [])
    → cond b (drop n j) [] ++ U' ≡ drop 1 (cond b (drop t j) [] ++ U)
undone_step false d t n j U' U h e none_u = e
undone_step true true t n j U' U h e none_u =
    (λ i. (ap (λ m. drop m j) (h.before refl refl) ∙ drop_all t j (h.short refl refl)) i ++ e i)
    ∙ ap (λ x. drop 1 (x ++ U)) (sym (drop_all t j (h.short refl refl)))
undone_step true false t n j U' U h e none_u =
    (λ i. drop (h.last refl refl i) j ++ (e ∙ ap (drop 1) (none_u refl)) i)
    ∙ append-nil (drop (suc t) j) ∙ drop_one_more t j
    ∙ ap (drop 1) (sym (append-nil (drop t j)))
    ∙ ap (λ x. drop 1 (drop t j ++ x)) (sym (none_u refl))

pub undone-turns : (p : ℕ) (s : List Step) → IsFair s → ops_of p (undone (s ++ Turns p ∷ [])) ≡ drop 1 (ops_of p (undone s))
undone-turns p [] f = refl
undone-turns p (Turns on ∷ later) f = undone-turns p later f
undone-turns p (Starts on j ∷ later) f =
    undone_step (eqb on p) (starts p later) (turns on later) _ j _ (ops_of p (undone later))
    (head p on j later f.0) (undone-turns p later f.1) (none_undone p later)

-- what a turn adds
abbrev pub sum_of : ℕ → List Op → ℕ
sum_of c ops = sum_by (added c) ops

pub adds-cons : (c on : ℕ) (ops : List Op) (rest : List Part) → adds c (record { on = on; ops = ops } ∷ rest) ≡ sum_of c ops + adds c rest
adds-cons c on ops rest = sum_by-cons (λ part. sum_by (added c) part.ops) (record { on = on; ops = ops }) rest

adds_step : (c : ℕ) (b d : Bool) (t n : ℕ) (j : List Op) (A' A : ℕ) (U : List Op) → Head b d t n j → A' ≡ A + sum_of c (take 1 U) → (d ≡ false → U ≡ [])
    → sum_of c (take n j) + A' ≡ (sum_of c (take t j) + A) + sum_of c (take 1 (cond b (drop t j) [] ++ U))
adds_step c false d t n j A' A U h e none_u =
    let same : sum_of c (take n j) ≡ sum_of c (take t j) = ap (λ m. sum_of c (take m j)) (h.another refl) in omega arith
adds_step c true true t n j A' A U h e none_u =
    let same : sum_of c (take n j) ≡ sum_of c (take t j) = ap (λ m. sum_of c (take m j)) (h.before refl refl) in
    let gone : sum_of c (take 1 (drop t j ++ U)) ≡ sum_of c (take 1 U) = ap (λ x. sum_of c (take 1 (x ++ U))) (drop_all t j (h.short refl refl)) in omega arith
adds_step c true false t n j A' A U h e none_u =
    let more : sum_of c (take n j) ≡ sum_of c (take t j) + sum_of c (take 1 (drop t j)) =
    ap (λ m. sum_of c (take m j)) (h.last refl refl) ∙ ap (sum_of c) (take_one_more t j) ∙ sum_by-append (added c) (take t j) (take 1 (drop t j)) in
    let all : sum_of c (take 1 (drop t j ++ U)) ≡ sum_of c (take 1 (drop t j)) = ap (λ x. sum_of c (take 1 (drop t j ++ x))) (none_u refl) ∙ ap (λ x. sum_of c (take 1 x)) (append-nil (drop t j)) in
    let nothing : sum_of c (take 1 U) ≡ 0 = ap (λ x. sum_of c (take 1 x)) (none_u refl) in omega arith

pub adds-turns : (c p : ℕ) (s : List Step) → IsFair s → adds c (done (s ++ Turns p ∷ [])) ≡ adds c (done s) + sum_of c (take 1 (ops_of p (undone s)))
adds-turns c p [] f = refl
adds-turns c p (Turns on ∷ later) f = adds-turns c p later f
adds-turns c p (Starts on j ∷ later) f =
    adds-cons c on (take (turns on (later ++ Turns p ∷ [])) j) (done (later ++ Turns p ∷ []))
    ∙ adds_step c (eqb on p) (starts p later) (turns on later) (turns on (later ++ Turns p ∷ [])) j _ (adds c (done later)) (ops_of p (undone later))
    (head p on j later f.0) (adds-turns c p later f.1) (none_undone p later)
    ∙ ap (λ n. n + sum_of c (take 1 (cond (eqb on p) (drop (turns on later) j) [] ++ ops_of p (undone later)))) (sym (adds-cons c on (take (turns on later) j) (done later)))
