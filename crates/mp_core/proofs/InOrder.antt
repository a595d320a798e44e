-- What is done and what is not yet done of each start is its job, and the cells and records of the jobs one after another are their sums and Puts.
use Rattle.std.proofs.Common.{◌≡◌, ℕ, ◌+◌, ◌%◌, ◌^◌, ◌≤◌, Bool, true, false, cond, eqb, List, [], ◌∷◌, ◌++◌, length, take, drop, sym, refl, ap, subst, ◌∙◌, arith, append_assoc, eqb-true, append-nil, take_all, take-append-drop, fold, flat_map}
use Rattle.std.proofs.{Math.Nat.mod-add-mod, lemmas.List.drop_all, lemmas.List.Concat.flat_map-append}
use Rattle.std.proofs.lemmas.List.Sums.{sum_by-cons, sum_by-take-drop}
use Rattle.mp_core.specs.{declared.op.Op.Op, declared.op.Op.TheVariants.Add, declared.op.Op.TheVariants.Put, Fair.starts, Fair.IsFair}
use Rattle.mp_core.specs.Schedule.{Step, Starts, Turns, Part, turns, jobs, done, undone, added, adds, put, ops_of, puts}
use Rattle.mp_core.specs.OneAfterAnother.{Contents, blank, does, does_all, one_after_another}
use Rattle.mp_core.proofs.Turned.{same, none_done, none_undone, none_jobs, sum_of, adds-cons}

pub adds_join : (c : ℕ) (s : List Step) → adds c (done s) + adds c (undone s) ≡ adds c (jobs s)
adds_join c [] = refl
adds_join c (Turns on ∷ later) = adds_join c later
adds_join c (Starts on j ∷ later) =
    let one = adds-cons c on (take (turns on later) j) (done later) in
    let two = adds-cons c on (drop (turns on later) j) (undone later) in
    let three = adds-cons c on j (jobs later) in
    let whole = sum_by-take-drop (added c) j (turns on later) in
    let rest = adds_join c later in omega arith

ops_step : (b d : Bool) (t : ℕ) (j D U J : List Op) → D ++ U ≡ J → (b ≡ true → d ≡ true → length j ≤ t) → (d ≡ false → D ≡ []) → (d ≡ false → U ≡ []) → (d ≡ false → J ≡ [])
    → (cond b (take t j) [] ++ D) ++ (cond b (drop t j) [] ++ U) ≡ cond b j [] ++ J
ops_step false d t j D U J e f none_d none_u none_j = e
ops_step true true t j D U J e f none_d none_u none_j =
    (λ i. (take_all t j (f refl refl) i ++ D) ++ (drop_all t j (f refl refl) i ++ U)) ∙ append_assoc j D U ∙ ap (λ x. j ++ x) e
ops_step true false t j D U J e f none_d none_u none_j =
    (λ i. (take t j ++ none_d refl i) ++ (drop t j ++ none_u refl i))
    ∙ (λ i. append-nil (take t j) i ++ append-nil (drop t j) i)
    ∙ take-append-drop t j ∙ sym (append-nil j) ∙ ap (λ x. j ++ x) (sym (none_j refl))

pub ops_join : (p : ℕ) (s : List Step) → IsFair s → ops_of p (done s) ++ ops_of p (undone s) ≡ ops_of p (jobs s)
ops_join p [] f = refl
ops_join p (Turns on ∷ later) f = ops_join p later f
ops_join p (Starts on j ∷ later) f =
    ops_step (eqb on p) (starts p later) (turns on later) j (ops_of p (done later)) (ops_of p (undone later)) (ops_of p (jobs later)) (ops_join p later f.1)
    (λ mine again. f.0 (subst (λ n. starts n later ≡ true) (sym (eqb-true on p mine)) again)) (none_done p later) (none_undone p later) (none_jobs p later)

-- the cells

cell_step : (b : Bool) (x n : ℕ) → x % 2 ^ 64 ≡ x → cond b ((x + n) % 2 ^ 64) x ≡ (x + cond b n 0) % 2 ^ 64
cell_step true x n h = refl
cell_step false x n h = sym h ∙ ap (λ y. y % 2 ^ 64) (omega arith)

pub mod_twice : (x : ℕ) → x % 2 ^ 64 % 2 ^ 64 ≡ x % 2 ^ 64
mod_twice x = omega arith

is_reduced : (b : Bool) (x n : ℕ) → x % 2 ^ 64 ≡ x → cond b ((x + n) % 2 ^ 64) x % 2 ^ 64 ≡ cond b ((x + n) % 2 ^ 64) x
is_reduced true x n h = mod_twice (x + n)
is_reduced false x n h = h

does_cells : (c on : ℕ) (ops : List Op) (m : Contents) → m.cell c % 2 ^ 64 ≡ m.cell c → (fold (does on) m ops).cell c ≡ (m.cell c + sum_of c ops) % 2 ^ 64
does_cells c on [] m h = sym h ∙ ap (λ y. y % 2 ^ 64) (omega arith)
does_cells c on (Add cell n ∷ rest) m h =
    does_cells c on rest (does on m (Add cell n)) (is_reduced (eqb cell c) (m.cell c) n h)
    ∙ ap (λ x. (x + sum_of c rest) % 2 ^ 64) (cell_step (eqb cell c) (m.cell c) n h)
    ∙ mod-add-mod (m.cell c + cond (eqb cell c) n 0) (2 ^ 64) (sum_of c rest)
    ∙ ap (λ x. x % 2 ^ 64) (let more = sum_by-cons (added c) (Add cell n) rest in omega arith)
does_cells c on (Put n ∷ rest) m h =
    does_cells c on rest (does on m (Put n)) h
    ∙ ap (λ x. x % 2 ^ 64) (let more = sum_by-cons (added c) (Put n) rest in omega arith)

all_cells : (c : ℕ) (parts : List Part) (m : Contents) → m.cell c % 2 ^ 64 ≡ m.cell c → (fold does_all m parts).cell c ≡ (m.cell c + adds c parts) % 2 ^ 64
all_cells c [] m h = sym h ∙ ap (λ y. y % 2 ^ 64) (omega arith)
all_cells c (part ∷ rest) m h =
    let here : (does_all m part).cell c ≡ (m.cell c + sum_of c part.ops) % 2 ^ 64 = does_cells c part.on part.ops m h in
    all_cells c rest (does_all m part) (ap (λ x. x % 2 ^ 64) here ∙ mod_twice (m.cell c + sum_of c part.ops) ∙ sym here)
    ∙ ap (λ x. (x + adds c rest) % 2 ^ 64) here
    ∙ mod-add-mod (m.cell c + sum_of c part.ops) (2 ^ 64) (adds c rest)
    ∙ ap (λ x. x % 2 ^ 64) (let more = adds-cons c part.on part.ops rest in omega arith)

pub cells_in_order : (c : ℕ) (s : List Step) → (adds c (done s) % 2 ^ 64 + adds c (undone s)) % 2 ^ 64 ≡ (one_after_another s).cell c
cells_in_order c s =
    mod-add-mod (adds c (done s)) (2 ^ 64) (adds c (undone s)) ∙ ap (λ x. x % 2 ^ 64) (let all : adds c (done s) + adds c (undone s) ≡ 0 + adds c (jobs s) = adds_join c s ∙ omega arith in all) ∙ sym (all_cells c (jobs s) blank refl)

-- the records

record_step : (b : Bool) (r : List ℕ) (n : ℕ) (later : List ℕ) → cond b (r ++ n ∷ []) r ++ cond b later [] ≡ r ++ cond b (n ∷ later) []
record_step true r n later = append_assoc r (n ∷ []) later
record_step false r n later = refl

does_records : (p on : ℕ) (ops : List Op) (m : Contents) → (fold (does on) m ops).record_of p ≡ m.record_of p ++ cond (eqb on p) (flat_map put ops) []
does_records p on [] m = sym (append-nil (m.record_of p)) ∙ ap (λ x. m.record_of p ++ x) (sym (same (eqb on p) []))
does_records p on (Add cell n ∷ rest) m = does_records p on rest (does on m (Add cell n))
does_records p on (Put n ∷ rest) m = does_records p on rest (does on m (Put n)) ∙ record_step (eqb on p) (m.record_of p) n (flat_map put rest)

put_part : (b : Bool) (ops : List Op) → cond b (flat_map put ops) [] ≡ flat_map put (cond b ops [])
put_part true ops = refl
put_part false ops = refl

all_records : (p : ℕ) (parts : List Part) (m : Contents) → (fold does_all m parts).record_of p ≡ m.record_of p ++ puts p parts
all_records p [] m = sym (append-nil (m.record_of p))
all_records p (part ∷ rest) m =
    all_records p rest (does_all m part)
    ∙ ap (λ x. x ++ puts p rest) (does_records p part.on part.ops m ∙ ap (λ x. m.record_of p ++ x) (put_part (eqb part.on p) part.ops))
    ∙ append_assoc (m.record_of p) (flat_map put (cond (eqb part.on p) part.ops [])) (puts p rest)
    ∙ ap (λ x. m.record_of p ++ x) (sym (flat_map-append put (cond (eqb part.on p) part.ops []) (ops_of p rest)))

pub records_in_order : (p : ℕ) (s : List Step) → IsFair s → puts p (done s) ++ puts p (undone s) ≡ (one_after_another s).record_of p
records_in_order p s f =
    sym (flat_map-append put (ops_of p (done s)) (ops_of p (undone s))) ∙ ap (flat_map put) (ops_join p s f) ∙ sym (all_records p (jobs s) blank)
