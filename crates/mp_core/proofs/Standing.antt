-- A machine that stands for a past, and the pasts for which it stands after a change.
use Rattle.std.proofs.Common.{◌≡◌, ℕ, zero, suc, ◌+◌, ◌%◌, ◌^◌, ◌<◌, ◌≤◌, ◌≢◌, Bool, false, cond, eqb, List, [], ◌∷◌, ◌++◌, map, length, take, drop, get_or, set, sym, refl, ap, subst, ◌∙◌, arith, ⊎_elim, eq-eqb, ne_eqb, append-nil, get_or-set_same, get_or-set_other, length-set, flat_map, sum_by, Bor}
use Rattle.std.proofs.{Math.Nat.mod-add-mod, lemmas.Bool.cases_eq, lemmas.List.Concat.flat_map-append}
use Rattle.std.proofs.lemmas.List.{length-map, get_or-map, same_lists}
use Rattle.std.proofs.lemmas.List.Sums.{sum_by-cons, sum_by_push}
use Rattle.pi_base.specs.Lists.{Each, numbers}
use Rattle.mp_core.specs.declared.event.MpEvent.TheVariants as event
use Rattle.mp_core.specs.{declared.machine.Machine.Machine, declared.op.Op.Op, declared.op.Op.TheVariants.Add}
use Rattle.mp_core.specs.{declared.processor.Processor.Processor, Calls.IsOp, Fair.AreOrderly, Fair.IsFair}
use Rattle.mp_core.specs.Machine.{IsMachine, IsProcessor}
use Rattle.mp_core.specs.Past.{Past, after, started, with_enabled}
use Rattle.mp_core.specs.Schedule.{Step, Starts, Turns, Part, done, undone, ops_of, puts, put, adds, added, cells_after}
use Rattle.mp_core.proofs.Orderly.{ops_of-push, undone_other}
use Rattle.mp_core.proofs.Turned.{same, done-starts, undone-starts, done-turns, done-turns_other, undone-turns, undone-turns_other, adds-turns, none_undone, sum_of}

-- numbers from one on

pub length-numbers : (from count : ℕ) → length (numbers from count) ≡ count
length-numbers from zero = refl
length-numbers from (suc count) = let rest = length-numbers (from + 1) count in omega arith

pub numbers_at : (from count i d : ℕ) → i < count → get_or (numbers from count) i d ≡ from + i
numbers_at from zero i d h = absurd (omega arith)
numbers_at from (suc count) zero d h = omega arith
numbers_at from (suc count) (suc i) d h = numbers_at (from + 1) count i d (omega arith) ∙ omega arith

pub numbers_push : (from count : ℕ) → numbers from (count + 1) ≡ numbers from count ++ (from + count) ∷ []
numbers_push from zero = ap (λ n. n ∷ []) (omega arith)
numbers_push from (suc count) =
    let one : suc count + 1 ≡ suc (count + 1) = omega arith in
    ap (numbers from) one ∙ ap (λ rest. from ∷ rest) (numbers_push (from + 1) count ∙ ap (λ n. numbers (from + 1) count ++ n ∷ []) (omega arith))

-- what holds of a processor that is set, and of each other one, holds of each
pub each_set : (R : ℕ → Processor → Type 0) (xs : List Processor) (p : ℕ) (y : Processor) (n : ℕ) → length xs ≡ n → R p y
    → ((q : ℕ) (x : Processor) → q < n → q ≢ p → R q (get_or xs q x)) → (q : ℕ) (x : Processor) → q < n → R q (get_or (set xs p y) q x)
each_set R xs p y n len here others q x lt = ⊎_elim
    (λ e. subst (λ m. R m (get_or (set xs p y) m x)) (sym e) (subst (R p) (sym (get_or-set_same xs p y x (let at : q ≡ p = e in omega arith))) here))
    (λ ne. subst (R q) (sym (get_or-set_other xs p q y x ne)) (others q x lt ne)) (cases_eq q p)

-- a job starts

no_part : (b : Bool) → let nothing : List Op = [] in cond b nothing nothing ≡ nothing
no_part b = same b []

pub puts-starts : (q p : ℕ) (s : List Step) (job : List Op) → puts q (done (s ++ Starts p job ∷ [])) ≡ puts q (done s)
puts-starts q p s job = ap (flat_map put)
    (ap (ops_of q) (done-starts s p job) ∙ ops_of-push q p (done s) [] ∙ ap (λ x. ops_of q (done s) ++ x) (no_part (eqb p q)) ∙ append-nil (ops_of q (done s)))

adds-starts : (c p : ℕ) (s : List Step) (job : List Op) → adds c (done (s ++ Starts p job ∷ [])) ≡ adds c (done s)
adds-starts c p s job = ap (adds c) (done-starts s p job)
    ∙ sum_by_push (λ (part : Part). sum_by (added c) part.ops) (done s) (record { on = p; ops = [] }) ∙ omega arith

pub cells-starts : (n p : ℕ) (s : List Step) (job : List Op) → cells_after n (s ++ Starts p job ∷ []) ≡ cells_after n s
cells-starts n p s job = λ i. map (λ c. adds-starts c p s job i % 2 ^ 64) (numbers 0 n)

same_others : (cells : ℕ) (past now : Past) (q : ℕ) (x : Processor) → IsProcessor cells past q x → now.enabled q ≡ past.enabled q
    → ops_of q (undone now.steps) ≡ ops_of q (undone past.steps) → puts q (done now.steps) ≡ puts q (done past.steps) → IsProcessor cells now q x
same_others cells past now q x h enabled rest record_is = record {
  enabled = h.enabled ∙ sym enabled;
  rest = h.rest ∙ sym rest;
  record_is = h.record_is ∙ sym record_is;
  in_range = h.in_range;
}

pub start_stands : (processors cells : ℕ) (past : Past) (m now : Machine) (p : ℕ) (job : Bor (List Op)) → IsMachine processors cells past m → p < processors
    → ops_of p (undone past.steps) ≡ [] → Each (IsOp cells) job.now → now.bsp ≡ m.bsp → now.cells ≡ m.cells → length now.processors.items ≡ length m.processors.items
    → ((x : Processor) → now.processors.items ≡ set m.processors.items p (record (get_or m.processors.items p x) { rest = job }))
    → IsMachine processors cells (started (p ∷ []) job.now past) now
start_stands processors cells past m now p job h lt idle range bsp cells_same count items =
    let after_start : Past = started (p ∷ []) job.now past in
    let here : job.now ≡ ops_of p (undone after_start.steps) =
    sym (ap (ops_of p) (undone-starts past.steps p job.now) ∙ ops_of-push p p (undone past.steps) job.now ∙ (λ i. idle i ++ cond (eq-eqb p p refl i) job.now [])) in
    record {
      bsp = bsp ∙ h.bsp;
      bsp_below = subst (λ n. n < processors) (sym bsp) h.bsp_below;
      count = count ∙ h.count;
      each = λ q x qlt. subst (λ xs. IsProcessor cells after_start q (get_or xs q x)) (sym (items x))
          (each_set (IsProcessor cells after_start) m.processors.items p (record (get_or m.processors.items p x) { rest = job }) processors h.count
          (record { enabled = (h.each p x lt).enabled; rest = here; record_is = (h.each p x lt).record_is ∙ sym (puts-starts p p past.steps job.now); in_range = range })
          (λ r y rlt ne. same_others cells past after_start r (get_or m.processors.items r y) (h.each r y rlt) refl
          (undone_other r p past.steps job.now (ne_eqb p r (λ e. ne (sym e)))) (puts-starts r p past.steps job.now)) q x qlt);
      cells_are = cells_same ∙ h.cells_are ∙ sym (cells-starts cells p past.steps job.now);
    }

-- a processor is enabled as told

pub enable_stands : (processors cells : ℕ) (past : Past) (m now : Machine) (p bsp : ℕ) (enabled : Bool) → IsMachine processors cells past m → p < processors → now.bsp ≡ bsp → bsp < processors
    → now.cells ≡ m.cells → length now.processors.items ≡ length m.processors.items
    → ((x : Processor) → now.processors.items ≡ set m.processors.items p (record (get_or m.processors.items p x) { enabled = enabled }))
    → IsMachine processors cells (record (with_enabled p enabled past) { bsp = bsp }) now
enable_stands processors cells past m now p bsp enabled h lt bsp_is bsp_lt cells_same count items =
    let then : Past = record (with_enabled p enabled past) { bsp = bsp } in
    record {
      bsp = bsp_is;
      bsp_below = subst (λ n. n < processors) (sym bsp_is) bsp_lt;
      count = count ∙ h.count;
      each = λ q x qlt. subst (λ xs. IsProcessor cells then q (get_or xs q x)) (sym (items x))
          (each_set (IsProcessor cells then) m.processors.items p (record (get_or m.processors.items p x) { enabled = enabled }) processors h.count
          (record { enabled = sym (ap (λ b. cond b enabled (past.enabled p)) (eq-eqb p p refl)); rest = (h.each p x lt).rest; record_is = (h.each p x lt).record_is; in_range = (h.each p x lt).in_range })
          (λ r y rlt ne. same_others cells past then r (get_or m.processors.items r y) (h.each r y rlt)
          (ap (λ b. cond b enabled (past.enabled r)) (ne_eqb r p ne)) refl refl) q x qlt);
      cells_are = cells_same ∙ h.cells_are;
    }

-- a turn

pub cells-turns : (n on : ℕ) (s : List Step) → IsFair s
    → cells_after n (s ++ Turns on ∷ []) ≡ map (λ c. (adds c (done s) + sum_of c (take 1 (ops_of on (undone s)))) % 2 ^ 64) (numbers 0 n)
cells-turns n on s f = λ i. map (λ c. adds-turns c on s f i % 2 ^ 64) (numbers 0 n)

pub record HasTurned (cells : ℕ) (past : Past) (on : ℕ) (m now : Machine) (y : Processor) : Type 0 where
  pub bsp : now.bsp ≡ m.bsp
  pub items : now.processors.items ≡ set m.processors.items on y
  pub enabled : y.enabled ≡ past.enabled on
  pub rest : y.rest.now ≡ drop 1 (ops_of on (undone past.steps))
  pub record_is : y.record ≡ puts on (done past.steps) ++ flat_map put (take 1 (ops_of on (undone past.steps)))
  pub in_range : Each (IsOp cells) y.rest.now
  pub cells_are : now.cells ≡ map (λ c. (adds c (done past.steps) + sum_of c (take 1 (ops_of on (undone past.steps)))) % 2 ^ 64) (numbers 0 cells)

puts_turned : (on : ℕ) (s : List Step) → IsFair s → puts on (done (s ++ Turns on ∷ [])) ≡ puts on (done s) ++ flat_map put (take 1 (ops_of on (undone s)))
puts_turned on s f = ap (flat_map put) (done-turns on s f) ∙ flat_map-append put (ops_of on (done s)) (take 1 (ops_of on (undone s)))

turned_other : (processors cells : ℕ) (past : Past) (on q : ℕ) (x : Processor) → q ≢ on → IsProcessor cells past q x → IsProcessor cells (after processors past (event.Turn on)) q x
turned_other processors cells past on q x ne h =
    let other : eqb on q ≡ false = ne_eqb on q (λ e. ne (sym e)) in
    same_others cells past (after processors past (event.Turn on)) q x h refl (undone-turns_other q on past.steps other) (ap (flat_map put) (done-turns_other q on past.steps other))

pub turn_stands : (processors cells : ℕ) (past : Past) (m now : Machine) (on : ℕ) (y : Processor) → AreOrderly processors past.steps → IsMachine processors cells past m → on < processors
    → HasTurned cells past on m now y → IsMachine processors cells (after processors past (event.Turn on)) now
turn_stands processors cells past m now on y o h lt t =
    let then : Past = after processors past (event.Turn on) in
    record {
      bsp = t.bsp ∙ h.bsp;
      bsp_below = subst (λ n. n < processors) (sym t.bsp) h.bsp_below;
      count = ap length t.items ∙ length-set m.processors.items on y ∙ h.count;
      each = λ q x qlt. subst (λ xs. IsProcessor cells then q (get_or xs q x)) (sym t.items)
          (each_set (IsProcessor cells then) m.processors.items on y processors h.count
          (record { enabled = t.enabled; rest = t.rest ∙ sym (undone-turns on past.steps o.fair); record_is = t.record_is ∙ sym (puts_turned on past.steps o.fair); in_range = t.in_range })
          (λ r z rlt ne. turned_other processors cells past on r (get_or m.processors.items r z) ne (h.each r z rlt)) q x qlt);
      cells_are = t.cells_are ∙ sym (cells-turns cells on past.steps o.fair);
    }

plus_none : (n : ℕ) → n + 0 ≡ n
plus_none n = omega arith

plus_zero : (n k : ℕ) → k ≡ 0 → n ≡ n + k
plus_zero n k e = omega arith

-- a turn of none
pub turn_past : (processors cells : ℕ) (past : Past) (m : Machine) (on : ℕ) → AreOrderly processors past.steps → IsMachine processors cells past m → processors ≤ on
    → IsMachine processors cells (after processors past (event.Turn on)) m
turn_past processors cells past m on o h le = record {
  bsp = h.bsp;
  bsp_below = h.bsp_below;
  count = h.count;
  each = λ q x qlt. turned_other processors cells past on q (get_or m.processors.items q x) (λ e. let same : q ≡ on = e in omega arith) (h.each q x qlt);
  cells_are = h.cells_are ∙ sym (cells-turns cells on past.steps o.fair
      ∙ (λ i. map (λ c. (adds c (done past.steps) + sum_of c (take 1 (none_undone on past.steps (o.below on le) i))) % 2 ^ 64) (numbers 0 cells))
      ∙ (λ i. map (λ c. plus_none (adds c (done past.steps)) i % 2 ^ 64) (numbers 0 cells)));
}

-- the cells after an operation

set_map : (f g : ℕ → ℕ) (n at v : ℕ) → v ≡ g at → ((i : ℕ) → i ≢ at → f i ≡ g i) → set (map f (numbers 0 n)) at v ≡ map g (numbers 0 n)
set_map f g n at v here others =
    same_lists (set (map f (numbers 0 n)) at v) (map g (numbers 0 n))
    (length-set (map f (numbers 0 n)) at v ∙ length-map (numbers 0 n) f ∙ sym (length-map (numbers 0 n) g))
    (λ k d lt.
    let long : length (set (map f (numbers 0 n)) at v) ≡ n = length-set (map f (numbers 0 n)) at v ∙ length-map (numbers 0 n) f ∙ length-numbers 0 n in
    let low : k < n = subst (λ m. k < m) long lt in
    let in_numbers : k < length (numbers 0 n) = subst (λ m. k < m) (sym (length-numbers 0 n)) low in
    let at_k : get_or (numbers 0 n) k d ≡ k = numbers_at 0 n k d low ∙ omega arith in
    let right : get_or (map g (numbers 0 n)) k d ≡ g k = get_or-map g (numbers 0 n) k d d in_numbers ∙ ap g at_k in
    ⊎_elim
    (λ e. let same : k ≡ at = e in
    subst (λ m. get_or (set (map f (numbers 0 n)) m v) k d ≡ v) same
    (get_or-set_same (map f (numbers 0 n)) k v d (subst (λ m. k < m) (sym (length-map (numbers 0 n) f)) in_numbers)) ∙ here ∙ ap g (sym same) ∙ sym right)
    (λ ne. get_or-set_other (map f (numbers 0 n)) at k v d ne ∙ get_or-map f (numbers 0 n) k d d in_numbers ∙ ap f at_k ∙ others k ne ∙ sym right)
    (cases_eq k at))

pub sum_one : (c : ℕ) (op : Op) → sum_of c (op ∷ []) ≡ added c op
sum_one c op = sum_by-cons (added c) op [] ∙ omega arith

pub cells_add : (n cell k : ℕ) (parts : List Part) → cell < n
    → set (map (λ c. adds c parts % 2 ^ 64) (numbers 0 n)) cell ((get_or (map (λ c. adds c parts % 2 ^ 64) (numbers 0 n)) cell 0 + k) % 2 ^ 64)
    ≡ map (λ c. (adds c parts + sum_of c (Add cell k ∷ [])) % 2 ^ 64) (numbers 0 n)
cells_add n cell k parts lt =
    set_map (λ c. adds c parts % 2 ^ 64) (λ c. (adds c parts + sum_of c (Add cell k ∷ [])) % 2 ^ 64) n cell _
    (let in_numbers : cell < length (numbers 0 n) = subst (λ m. cell < m) (sym (length-numbers 0 n)) lt in
    let there : get_or (map (λ c. adds c parts % 2 ^ 64) (numbers 0 n)) cell 0 ≡ adds cell parts % 2 ^ 64 =
    get_or-map (λ c. adds c parts % 2 ^ 64) (numbers 0 n) cell 0 0 in_numbers ∙ ap (λ c. adds c parts % 2 ^ 64) (numbers_at 0 n cell 0 lt ∙ omega arith) in
    let mine : sum_of cell (Add cell k ∷ []) ≡ k = sum_one cell (Add cell k) ∙ ap (λ b. cond b k 0) (eq-eqb cell cell refl) in
    ap (λ x. (x + k) % 2 ^ 64) there ∙ mod-add-mod (adds cell parts) (2 ^ 64) k ∙ ap (λ x. (adds cell parts + x) % 2 ^ 64) (sym mine))
    (λ i ne.
    let other : sum_of i (Add cell k ∷ []) ≡ 0 = sum_one i (Add cell k) ∙ ap (λ b. cond b k 0) (ne_eqb cell i (λ e. ne (sym e))) in
    ap (λ x. x % 2 ^ 64) (plus_zero (adds i parts) (sum_of i (Add cell k ∷ [])) other))

pub cells_same : (n : ℕ) (ops : List Op) (parts : List Part) → ((c : ℕ) → sum_of c ops ≡ 0)
    → map (λ c. adds c parts % 2 ^ 64) (numbers 0 n) ≡ map (λ c. (adds c parts + sum_of c ops) % 2 ^ 64) (numbers 0 n)
cells_same n ops parts nothing = λ i. map (λ c. plus_zero (adds c parts) (sum_of c ops) (nothing c) i % 2 ^ 64) (numbers 0 n)
