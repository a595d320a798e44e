-- A run from its first event on.
use Rattle.std.proofs.Common.{◌≡◌, ℕ, zero, suc, ⊎_elim, cond, eqb, ◌+◌, ◌%◌, ◌^◌, ◌<◌, Bool, false, not, List, [], ◌∷◌, ◌++◌, map, length, take, get_or, sym, refl, ap, subst, ◌∙◌, arith, eq-eqb, append-nil, append_assoc, flat_map, option_to_list}
use Rattle.std.proofs.{lemmas.Bool.or_parts, lemmas.Bool.cases_lt, lemmas.List.take_more, lemmas.List.get_or-map}
use Rattle.std.proofs.lemmas.List.Sums.{fold_more}
use Rattle.std.specs.List.{list_any}
use Rattle.pi_base.specs.Lists.{Each, numbers}
use Rattle.mp_core.specs.{declared.event.MpEvent.MpEvent, declared.machine.Machine.Machine, declared.processor.Processor.Processor}
use Rattle.mp_core.specs.{declared.reply.MpOutcome.MpOutcome, Fair.AreOrderly, Machine.IsMachine, Machine.IsLeft}
use Rattle.mp_core.specs.OneAfterAnother.{one_after_another, cells_of, records_of, Completes}
use Rattle.mp_core.specs.Past.{Past, opening, after, is_empty, past_from, reply, replies_from}
use Rattle.mp_core.specs.Schedule.{Step, Part, is_busy, done, undone, adds, ops_of, put, puts, cells_after, records_after, busy_after}
use Rattle.mp_core.proofs.Fairness.{is_busy-undone, front_empty, back_empty}
use Rattle.mp_core.proofs.InOrder.{mod_twice, cells_in_order, records_in_order}
use Rattle.mp_core.proofs.{Orderly.idle_from, Standing.length-numbers, Standing.numbers_at}
use Rattle.mp_core.proofs.Turned.{none_undone, adds-cons, sum_of}

-- one event more

pub past_more : (processors : ℕ) (events : List MpEvent) (i : ℕ) (e : MpEvent) → i < length events
    → past_from processors opening (take (i + 1) events) ≡ after processors (past_from processors opening (take i events)) (get_or events i e)
past_more processors events i e lt = fold_more (after processors) opening events i e lt

replies_push : (processors : ℕ) (past : Past) (events : List MpEvent) (e : MpEvent)
    → replies_from processors past (events ++ e ∷ []) ≡ replies_from processors past events ++ option_to_list (reply processors (past_from processors past events) e)
replies_push processors past [] e = append-nil (option_to_list (reply processors past e))
replies_push processors past (first ∷ rest) e =
    ap (λ x. option_to_list (reply processors past first) ++ x) (replies_push processors (after processors past first) rest e)
    ∙ sym (append_assoc (option_to_list (reply processors past first)) (replies_from processors (after processors past first) rest) _)

pub replies_more : (processors : ℕ) (events : List MpEvent) (i : ℕ) (e : MpEvent) → i < length events
    → replies_from processors opening (take (i + 1) events)
    ≡ replies_from processors opening (take i events) ++ option_to_list (reply processors (past_from processors opening (take i events)) (get_or events i e))
replies_more processors events i e lt = ap (replies_from processors opening) (take_more events i e lt) ∙ replies_push processors opening (take i events) (get_or events i e)

-- what a machine leaves

by_number : {A : Type 0} (f : Processor → A) (g : ℕ → A) (from n : ℕ) (xs : List Processor) → length xs ≡ n
    → ((p : ℕ) (x : Processor) → p < n → f (get_or xs p x) ≡ g (from + p)) → map f xs ≡ map g (numbers from n)
by_number f g from zero [] count each = refl
by_number f g from zero (x ∷ rest) count each = absurd (omega arith)
by_number f g from (suc n) [] count each = absurd (omega arith)
by_number f g from (suc n) (x ∷ rest) count each =
    let first : f x ≡ g from = each 0 x (omega arith) ∙ ap g (omega arith) in
    let later : map f rest ≡ map g (numbers (from + 1) n) =
    by_number f g (from + 1) n rest (omega arith) (λ p y lt. each (suc p) y (omega arith) ∙ ap g (omega arith)) in
    λ i. first i ∷ later i

pub cells_left : (processors cells : ℕ) (past : Past) (m : Machine) (outcome : MpOutcome) → IsMachine processors cells past m → IsLeft m outcome
    → outcome.cells ≡ cells_after cells past.steps
cells_left processors cells past m outcome h left = left.cells ∙ h.cells_are

pub records_left : (processors cells : ℕ) (past : Past) (m : Machine) (outcome : MpOutcome) → IsMachine processors cells past m → IsLeft m outcome
    → outcome.records ≡ records_after processors past.steps
records_left processors cells past m outcome h left =
    left.records ∙ by_number (λ (x : Processor). x.«record») (λ p. puts p (done past.steps)) 0 processors m.processors.items h.count
    (λ p x lt. (h.each p x lt).record_is ∙ ap (λ n. puts n (done past.steps)) (omega arith))

pub busy_left : (processors cells : ℕ) (past : Past) (m : Machine) (outcome : MpOutcome) → AreOrderly processors past.steps → IsMachine processors cells past m → IsLeft m outcome
    → outcome.busy ≡ busy_after processors past.steps
busy_left processors cells past m outcome o h left =
    left.busy ∙ by_number (λ (x : Processor). not (is_empty x.rest.now)) (λ p. is_busy p past.steps) 0 processors m.processors.items h.count
    (λ p x lt. ap (λ ops. not (is_empty ops)) (h.each p x lt).rest ∙ sym (is_busy-undone p past.steps o.fair) ∙ ap (λ n. is_busy n past.steps) (omega arith))

-- where no processor is busy, nothing is to come

none_in : (f : ℕ → Bool) (from n : ℕ) → list_any (λ b. b) (map f (numbers from n)) ≡ false → (p : ℕ) → p < n → f (from + p) ≡ false
none_in f from zero h p lt = absurd (omega arith)
none_in f from (suc n) h zero lt = ap f (omega arith) ∙ (or_parts (f from) (list_any (λ b. b) (map f (numbers (from + 1) n))) h).0
none_in f from (suc n) h (suc p) lt =
    ap f (omega arith) ∙ none_in f (from + 1) n (or_parts (f from) (list_any (λ b. b) (map f (numbers (from + 1) n))) h).1 p (omega arith)

all_done : (processors : ℕ) (s : List Step) → AreOrderly processors s → list_any (λ b. b) (busy_after processors s) ≡ false → (p : ℕ) → ops_of p (undone s) ≡ []
all_done processors s o none p = ⊎_elim
    (λ lt. idle_from p s o.fair (ap (λ n. is_busy n s) (omega arith) ∙ none_in (λ q. is_busy q s) 0 processors none p lt))
    (λ le. none_undone p s (o.below p le)) (cases_lt p processors)

nothing_to_add : (c : ℕ) (parts : List Part) → ((p : ℕ) → ops_of p parts ≡ []) → adds c parts ≡ 0
nothing_to_add c [] none = refl
nothing_to_add c (part ∷ rest) none =
    let here : part.ops ≡ [] =
    front_empty part.ops (ops_of part.on rest) (sym (ap (λ b. cond b part.ops [] ++ ops_of part.on rest) (eq-eqb part.on part.on refl)) ∙ none part.on) in
    let later : adds c rest ≡ 0 = nothing_to_add c rest (λ p. back_empty (cond (eqb part.on p) part.ops []) (ops_of p rest) (none p)) in
    let both : adds c (part ∷ rest) ≡ sum_of c part.ops + adds c rest = adds-cons c part.on part.ops rest in
    let nothing : sum_of c part.ops ≡ 0 = ap (sum_of c) here in omega arith

pub idle_in_order : (processors cells : ℕ) (s : List Step) → AreOrderly processors s → list_any (λ b. b) (busy_after processors s) ≡ false
    → (cells_after cells s ≡ cells_of cells (one_after_another s)) × (records_after processors s ≡ records_of processors (one_after_another s))
idle_in_order processors cells s o none =
    let left : (p : ℕ) → ops_of p (undone s) ≡ [] = all_done processors s o none in
    let cell : (c : ℕ) → adds c (done s) % 2 ^ 64 ≡ (one_after_another s).cell c =
    λ c. (let nothing : adds c (undone s) ≡ 0 = nothing_to_add c (undone s) left in
    let same : adds c (done s) % 2 ^ 64 ≡ (adds c (done s) % 2 ^ 64 + adds c (undone s)) % 2 ^ 64 =
    sym (mod_twice (adds c (done s))) ∙ ap (λ x. x % 2 ^ 64) (omega arith) in same ∙ cells_in_order c s) in
    let told : (p : ℕ) → puts p (done s) ≡ (one_after_another s).record_of p =
    λ p. sym (append-nil (puts p (done s))) ∙ ap (λ ops. puts p (done s) ++ flat_map put ops) (sym (left p)) ∙ records_in_order p s o.fair in
    ((λ i. map (λ c. cell c i) (numbers 0 cells)), (λ i. map (λ p. told p i) (numbers 0 processors)))

-- at any moment

at_number : {A : Type 0} (g : ℕ → A) (n p : ℕ) (d : A) → p < n → get_or (map g (numbers 0 n)) p d ≡ g p
at_number g n p d lt =
    get_or-map g (numbers 0 n) p 0 d (subst (λ k. p < k) (sym (length-numbers 0 n)) lt) ∙ ap g (numbers_at 0 n p 0 lt ∙ omega arith)

pub completes : (processors cells : ℕ) (s : List Step) (outcome : MpOutcome) → AreOrderly processors s → outcome.cells ≡ cells_after cells s → outcome.records ≡ records_after processors s
    → Completes processors cells s outcome
completes processors cells s outcome o cells_are records_are = record {
  adds_to_come = λ c lt.
      ap (λ xs. (get_or xs c 0 + adds c (undone s)) % 2 ^ 64) cells_are
      ∙ ap (λ x. (x + adds c (undone s)) % 2 ^ 64) (at_number (λ k. adds k (done s) % 2 ^ 64) cells c 0 lt) ∙ cells_in_order c s;
  puts_to_come = λ p lt.
      ap (λ xs. get_or xs p [] ++ puts p (undone s)) records_are
      ∙ ap (λ x. x ++ puts p (undone s)) (at_number (λ k. puts k (done s)) processors p [] lt) ∙ records_in_order p s o.fair;
}

-- what holds of each item holds of one
pub each_at : {A : Type 0} (P : A → Type 0) (xs : List A) (i : ℕ) (d : A) → Each P xs → i < length xs → P (get_or xs i d)
each_at P [] i d h lt = absurd (omega arith)
each_at P (x ∷ rest) zero d h lt = h.0
each_at P (x ∷ rest) (suc i) d h lt = each_at P rest i d h.1 (omega arith)
