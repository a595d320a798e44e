-- Each step of PEI but the last brings the end of the run nearer.
-- An action pays for two steps: itself, and a notification that begins behind it. A frame that has just begun owes its first action.
use Rattle.std.proofs.Common.{◌≡◌, ℕ, zero, suc, ◌+◌, ◌-◌, ◌*◌, ◌≤◌, ◌<◌, Bool, true, false, not, ◌&&◌, cond, List, [], ◌∷◌, Option, Some, None, refl, ap, Ok, Err, nat_le, length, arith, is_some, lit≤, option_and_then}
use Rattle.std.proofs.lemmas.Bool.Decides.{nat_tests}
use Rattle.pi_base.specs.{declared.phase.Phase.Phase, declared.phase.Phase.TheVariants.Pei, Lists.Each, Lists.numbers}
use Rattle.mod_catalog.specs.{declared.catalogue.Catalog.Catalog, declared.catalogue.Part.Part, Parts.has_number, Parts.part_at}
use Rattle.boot_model.specs.PeiMachine.{Frame, PeiMachine, printed}
use Rattle.boot_model.specs.declared.line.Line.TheVariants as L
use Rattle.store_model.specs.{declared.store_handle.Sweep.Sweep, StoreState.StoreState, Service.Service, Service.Sweep.next_match}
use Rattle.store_model.specs.{Service.Queue.queue_pop, Service.Install.core_install, Migration.migration}
use Rattle.boot_model.specs.declared.phase_end.PeiEnd.TheVariants.{Spent, Deep}
use Rattle.mod_catalog.specs.WellFormed.{part_of}
use Rattle.boot_model.specs.Eligible.{is_eligible, may_start, may_start_again}
use Rattle.boot_model.specs.PeiChoice.{pei_order, rotated, next_peim}
use Rattle.boot_model.specs.PeiAction.{Effect, Wrote, Called, Own, Shadowed, Logged, Skipped, Returned, effect}
use Rattle.boot_model.specs.PeiStep.{PeiCase, Fires, Acts, Moves, Pops, Starts, Stops, case_of, in_case, pei_step, callback_begun, action_at, after_effect, core_called, popped_to, started_part, start_frames, open_sweep, past}
use Rattle.boot_laws.proofs.Counting.{one_if, missing, In, in_numbers, fewer}
use Rattle.boot_model.proofs.ListFacts.{each_at, within, found_passes}
use Rattle.boot_laws.proofs.{StoreMoved.KeepsMoved, StoreMoved.core_moved, ActionMoved.EffectKeeps, ActionMoved.effect_keeps}
use Rattle.boot_laws.proofs.PeiCases.{fires_from, moves_from, migrated_is, pops_from, popped_is, starts_from}

-- 0 where a frame has just begun and owes an action
abbrev pub between_actions : List Frame → ℕ
between_actions [] = 1
between_actions (frame ∷ below) = elim frame.position [ zero ↦ 0 | suc n ↦ 1 ]

abbrev pub module_numbers : Catalog → List ℕ
module_numbers catalog = numbers 0 (length catalog.modules)

-- the first starts and the second starts that are left
abbrev pub starts_left : Catalog → List ℕ → List ℕ → ℕ
starts_left catalog started again = missing started (module_numbers catalog) + missing again (module_numbers catalog)

-- the steps that are left, where the machine has not ended
abbrev pub left : Catalog → ℕ → PeiMachine → ℕ
left catalog fuel m = 1 + 2 * (fuel - m.actions) + between_actions m.frames + starts_left catalog m.started m.again + one_if (not m.store.moved)

abbrev pub steps_left : Catalog → ℕ → PeiMachine → ℕ
steps_left catalog fuel m = elim m.ended [ Some end ↦ 0 | None ↦ left catalog fuel m ]

-- a frame that has just begun has no sweep
abbrev pub SweepsAreLater : List Frame → Type 0
SweepsAreLater [] = Unit {0}
SweepsAreLater (frame ∷ below) = (frame.position ≡ 0 → frame.sweep ≡ None) × SweepsAreLater below

abbrev pub HasPart : Phase → Catalog → ℕ → Type 0
HasPart phase catalog number = is_some (part_at phase catalog number) ≡ true

-- what holds of each machine of a run
pub record IsUnderWay (catalog : Catalog) (m : PeiMachine) : Type 0 where
  pub sweeps : SweepsAreLater m.frames
  pub parts : Each (HasPart Pei catalog) m.started

has_fuel : (fuel actions : ℕ) → nat_le fuel actions ≡ false → actions < fuel
has_fuel fuel actions h = grind (arith, nat_tests)

pub at_most : (catalog : Catalog) (fuel : ℕ) (m : PeiMachine) → steps_left catalog fuel m ≤ left catalog fuel m
at_most catalog fuel m = elim m.ended as (λ o. (elim o as (λ _. ℕ) [ Some end ↦ 0 | None ↦ left catalog fuel m ]) ≤ left catalog fuel m) [ Some end ↦ omega arith | None ↦ omega arith ]

position_le : (n : ℕ) → (elim n as (λ _. ℕ) [ zero ↦ 0 | suc k ↦ 1 ]) ≤ 1
position_le zero = lit≤ tt
position_le (suc n) = lit≤ tt

pub between_le : (frames : List Frame) → between_actions frames ≤ 1
between_le [] = lit≤ tt
between_le (frame ∷ below) = position_le frame.position

-- what an action costs at least
abbrev rest : Catalog → ℕ → PeiMachine → ℕ
rest catalog fuel m = 2 + 2 * (fuel - m.actions) + starts_left catalog m.started m.again + one_if (not m.store.moved)

either_left : (catalog : Catalog) (fuel n : ℕ) (b : Bool) (one other : PeiMachine) → left catalog fuel one ≤ n → left catalog fuel other ≤ n → left catalog fuel (cond b one other) ≤ n
either_left catalog fuel n true one other h k = h
either_left catalog fuel n false one other h k = k

effect_left : (catalog : Catalog) (fuel : ℕ) (m : PeiMachine) (frame : Frame) (below : List Frame) (e : Effect) → EffectKeeps m.store e → left catalog fuel (after_effect catalog m frame below e) ≤ rest catalog fuel m
effect_left catalog fuel m frame below (Wrote registers status) k = let b = between_le (after_effect catalog m frame below (Wrote registers status)).frames in omega arith
effect_left catalog fuel m frame below (Called name reply) k =
    let b = between_le (after_effect catalog m frame below (Called name reply)).frames in
    let same : one_if (not reply.store.moved) ≡ one_if (not m.store.moved) = ap (λ x. one_if (not x)) k in omega arith
effect_left catalog fuel m frame below (Own Shadowed) k =
    let b = between_le (past frame 0 ∷ below) in
    either_left catalog fuel (rest catalog fuel m) (has_number m.shadows frame.module_number) _ _ (omega (arith, b)) (omega (arith, b))
effect_left catalog fuel m frame below (Logged text) k = let b = between_le (after_effect catalog m frame below (Logged text)).frames in omega arith
effect_left catalog fuel m frame below (Skipped n) k = let b = between_le (after_effect catalog m frame below (Skipped n)).frames in omega arith
effect_left catalog fuel m frame below (Returned status) k = let b = between_le below in omega arith

later_on : {A B : Type 0} (f : A → Option B) (n : ℕ) (o : Option A) → (n ≡ 0 → o ≡ None) → is_some (option_and_then f o) ≡ true → (elim n as (λ _. ℕ) [ zero ↦ 0 | suc k ↦ 1 ]) ≡ 1
later_on f zero None h k = cc
later_on f zero (Some a) h k = let e : Some a ≡ None = h refl in cc
later_on f (suc n) o h k = refl

-- where a pair fires, the top frame has taken an action
fires_later : (m : PeiMachine) (frames : List Frame) → SweepsAreLater frames → is_some (option_and_then (next_match m.store) (open_sweep m frames)) ≡ true → between_actions frames ≡ 1
fires_later m [] h k = refl
fires_later m (frame ∷ below) h k = later_on (next_match m.store) frame.position frame.sweep h.0 k

core_left : (catalog : Catalog) (fuel : ℕ) (m : PeiMachine) (service : Service Sweep) → KeepsMoved m.store service → left catalog fuel (core_called m service) ≡ left catalog fuel m
core_left catalog fuel m (Ok pair) k = ap (λ b. 1 + 2 * (fuel - m.actions) + between_actions m.frames + starts_left catalog m.started m.again + one_if (not b)) k
core_left catalog fuel m (Err fault) k = refl

-- a start more, by whether the part had started
counted : (catalog : Catalog) (started again : List ℕ) (number : ℕ) (before : Bool) → has_number started number ≡ before → (before ≡ true → has_number again number ≡ false)
    → In number (module_numbers catalog) → starts_left catalog (cond before started (number ∷ started)) (cond before (number ∷ again) again) < starts_left catalog started again
counted catalog started again number true e second among = let less = fewer number again (module_numbers catalog) (second refl) among in omega (arith, less)
counted catalog started again number false e second among = let less = fewer number started (module_numbers catalog) e among in omega (arith, less)

pub start_left : (catalog : Catalog) (fuel : ℕ) (m : PeiMachine) (number : ℕ) (part : Option Part) → is_some part ≡ true → between_actions m.frames ≡ 1
    → starts_left catalog (cond (has_number m.started number) m.started (number ∷ m.started)) (cond (has_number m.started number) (number ∷ m.again) m.again) < starts_left catalog m.started m.again
    → left catalog fuel (started_part catalog m number part) < left catalog fuel m
start_left catalog fuel m number None some empty less = cc
start_left catalog fuel m number (Some part) some empty less = let b = between_le (start_frames number part.script.blocks) in omega (arith, empty, less, b)

not_again : (a b c : Bool) → (a && not b && c) ≡ true → b ≡ false
not_again true false c h = refl
not_again true true c h = cc
not_again false b c h = cc

second_of : (before again first : Bool) → cond before again first ≡ true → before ≡ true → again ≡ true
second_of true again first h e = h
second_of false again first h e = cc

first_has : (s : StoreState) (part : Option Part) → may_start s part ≡ true → is_some part ≡ true
first_has s None h = cc
first_has s (Some part) h = refl

-- what may start has a part, for what has started has one
pub part_by : (catalog : Catalog) (m : PeiMachine) (number : ℕ) (before : Bool) → has_number m.started number ≡ before → Each (HasPart Pei catalog) m.started
    → cond before (may_start_again m number) (may_start m.store (part_at Pei catalog number)) ≡ true → HasPart Pei catalog number
part_by catalog m number true e parts h = each_at (HasPart Pei catalog) m.started number parts e
part_by catalog m number false e parts h = first_has m.store (part_at Pei catalog number) h

pub next_is : (catalog : Catalog) (m : PeiMachine) (number : ℕ) → next_peim catalog m ≡ Some number → is_eligible catalog m number ≡ true
next_is catalog m number found = found_passes (is_eligible catalog m) (rotated m.cursor (pei_order catalog m.reported)) number found

pub next_has : (catalog : Catalog) (m : PeiMachine) (number : ℕ) → Each (HasPart Pei catalog) m.started → next_peim catalog m ≡ Some number → HasPart Pei catalog number
next_has catalog m number parts found = part_by catalog m number (has_number m.started number) refl parts (next_is catalog m number found)

-- either the machine has ended, or what comes next is nearer to the end
ended_or : (catalog : Catalog) (fuel n : ℕ) (b : Bool) (one other : PeiMachine) → steps_left catalog fuel one < n → (b ≡ false → steps_left catalog fuel other < n) → steps_left catalog fuel (cond b one other) < n
ended_or catalog fuel n true one other h k = h
ended_or catalog fuel n false one other h k = k refl

case_runs_out : (catalog : Catalog) (fuel : ℕ) (m : PeiMachine) (case : PeiCase) → case_of catalog m ≡ case → IsUnderWay catalog m → steps_left catalog fuel (in_case catalog fuel m case) < left catalog fuel m
case_runs_out catalog fuel m (Fires firing sweep) e way =
    let k : is_some (option_and_then (next_match m.store) (open_sweep m m.frames)) ≡ true = fires_from _ m.frames (migration m.store) (queue_pop m.store) (next_peim catalog m) firing sweep e in
    let one : between_actions m.frames ≡ 1 = fires_later m m.frames way.sweeps k in
    let next : PeiMachine = callback_begun catalog m firing sweep in
    let most : steps_left catalog fuel next ≤ left catalog fuel next = at_most catalog fuel next in
    ended_or catalog fuel (left catalog fuel m) (nat_le 64 (length m.frames)) (record m { ended = Some Deep }) next (omega arith) (λ _. omega (arith, most, one))
case_runs_out catalog fuel m (Acts frame below) e way =
    let does : Effect = effect m.store frame (action_at catalog frame) in
    let next : PeiMachine = after_effect catalog (record m { actions = m.actions + 1 }) frame below does in
    let most : steps_left catalog fuel next ≤ left catalog fuel next = at_most catalog fuel next in
    let less = effect_left catalog fuel (record m { actions = m.actions + 1 }) frame below does (effect_keeps m.store frame (action_at catalog frame)) in
    ended_or catalog fuel (left catalog fuel m) (nat_le fuel m.actions) (record m { ended = Some Spent }) next (omega arith)
    (λ h. let room : m.actions < fuel = has_fuel fuel m.actions h in omega (arith, most, less, room))
case_runs_out catalog fuel m (Moves new) e way =
    let k = moves_from m.store (option_and_then (next_match m.store) (open_sweep m m.frames)) m.frames (migration m.store) (queue_pop m.store) (next_peim catalog m) new (migrated_is m.store) e in
    let moved : PeiMachine = record (printed m (L.Migrate m.store.base new.base ∷ [])) { store = new } in
    let next : PeiMachine = core_called moved (core_install new) in
    let most : steps_left catalog fuel next ≤ left catalog fuel next = at_most catalog fuel next in
    let same : left catalog fuel next ≡ left catalog fuel moved = core_left catalog fuel moved (core_install new) (core_moved new) in
    let now : one_if (not new.moved) ≡ 0 = ap (λ b. one_if (not b)) k.0 in
    let then : one_if (not m.store.moved) ≡ 1 = ap (λ b. one_if (not b)) k.1 in
    omega (arith, most, same, now, then)
case_runs_out catalog fuel m (Pops firing new) e way =
    let k = pops_from m.store (option_and_then (next_match m.store) (open_sweep m m.frames)) m.frames (migration m.store) (queue_pop m.store) (next_peim catalog m) firing new (popped_is m.store) e in
    let one : between_actions m.frames ≡ 1 = ap between_actions k.0 in
    let next : PeiMachine = popped_to catalog m firing new in
    let most : steps_left catalog fuel next ≤ left catalog fuel next = at_most catalog fuel next in
    let same : one_if (not new.moved) ≡ one_if (not m.store.moved) = ap (λ b. one_if (not b)) k.1 in
    omega (arith, most, one, same)
case_runs_out catalog fuel m (Starts number) e way =
    let k = starts_from (option_and_then (next_match m.store) (open_sweep m m.frames)) m.frames (migration m.store) (queue_pop m.store) (next_peim catalog m) number e in
    let part : HasPart Pei catalog number = next_has catalog m number way.parts k.1 in
    let below = within (part_of Pei) catalog.modules number part in
    let among : In number (module_numbers catalog) = in_numbers number 0 (length catalog.modules) (omega arith) (omega (arith, below)) in
    let second : has_number m.started number ≡ true → has_number m.again number ≡ false =
    λ h. not_again (has_number m.shadows number) (has_number m.again number) m.store.moved (second_of (has_number m.started number) (may_start_again m number) _ (next_is catalog m number k.1) h) in
    let fewer_left = counted catalog m.started m.again number (has_number m.started number) refl second among in
    let less = start_left catalog fuel m number (part_at Pei catalog number) part (ap between_actions k.0) fewer_left in
    let next : PeiMachine = started_part catalog m number (part_at Pei catalog number) in
    let most : steps_left catalog fuel next ≤ left catalog fuel next = at_most catalog fuel next in
    omega (arith, most, less)
case_runs_out catalog fuel m Stops e way = omega arith

pub steps_run_out : (catalog : Catalog) (fuel : ℕ) (m : PeiMachine) → m.ended ≡ None → IsUnderWay catalog m → steps_left catalog fuel (pei_step catalog fuel m) < steps_left catalog fuel m
steps_run_out catalog fuel m going way =
    let all : steps_left catalog fuel m ≡ left catalog fuel m = ap (λ o. elim o as (λ _. ℕ) [ Some end ↦ 0 | None ↦ left catalog fuel m ]) going in
    rw all (case_runs_out catalog fuel m (case_of catalog m) refl way)
