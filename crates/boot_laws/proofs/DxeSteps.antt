-- Each step of DXE but the last brings the end of the run nearer.
-- An action pays for two steps: itself, and a notification that begins behind it. A frame that has just begun owes its first action.
use Rattle.std.proofs.Common.{◌≡◌, ℕ, zero, suc, ◌+◌, ◌-◌, ◌*◌, ◌≤◌, ◌<◌, Bool, true, false, cond, List, [], ◌∷◌, Option, Some, None, refl, ap, subst, ◌∙◌, nat_le, length, arith, is_some, lit≤, inl, inr, option_and_then}
use Rattle.std.proofs.lemmas.Bool.Decides.{nat_tests}
use Rattle.pi_base.specs.{declared.phase.Phase.TheVariants.Dxe, Lists.numbers}
use Rattle.mod_catalog.specs.{declared.catalogue.Catalog.Catalog, declared.catalogue.Part.Part, WellFormed.part_of}
use Rattle.boot_model.specs.{DxeMachine.DriverFrame, DxeMachine.DxeMachine, declared.driver.Scheduled.Scheduled}
use Rattle.mod_catalog.specs.Parts.{has_number, part_at}
use Rattle.boot_model.specs.declared.phase_end.DxeEnd.TheVariants as DxeEnds
use Rattle.boot_model.specs.DxeAction.{DxeEffect, Wrote, Called, Logged, Skipped, Returned, Own, dxe_effect}
use Rattle.boot_model.specs.DxeStep.{DxeCase, DxeFires, DxeActs, DxeStarts, DxeStops, dxe_case_of, in_dxe_case, dxe_step, next_note, protocol_begun, after_dxe_effect, with_action, dxe_action_at, driver_started, start_frames}
use Rattle.boot_laws.proofs.Counting.{missing, In, in_numbers, fewer}
use Rattle.boot_model.proofs.{ListFacts.within, Distinct.is_absent}
use Rattle.boot_laws.proofs.{Queue.IsQueued, DxeCases.fires_from, DxeCases.starts_from, DxeOnce.queue_is}
use Rattle.boot_laws.proofs.DriverActions.{Follows, EffectFollows, effect_follows}

-- 0 where a frame has just begun and owes an action
abbrev pub between_actions : List DriverFrame → ℕ
between_actions [] = 1
between_actions (frame ∷ below) = elim frame.position [ zero ↦ 0 | suc n ↦ 1 ]

-- the starts that are left
abbrev pub starts_left : Catalog → List ℕ → ℕ
starts_left catalog started = missing started (numbers 0 (length catalog.modules))

-- the steps that are left, where the machine has not ended
abbrev pub left : Catalog → ℕ → DxeMachine → ℕ
left catalog fuel m = 1 + 2 * (fuel - m.actions) + between_actions m.frames + starts_left catalog m.started

abbrev pub steps_left : Catalog → ℕ → DxeMachine → ℕ
steps_left catalog fuel m = elim m.ended [ Some end ↦ 0 | None ↦ left catalog fuel m ]

-- a frame that has just begun has no sweep
abbrev pub SweepsAreLater : List DriverFrame → Type 0
SweepsAreLater [] = Unit {0}
SweepsAreLater (frame ∷ below) = (frame.position ≡ 0 → frame.sweep ≡ None) × SweepsAreLater below

-- what holds of each machine of a run
pub record IsUnderWay (catalog : Catalog) (m : DxeMachine) : Type 0 where
  pub sweeps : SweepsAreLater m.frames
  pub queued : IsQueued catalog m

has_fuel : (fuel actions : ℕ) → nat_le fuel actions ≡ false → actions < fuel
has_fuel fuel actions h = grind (arith, nat_tests)

pub at_most : (catalog : Catalog) (fuel : ℕ) (m : DxeMachine) → steps_left catalog fuel m ≤ left catalog fuel m
at_most catalog fuel m = elim m.ended as (λ o. (elim o as (λ _. ℕ) [ Some end ↦ 0 | None ↦ left catalog fuel m ]) ≤ left catalog fuel m) [ Some end ↦ omega arith | None ↦ omega arith ]

position_le : (n : ℕ) → (elim n as (λ _. ℕ) [ zero ↦ 0 | suc k ↦ 1 ]) ≤ 1
position_le zero = lit≤ tt
position_le (suc n) = lit≤ tt

between_le : (frames : List DriverFrame) → between_actions frames ≤ 1
between_le [] = lit≤ tt
between_le (frame ∷ below) = position_le frame.position

-- what an action costs at least
abbrev rest : Catalog → ℕ → DxeMachine → ℕ
rest catalog fuel m = 2 + 2 * (fuel - m.actions) + starts_left catalog m.started

rest_same : (catalog : Catalog) (fuel : ℕ) (old new : DxeMachine) → Follows catalog old new → rest catalog fuel new ≡ rest catalog fuel old
rest_same catalog fuel old new (inl h) =
    let started = ap (starts_left catalog) h.started in
    let actions = ap (λ n. 2 * (fuel - n)) h.actions in omega (arith, started, actions)
rest_same catalog fuel old new (inr h) = ap (rest catalog fuel) h.1

effect_left : (catalog : Catalog) (fuel : ℕ) (m : DxeMachine) (frame : DriverFrame) (below : List DriverFrame) (e : DxeEffect) → EffectFollows catalog m e
    → left catalog fuel (after_dxe_effect m frame below e) ≤ rest catalog fuel m
effect_left catalog fuel m frame below (Wrote registers status) k = let b = between_le (after_dxe_effect m frame below (Wrote registers status)).frames in omega (arith, b)
effect_left catalog fuel m frame below (Called name reply) k =
    let b = between_le (after_dxe_effect m frame below (Called name reply)).frames in
    let same = rest_same catalog fuel m reply.machine k in omega (arith, b, same)
effect_left catalog fuel m frame below (Logged text) k = let b = between_le (after_dxe_effect m frame below (Logged text)).frames in omega (arith, b)
effect_left catalog fuel m frame below (Skipped n) k = let b = between_le (after_dxe_effect m frame below (Skipped n)).frames in omega (arith, b)
effect_left catalog fuel m frame below (Returned status) k = let b = between_le below in omega (arith, b)
effect_left catalog fuel m frame below (Own own) k = absurd own

later_on : {A B : Type 0} (f : A → Option B) (n : ℕ) (o : Option A) → (n ≡ 0 → o ≡ None) → is_some (option_and_then f o) ≡ true → (elim n as (λ _. ℕ) [ zero ↦ 0 | suc k ↦ 1 ]) ≡ 1
later_on f zero None h k = cc
later_on f zero (Some a) h k = let e : Some a ≡ None = h refl in cc
later_on f (suc n) o h k = refl

-- where a notification begins, the top frame has taken an action
fires_later : (m : DxeMachine) (frame : DriverFrame) (below : List DriverFrame) → SweepsAreLater (frame ∷ below) → is_some (option_and_then (next_note m) frame.sweep) ≡ true → between_actions (frame ∷ below) ≡ 1
fires_later m frame below h k = later_on (next_note m) frame.position frame.sweep h.0 k

-- either the machine has ended, or what comes next is nearer to the end
ended_or : (catalog : Catalog) (fuel n : ℕ) (b : Bool) (one other : DxeMachine) → steps_left catalog fuel one < n → (b ≡ false → steps_left catalog fuel other < n) → steps_left catalog fuel (cond b one other) < n
ended_or catalog fuel n true one other h k = h
ended_or catalog fuel n false one other h k = k refl

pub start_left : (catalog : Catalog) (fuel : ℕ) (m : DxeMachine) (next : Scheduled) (queue : List Scheduled) (part : Option Part) → is_some part ≡ true → between_actions m.frames ≡ 1
    → starts_left catalog (next.module_number ∷ m.started) < starts_left catalog m.started → left catalog fuel (driver_started catalog m next queue part) < left catalog fuel m
start_left catalog fuel m next queue None some empty less = cc
start_left catalog fuel m next queue (Some part) some empty less = let b = between_le (start_frames next.module_number part.script.blocks) in omega (arith, empty, less, b)

case_runs_out : (catalog : Catalog) (fuel : ℕ) (m : DxeMachine) (case : DxeCase) → dxe_case_of catalog m ≡ case → IsUnderWay catalog m → steps_left catalog fuel (in_dxe_case catalog fuel m case) < left catalog fuel m
case_runs_out catalog fuel m (DxeFires note sweep frame below) e way =
    let k = fires_from catalog m m.frames note sweep frame below e in
    let later : SweepsAreLater (frame ∷ below) = subst SweepsAreLater k.0 way.sweeps in
    let one : between_actions m.frames ≡ 1 = ap between_actions k.0 ∙ fires_later m frame below later k.1 in
    let next : DxeMachine = protocol_begun catalog m note sweep frame below in
    let most : steps_left catalog fuel next ≤ left catalog fuel next = at_most catalog fuel next in
    ended_or catalog fuel (left catalog fuel m) (nat_le 64 (length m.frames)) (record m { ended = Some DxeEnds.Deep }) next (omega arith) (λ _. omega (arith, most, one))
case_runs_out catalog fuel m (DxeActs frame below) e way =
    let does : DxeEffect = dxe_effect catalog (with_action m) frame (dxe_action_at catalog frame) in
    let next : DxeMachine = after_dxe_effect (with_action m) frame below does in
    let most : steps_left catalog fuel next ≤ left catalog fuel next = at_most catalog fuel next in
    let less = effect_left catalog fuel (with_action m) frame below does (effect_follows catalog (with_action m) frame (dxe_action_at catalog frame)) in
    ended_or catalog fuel (left catalog fuel m) (nat_le fuel m.actions) (record m { ended = Some DxeEnds.Spent }) next (omega arith)
    (λ h. let room : m.actions < fuel = has_fuel fuel m.actions h in omega (arith, most, less, room))
case_runs_out catalog fuel m (DxeStarts next queue) e way =
    let k = starts_from catalog m m.frames next queue e in
    let q = queue_is catalog m next queue e way.queued in
    let part : is_some (part_at Dxe catalog next.module_number) ≡ true = q.queue_known.0.0 in
    let below = within (part_of Dxe) catalog.modules next.module_number part in
    let among : In next.module_number (numbers 0 (length catalog.modules)) = in_numbers next.module_number 0 (length catalog.modules) (omega arith) (omega (arith, below)) in
    let new : has_number m.started next.module_number ≡ false = is_absent m.started next.module_number q.apart.0 in
    let less = start_left catalog fuel m next queue (part_at Dxe catalog next.module_number) part (ap between_actions k.0) (fewer next.module_number m.started (numbers 0 (length catalog.modules)) new among) in
    let next : DxeMachine = driver_started catalog m next queue (part_at Dxe catalog next.module_number) in
    let most : steps_left catalog fuel next ≤ left catalog fuel next = at_most catalog fuel next in
    omega (arith, most, less)
case_runs_out catalog fuel m DxeStops e way = omega arith

pub steps_run_out : (catalog : Catalog) (fuel : ℕ) (m : DxeMachine) → m.ended ≡ None → IsUnderWay catalog m → steps_left catalog fuel (dxe_step catalog fuel m) < steps_left catalog fuel m
steps_run_out catalog fuel m going way =
    let all : steps_left catalog fuel m ≡ left catalog fuel m = ap (λ o. elim o as (λ _. ℕ) [ Some end ↦ 0 | None ↦ left catalog fuel m ]) going in
    rw all (case_runs_out catalog fuel m (dxe_case_of catalog m) refl way)
