-- A free boot in PEI stays under way, and each free step brings its end nearer.
use Rattle.std.proofs.Common.{◌≡◌, ℕ, ◌+◌, ◌≤◌, ◌<◌, Bool, true, false, not, ◌&&◌, cond, List, [], ◌∷◌, Option, Some, None, refl, sym, ap, subst, ◌∙◌, Ok, Err, nat_le, length, arith, is_some, option_and_then}
use Rattle.pi_base.specs.{declared.phase.Phase.TheVariants.Pei, Lists.Each, Lists.numbers}
use Rattle.act_code.specs.declared.action.Action.{Action}
use Rattle.mod_catalog.specs.{declared.catalogue.Catalog.Catalog, declared.catalogue.Part.Part}
use Rattle.mod_catalog.specs.Parts.{has_number, part_of, part_at}
use Rattle.store_model.specs.{declared.store_handle.Sweep.Sweep, Service.Service, Service.Sweep.next_match, Service.Queue.queue_pop}
use Rattle.store_model.specs.{Service.Install.core_install, Migration.migration}
use Rattle.boot_model.specs.declared.line.Line.TheVariants as L
use Rattle.boot_model.specs.declared.phase_end.PeiEnd.TheVariants.{Spent, Deep}
use Rattle.boot_model.specs.{Eligible.is_eligible, Eligible.may_start_again, FreeRun.MayStart, FreeRun.IsFreeIn}
use Rattle.boot_model.specs.PeiChoice.{volume_order, pei_order, rotated, next_peim}
use Rattle.boot_model.specs.PeiMachine.{PeiMachine, Frame, printed}
use Rattle.boot_model.specs.PeiAction.{Effect, Wrote, Called, Own, Shadowed, Logged, Skipped, Returned, effect}
use Rattle.boot_model.specs.PeiStep.{PeiCase, Fires, Acts, Moves, Pops, Starts, Stops, case_of, in_case, pei_step, started, callback_begun, action_at, after_effect, core_called, started_part, start_frames, open_sweep, swept}
use Rattle.boot_model.proofs.ListFacts.{each_flat, each_more, each_at, each_has, each_found, within}
use Rattle.boot_laws.proofs.Counting as C
use Rattle.boot_laws.proofs.{PartLists.IsPartOfVolume, PartLists.each_of, Begun.not_begun, Begun.not_zero, PeiOrders.volume_parts_are}
use Rattle.boot_laws.proofs.PeiCases.{fires_from, acts_from, starts_from}
use Rattle.boot_laws.proofs.PeiSteps as P
use Rattle.boot_laws.specs.PeiUnderWay.{SweepsAreLater, IsUnderWay, between_actions, steps_before_end, steps_left, PeiOpensUnderWay, PeiStepsRunOut, PeiHasEnded}
use Rattle.boot_laws.proofs.NumberLists.{one_if_same, missing_same, each_rotated}

-- the facts of a run are those of the laws of the machine's own run
sweeps_to : (frames : List Frame) → SweepsAreLater frames → P.SweepsAreLater frames
sweeps_to [] h = tt
sweeps_to (frame ∷ below) h = (h.0, sweeps_to below h.1)

sweeps_from : (frames : List Frame) → P.SweepsAreLater frames → SweepsAreLater frames
sweeps_from [] h = tt
sweeps_from (frame ∷ below) h = (h.0, sweeps_from below h.1)

pub way_to : (catalog : Catalog) (m : PeiMachine) → IsUnderWay catalog m → P.IsUnderWay catalog m
way_to catalog m way = record { sweeps = sweeps_to m.frames way.sweeps; parts = way.parts }

pub way_from : (catalog : Catalog) (m : PeiMachine) → P.IsUnderWay catalog m → IsUnderWay catalog m
way_from catalog m way = record { sweeps = sweeps_from m.frames way.sweeps; parts = way.parts }

between_same : (frames : List Frame) → between_actions frames ≡ P.between_actions frames
between_same [] = refl
between_same (frame ∷ below) = refl

before_end_same : (catalog : Catalog) (fuel : ℕ) (m : PeiMachine) → steps_before_end catalog fuel m ≡ P.left catalog fuel m
before_end_same catalog fuel m =
    let a = between_same m.frames in
    let b = missing_same m.started (numbers 0 (length catalog.modules)) in
    let c = missing_same m.again (numbers 0 (length catalog.modules)) in
    let d = one_if_same (not m.store.moved) in
    omega (arith, a, b, c, d)

pub left_same : (catalog : Catalog) (fuel : ℕ) (m : PeiMachine) → steps_left catalog fuel m ≡ P.steps_left catalog fuel m
left_same catalog fuel m =
    elim m.ended as (λ o. (elim o as (λ _. ℕ) [ Some end ↦ 0 | None ↦ steps_before_end catalog fuel m ]) ≡ (elim o as (λ _. ℕ) [ Some end ↦ 0 | None ↦ P.left catalog fuel m ])) [
      | Some end ↦ refl
      | None ↦ before_end_same catalog fuel m
    ]

order_parts : (catalog : Catalog) (reported : List ℕ) → Each (P.HasPart Pei catalog) (pei_order catalog reported)
order_parts catalog reported =
    each_flat (P.HasPart Pei catalog) (λ v. Unit {0}) (volume_order catalog) reported
    (λ v _. each_more (IsPartOfVolume Pei catalog v) (P.HasPart Pei catalog) (volume_order catalog v) (λ n is. is.0) (volume_parts_are catalog v))
    (each_of (λ v. Unit {0}) (λ v. tt) reported)

pub may_has_part : (catalog : Catalog) (m : PeiMachine) (number : ℕ) → MayStart catalog m number → P.HasPart Pei catalog number
may_has_part catalog m number may = each_at (P.HasPart Pei catalog) (pei_order catalog m.reported) number (order_parts catalog m.reported) may.0

-- the part that the machine chooses may start
pub next_may_start : (catalog : Catalog) (m : PeiMachine) (number : ℕ) → next_peim catalog m ≡ Some number → MayStart catalog m number
next_may_start catalog m number found =
    let order = pei_order catalog m.reported in (
      each_found (λ n. has_number order n ≡ true) (is_eligible catalog m) (rotated m.cursor order) number found (each_rotated (λ n. has_number order n ≡ true) m.cursor order (each_has order)),
      P.next_is catalog m number found,
    )

swept_later : (m : PeiMachine) (frames : List Frame) (sweep : Sweep) → P.SweepsAreLater frames → is_some (option_and_then (next_match m.store) (open_sweep m frames)) ≡ true → P.SweepsAreLater (swept frames sweep)
swept_later m [] sweep h k = tt
swept_later m (frame ∷ below) sweep h k = ((λ z. absurd (not_begun (next_match m.store) frame.position frame.sweep h.0 k z)), h.1)

either_way : (catalog : Catalog) (b : Bool) (one other : PeiMachine) → P.IsUnderWay catalog one → P.IsUnderWay catalog other → P.IsUnderWay catalog (cond b one other)
either_way catalog true one other h k = h
either_way catalog false one other h k = k

effect_way : (catalog : Catalog) (m : PeiMachine) (frame : Frame) (below : List Frame) (e : Effect) → P.SweepsAreLater below → Each (P.HasPart Pei catalog) m.started → P.IsUnderWay catalog (after_effect catalog m frame below e)
effect_way catalog m frame below (Wrote registers status) h parts = record { sweeps = (not_zero frame.position 0, h); parts = parts }
effect_way catalog m frame below (Called name reply) h parts = record { sweeps = (not_zero frame.position 0, h); parts = parts }
effect_way catalog m frame below (Own Shadowed) h parts =
    either_way catalog (has_number m.shadows frame.module_number) _ _ (record { sweeps = (not_zero frame.position 0, h); parts = parts }) (record { sweeps = (not_zero frame.position 0, h); parts = parts })
effect_way catalog m frame below (Logged text) h parts = record { sweeps = (not_zero frame.position 0, h); parts = parts }
effect_way catalog m frame below (Skipped n) h parts = record { sweeps = (not_zero frame.position n, h); parts = parts }
effect_way catalog m frame below (Returned status) h parts = record { sweeps = h; parts = parts }

core_way : (catalog : Catalog) (m : PeiMachine) (service : Service Sweep) → P.IsUnderWay catalog m → P.IsUnderWay catalog (core_called m service)
core_way catalog m (Ok pair) h = record { sweeps = h.sweeps; parts = h.parts }
core_way catalog m (Err fault) h = record { sweeps = h.sweeps; parts = h.parts }

frames_later : (number : ℕ) (blocks : List (List Action)) → P.SweepsAreLater (start_frames number blocks)
frames_later number [] = tt
frames_later number (block ∷ blocks) = ((λ _. refl), tt)

one_more : (catalog : Catalog) (number : ℕ) (started : List ℕ) (before : Bool) → P.HasPart Pei catalog number → Each (P.HasPart Pei catalog) started → Each (P.HasPart Pei catalog) (cond before started (number ∷ started))
one_more catalog number started true h parts = parts
one_more catalog number started false h parts = (h, parts)

start_way : (catalog : Catalog) (m : PeiMachine) (number : ℕ) (part : Option Part) → P.HasPart Pei catalog number → P.IsUnderWay catalog m → P.IsUnderWay catalog (started_part catalog m number part)
start_way catalog m number None h way = way
start_way catalog m number (Some part) h way = record { sweeps = frames_later number part.script.blocks; parts = one_more catalog number m.started (has_number m.started number) h way.parts }

case_way : (catalog : Catalog) (fuel : ℕ) (m : PeiMachine) (case : PeiCase) → case_of catalog m ≡ case → P.IsUnderWay catalog m → P.IsUnderWay catalog (in_case catalog fuel m case)
case_way catalog fuel m (Fires firing sweep) e way =
    let k : is_some (option_and_then (next_match m.store) (open_sweep m m.frames)) ≡ true = fires_from _ m.frames (migration m.store) (queue_pop m.store) (next_peim catalog m) firing sweep e in
    either_way catalog (nat_le 64 (length m.frames)) (record m { ended = Some Deep }) (callback_begun catalog m firing sweep) (record { sweeps = way.sweeps; parts = way.parts })
    (record { sweeps = ((λ _. refl), swept_later m m.frames sweep way.sweeps k); parts = way.parts })
case_way catalog fuel m (Acts frame below) e way =
    let does : Effect = effect m.store frame (action_at catalog frame) in
    let under = acts_from P.SweepsAreLater (λ top rest h. h.1) (option_and_then (next_match m.store) (open_sweep m m.frames)) m.frames (migration m.store) (queue_pop m.store) (next_peim catalog m) frame below e way.sweeps in
    either_way catalog (nat_le fuel m.actions) (record m { ended = Some Spent }) _ (record { sweeps = way.sweeps; parts = way.parts }) (effect_way catalog (record m { actions = m.actions + 1 }) frame below does under way.parts)
case_way catalog fuel m (Moves new) e way = core_way catalog (record (printed m (L.Migrate m.store.base new.base ∷ [])) { store = new }) (core_install new) (record { sweeps = way.sweeps; parts = way.parts })
case_way catalog fuel m (Pops firing new) e way = record { sweeps = ((λ _. refl), tt); parts = way.parts }
case_way catalog fuel m (Starts number) e way =
    let k = starts_from (option_and_then (next_match m.store) (open_sweep m m.frames)) m.frames (migration m.store) (queue_pop m.store) (next_peim catalog m) number e in
    start_way catalog m number (part_at Pei catalog number) (P.next_has catalog m number way.parts k.1) way
case_way catalog fuel m Stops e way = record { sweeps = way.sweeps; parts = way.parts }

pub step_way : (catalog : Catalog) (fuel : ℕ) (m : PeiMachine) → P.IsUnderWay catalog m → P.IsUnderWay catalog (pei_step catalog fuel m)
step_way catalog fuel m way = case_way catalog fuel m (case_of catalog m) refl way

-- a start more, by whether the part had started
counted : (catalog : Catalog) (started again : List ℕ) (number : ℕ) (before : Bool) → has_number started number ≡ before → (before ≡ true → has_number again number ≡ false)
    → C.In number (P.module_numbers catalog) → P.starts_left catalog (cond before started (number ∷ started)) (cond before (number ∷ again) again) < P.starts_left catalog started again
counted catalog started again number true e second among = let less = C.fewer number again (P.module_numbers catalog) (second refl) among in omega (arith, less)
counted catalog started again number false e second among = let less = C.fewer number started (P.module_numbers catalog) e among in omega (arith, less)

not_again : (a b c : Bool) → (a && not b && c) ≡ true → b ≡ false
not_again true false c h = refl
not_again true true c h = cc
not_again false b c h = cc

second_of : (before again first : Bool) → cond before again first ≡ true → before ≡ true → again ≡ true
second_of true again first h e = h
second_of false again first h e = cc

-- a later machine under way, and nearer to the end
pub record Nearer (catalog : Catalog) (fuel : ℕ) (m later : PeiMachine) : Type 0 where
  pub way : P.IsUnderWay catalog later
  pub less : P.steps_left catalog fuel later < P.steps_left catalog fuel m

start_nearer : (catalog : Catalog) (fuel : ℕ) (m : PeiMachine) (number : ℕ) → m.ended ≡ None → m.frames ≡ [] → P.IsUnderWay catalog m → MayStart catalog m number → Nearer catalog fuel m (started catalog m number)
start_nearer catalog fuel m number going frames way may =
    let part : P.HasPart Pei catalog number = may_has_part catalog m number may in
    let below = within (part_of Pei) catalog.modules number part in
    let among : C.In number (P.module_numbers catalog) = C.in_numbers number 0 (length catalog.modules) (omega arith) (omega (arith, below)) in
    let second : has_number m.started number ≡ true → has_number m.again number ≡ false =
    λ h. not_again (has_number m.shadows number) (has_number m.again number) m.store.moved (second_of (has_number m.started number) (may_start_again m number) _ may.1 h) in
    let fewer_left = counted catalog m.started m.again number (has_number m.started number) refl second among in
    let less = P.start_left catalog fuel m number (part_at Pei catalog number) part (ap P.between_actions frames) fewer_left in
    let next : PeiMachine = started_part catalog m number (part_at Pei catalog number) in
    let most : P.steps_left catalog fuel next ≤ P.left catalog fuel next = P.at_most catalog fuel next in
    let all : P.steps_left catalog fuel m ≡ P.left catalog fuel m = ap (λ o. elim o as (λ _. ℕ) [ Some end ↦ 0 | None ↦ P.left catalog fuel m ]) going in
    record { way = start_way catalog m number (part_at Pei catalog number) part way; less = omega (arith, most, less, all) }

own_nearer : (catalog : Catalog) (fuel : ℕ) (m later : PeiMachine) (case : PeiCase) → case_of catalog m ≡ case → m.ended ≡ None → P.IsUnderWay catalog m → later ≡ in_case catalog fuel m case → Nearer catalog fuel m later
own_nearer catalog fuel m later case e going way is =
    let same : later ≡ pei_step catalog fuel m = is ∙ ap (in_case catalog fuel m) (sym e) in
    let own : Nearer catalog fuel m (pei_step catalog fuel m) = record { way = step_way catalog fuel m way; less = P.steps_run_out catalog fuel m going way } in
    subst (Nearer catalog fuel m) (sym same) own

free_nearer : (catalog : Catalog) (fuel : ℕ) (m later : PeiMachine) (case : PeiCase) → case_of catalog m ≡ case → m.ended ≡ None → P.IsUnderWay catalog m → IsFreeIn catalog fuel m case later → Nearer catalog fuel m later
free_nearer catalog fuel m later (Fires firing sweep) e going way h = own_nearer catalog fuel m later (Fires firing sweep) e going way h
free_nearer catalog fuel m later (Acts frame below) e going way h = own_nearer catalog fuel m later (Acts frame below) e going way h
free_nearer catalog fuel m later (Moves new) e going way h = own_nearer catalog fuel m later (Moves new) e going way h
free_nearer catalog fuel m later (Pops firing new) e going way h = own_nearer catalog fuel m later (Pops firing new) e going way h
free_nearer catalog fuel m later (Starts first) e going way h =
    let k = starts_from (option_and_then (next_match m.store) (open_sweep m m.frames)) m.frames (migration m.store) (queue_pop m.store) (next_peim catalog m) first e in
    subst (Nearer catalog fuel m) (sym h.2) (start_nearer catalog fuel m h.0 going k.0 way h.1)
free_nearer catalog fuel m later Stops e going way h = own_nearer catalog fuel m later Stops e going way h

pub steps_run_out : PeiStepsRunOut
steps_run_out catalog fuel m later going way h =
    let near = free_nearer catalog fuel m later (case_of catalog m) refl going (way_to catalog m way) h in
    let less = near.less in
    let before = left_same catalog fuel m in
    let after = left_same catalog fuel later in
    record { way = way_from catalog later near.way; less = omega (arith, less, before, after) }

pub has_ended : PeiHasEnded
has_ended catalog fuel m none =
    elim m.ended as (λ o. (elim o as (λ _. ℕ) [ Some end ↦ 0 | None ↦ steps_before_end catalog fuel m ]) ≡ 0 → is_some o ≡ true) [
      | Some end ↦ λ _. refl
      | None ↦ λ h. absurd (omega (arith, h))
    ] none

pub opens_under_way : PeiOpensUnderWay
opens_under_way board catalog fuel =
    let few = C.missing_most [] 0 (length catalog.modules) in
    let same = missing_same [] (numbers 0 (length catalog.modules)) in
    record { way = record { sweeps = tt; parts = tt }; few = omega (arith, few, same) }
