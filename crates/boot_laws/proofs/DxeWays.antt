-- A free boot in DXE stays under way, and each free step brings its end nearer.
use Rattle.std.proofs.Common.{◌≡◌, ℕ, zero, suc, ◌≤◌, ◌<◌, Bool, true, false, cond, List, [], ◌∷◌, ◌++◌, Option, Some, None, refl, sym, ap, subst, ◌∙◌, nat_le, length, arith, is_some, lit≤, flat_map, filter}
use Rattle.pi_base.specs.{declared.phase.Phase.TheVariants.Dxe, Lists.Each, Lists.numbers}
use Rattle.act_code.specs.declared.action.Action.{Action}
use Rattle.mod_catalog.specs.{declared.catalogue.Catalog.Catalog, declared.catalogue.Part.Part, WellFormed.AreNumbered}
use Rattle.mod_catalog.specs.Parts.{has_number, part_of, part_at, parts_in}
use Rattle.boot_model.specs.{declared.driver.Scheduled.Scheduled, DxeMachine.DxeMachine, DxeMachine.DriverFrame, DxeRun.dxe_opening}
use Rattle.boot_model.specs.declared.phase_end.DxeEnd.TheVariants as DxeEnds
use Rattle.boot_model.specs.DxeChoice.{discovered_order, waiting, is_waiting, is_eligible_driver, group_within, befores, afters, companion_group, group_scheduled, schedule_of, queue_from, first_eligible, head_of}
use Rattle.boot_model.specs.DxeAction.{DxeEffect, Wrote, Called, Logged, Skipped, Returned, Own, dxe_effect}
use Rattle.boot_model.specs.DxeStep.{DxeCase, DxeFires, DxeActs, DxeStarts, DxeStops, dxe_case_of, dxe_case_in, queue_case, in_dxe_case, dxe_step, next_note, protocol_begun, after_dxe_effect, with_action, dxe_action_at, driver_started, start_frames}
use Rattle.boot_model.specs.FreeRun.{MaySchedule, IsStarted, IsFreeStart, IsFreeInDxe}
use Rattle.boot_model.proofs.ListFacts.{each_more, each_at, each_has, each_found, found_passes, within}
use Rattle.boot_model.proofs.Distinct.{all_differ, few_below}
use Rattle.boot_laws.proofs.Counting as C
use Rattle.boot_laws.proofs.PartLists.{IsKnown, distinct_of, known_of, drivers_are}
use Rattle.boot_laws.proofs.Queue.{AreQueued, IsQueued, group_queued, numbers_of_map}
use Rattle.boot_laws.proofs.DxeCases.{fires_from, acts_from, starts_from}
use Rattle.boot_laws.proofs.{DxeOnce.case_queued, DxeOnce.opens_queued, Begun.not_begun, Begun.not_zero}
use Rattle.boot_laws.proofs.DxeSteps as D
use Rattle.boot_laws.specs.DxeUnderWay.{SweepsAreLater, IsUnderWay, between_actions, steps_before_end, steps_left, DxeOpensUnderWay, DxeStepsRunOut, DxeHasEnded, FewDriversWait}
use Rattle.boot_laws.specs.DxeAim.{aimed, IsChoosing, StartsFirstOf, GroupsAreAimed, FirstEligibleMayStart}
use Rattle.boot_laws.proofs.NumberLists.{missing_same, finds_some}

-- the facts of a run are those of the laws of the machine's own run
sweeps_to : (frames : List DriverFrame) → SweepsAreLater frames → D.SweepsAreLater frames
sweeps_to [] h = tt
sweeps_to (frame ∷ below) h = (h.0, sweeps_to below h.1)

sweeps_from : (frames : List DriverFrame) → D.SweepsAreLater frames → SweepsAreLater frames
sweeps_from [] h = tt
sweeps_from (frame ∷ below) h = (h.0, sweeps_from below h.1)

pub queued_to : (catalog : Catalog) (m : DxeMachine) → IsUnderWay catalog m → IsQueued catalog m
queued_to catalog m way = record {
  volumes_differ = way.volumes_differ;
  queue_differs = way.queue_differs;
  started_differ = way.started_differ;
  apart = way.apart;
  queue_known = way.queue_known;
  started_known = way.started_known;
}

pub way_to : (catalog : Catalog) (m : DxeMachine) → IsUnderWay catalog m → D.IsUnderWay catalog m
way_to catalog m way = record { sweeps = sweeps_to m.frames way.sweeps; queued = queued_to catalog m way }

pub way_from : (catalog : Catalog) (m : DxeMachine) → D.IsUnderWay catalog m → IsUnderWay catalog m
way_from catalog m way = record {
  sweeps = sweeps_from m.frames way.sweeps;
  volumes_differ = way.queued.volumes_differ;
  queue_differs = way.queued.queue_differs;
  started_differ = way.queued.started_differ;
  apart = way.queued.apart;
  queue_known = way.queued.queue_known;
  started_known = way.queued.started_known;
}

between_same : (frames : List DriverFrame) → between_actions frames ≡ D.between_actions frames
between_same [] = refl
between_same (frame ∷ below) = refl

before_end_same : (catalog : Catalog) (fuel : ℕ) (m : DxeMachine) → steps_before_end catalog fuel m ≡ D.left catalog fuel m
before_end_same catalog fuel m =
    let a = between_same m.frames in
    let b = missing_same m.started (numbers 0 (length catalog.modules)) in
    omega (arith, a, b)

pub left_same : (catalog : Catalog) (fuel : ℕ) (m : DxeMachine) → steps_left catalog fuel m ≡ D.steps_left catalog fuel m
left_same catalog fuel m =
    elim m.ended as (λ o. (elim o as (λ _. ℕ) [ Some end ↦ 0 | None ↦ steps_before_end catalog fuel m ]) ≡ (elim o as (λ _. ℕ) [ Some end ↦ 0 | None ↦ D.left catalog fuel m ])) [
      | Some end ↦ refl
      | None ↦ before_end_same catalog fuel m
    ]

either_later : (b : Bool) (one other : DxeMachine) → D.SweepsAreLater one.frames → D.SweepsAreLater other.frames → D.SweepsAreLater (cond b one other).frames
either_later true one other h k = h
either_later false one other h k = k

effect_later : (m : DxeMachine) (frame : DriverFrame) (below : List DriverFrame) (e : DxeEffect) → D.SweepsAreLater below → D.SweepsAreLater (after_dxe_effect m frame below e).frames
effect_later m frame below (Wrote registers status) h = (not_zero frame.position 0, h)
effect_later m frame below (Called name reply) h = (not_zero frame.position 0, h)
effect_later m frame below (Logged text) h = (not_zero frame.position 0, h)
effect_later m frame below (Skipped n) h = (not_zero frame.position n, h)
effect_later m frame below (Returned status) h = h
effect_later m frame below (Own own) h = absurd own

frames_later : (number : ℕ) (blocks : List (List Action)) → D.SweepsAreLater (start_frames number blocks)
frames_later number [] = tt
frames_later number (block ∷ blocks) = ((λ _. refl), tt)

start_later : (catalog : Catalog) (m : DxeMachine) (next : Scheduled) (queue : List Scheduled) (part : Option Part) → D.SweepsAreLater m.frames → D.SweepsAreLater (driver_started catalog m next queue part).frames
start_later catalog m next queue None h = h
start_later catalog m next queue (Some part) h = frames_later next.module_number part.script.blocks

case_later : (catalog : Catalog) (fuel : ℕ) (m : DxeMachine) (case : DxeCase) → dxe_case_of catalog m ≡ case → D.SweepsAreLater m.frames → D.SweepsAreLater (in_dxe_case catalog fuel m case).frames
case_later catalog fuel m (DxeFires note sweep frame below) e h =
    let k = fires_from catalog m m.frames note sweep frame below e in
    let later : D.SweepsAreLater (frame ∷ below) = subst D.SweepsAreLater k.0 h in
    either_later (nat_le 64 (length m.frames)) (record m { ended = Some DxeEnds.Deep }) (protocol_begun catalog m note sweep frame below) h
    ((λ _. refl), ((λ z. absurd (not_begun (next_note m) frame.position frame.sweep later.0 k.1 z)), later.1))
case_later catalog fuel m (DxeActs frame below) e h =
    let later : D.SweepsAreLater (frame ∷ below) = subst D.SweepsAreLater (acts_from catalog m m.frames frame below e) h in
    let does : DxeEffect = dxe_effect catalog (with_action m) frame (dxe_action_at catalog frame) in
    either_later (nat_le fuel m.actions) (record m { ended = Some DxeEnds.Spent }) (after_dxe_effect (with_action m) frame below does) h (effect_later (with_action m) frame below does later.1)
case_later catalog fuel m (DxeStarts next queue) e h = start_later catalog m next queue (part_at Dxe catalog next.module_number) h
case_later catalog fuel m DxeStops e h = h

pub step_way : (catalog : Catalog) (fuel : ℕ) (m : DxeMachine) → AreNumbered 0 catalog.volumes → D.IsUnderWay catalog m → D.IsUnderWay catalog (dxe_step catalog fuel m)
step_way catalog fuel m numbered way =
    record { sweeps = case_later catalog fuel m (dxe_case_of catalog m) refl way.sweeps; queued = case_queued catalog fuel m (dxe_case_of catalog m) numbered refl way.queued }

-- with a driver scheduled and nothing that runs, it starts
pub queue_starts : (catalog : Catalog) (m : DxeMachine) (next : Scheduled) (queue : List Scheduled) → m.frames ≡ [] → m.scheduled ≡ next ∷ queue → dxe_case_of catalog m ≡ DxeStarts next queue
queue_starts catalog m next queue frames scheduled =
    ap (dxe_case_in catalog m) frames ∙ ap (λ first. queue_case (head_of (queue_from first (group_scheduled catalog m (first_eligible catalog m))))) scheduled

-- with none scheduled, the group of the first eligible one is
pub group_starts : (catalog : Catalog) (m : DxeMachine) (next : Scheduled) (queue : List Scheduled) → m.frames ≡ [] → m.scheduled ≡ [] → group_scheduled catalog m (first_eligible catalog m) ≡ next ∷ queue
    → dxe_case_of catalog m ≡ DxeStarts next queue
group_starts catalog m next queue frames scheduled group =
    ap (dxe_case_in catalog m) frames ∙ ap (λ first. queue_case (head_of (queue_from first (group_scheduled catalog m (first_eligible catalog m))))) scheduled ∙ ap (λ all. queue_case (head_of all)) group

-- a group has a first driver
abbrev pub HasFirst : {A : Type 0} → List A → Type 0
HasFirst {A} xs = (first : A) × (rest : List A) × (xs ≡ first ∷ rest)

has_first : (xs : List ℕ) (y : ℕ) (ys : List ℕ) → HasFirst (xs ++ y ∷ ys)
has_first [] y ys = (y, ys, refl)
has_first (x ∷ xs) y ys = (x, xs ++ y ∷ ys, refl)

group_has_first : (catalog : Catalog) (m : DxeMachine) (deep number : ℕ) → HasFirst (group_within catalog m deep number)
group_has_first catalog m zero number = (number, [], refl)
group_has_first catalog m (suc deep) number = has_first (flat_map (group_within catalog m deep) (befores catalog m number)) number (flat_map (group_within catalog m deep) (afters catalog m number))

pub scheduled_first : (catalog : Catalog) (m : DxeMachine) (number : ℕ) → HasFirst (group_scheduled catalog m (Some number))
scheduled_first catalog m number =
    let h = group_has_first catalog m (length (waiting catalog m)) number in (_, _, ap (schedule_of catalog) h.2)

-- a driver with its group in the queue
pub aimed_way : (catalog : Catalog) (m : DxeMachine) (root : ℕ) → MaySchedule catalog m root → D.IsUnderWay catalog m → D.IsUnderWay catalog (aimed catalog m root)
aimed_way catalog m root may way =
    let waits : (P : ℕ → Type 0) → Each P (waiting catalog m) → P root = λ P e. each_at P (waiting catalog m) root e may.0 in
    let queued = group_queued catalog m root may.1 waits way.queued in
    record { sweeps = way.sweeps; queued = subst (λ ns. AreQueued catalog m.discovered ns m.started) (sym (numbers_of_map _ (λ n. refl) (companion_group catalog m root))) queued }

-- a later machine under way, and nearer to the end
pub record Nearer (catalog : Catalog) (fuel : ℕ) (m later : DxeMachine) : Type 0 where
  pub way : D.IsUnderWay catalog later
  pub less : D.steps_left catalog fuel later < D.steps_left catalog fuel m

own_nearer : (catalog : Catalog) (fuel : ℕ) (m : DxeMachine) → AreNumbered 0 catalog.volumes → m.ended ≡ None → D.IsUnderWay catalog m → Nearer catalog fuel m (dxe_step catalog fuel m)
own_nearer catalog fuel m numbered going way = record { way = step_way catalog fuel m numbered way; less = D.steps_run_out catalog fuel m going way }

-- a start from another queue
same_start : (catalog : Catalog) (m : DxeMachine) (scheduled : List Scheduled) (next : Scheduled) (queue : List Scheduled) (part : Option Part)
    → driver_started catalog (record m { scheduled = scheduled }) next queue part ≡ driver_started catalog m next queue part
same_start catalog m scheduled next queue None = refl
same_start catalog m scheduled next queue (Some part) = refl

-- what starts from the queue is the machine's own step where that queue is scheduled
pub started_is : (catalog : Catalog) (fuel : ℕ) (m later : DxeMachine) (queue : List Scheduled) → m.frames ≡ [] → IsStarted catalog m queue later → later ≡ dxe_step catalog fuel (record m { scheduled = queue })
started_is catalog fuel m later [] frames h = absurd h
started_is catalog fuel m later (next ∷ queue) frames h =
    h ∙ sym (same_start catalog m (next ∷ queue) next queue (part_at Dxe catalog next.module_number))
    ∙ ap (in_dxe_case catalog fuel (record m { scheduled = next ∷ queue })) (sym (queue_starts catalog (record m { scheduled = next ∷ queue }) next queue frames refl))

pub is_started : (catalog : Catalog) (fuel : ℕ) (m : DxeMachine) (queue : List Scheduled) → m.frames ≡ [] → HasFirst queue → IsStarted catalog m queue (dxe_step catalog fuel (record m { scheduled = queue }))
is_started catalog fuel m [] frames h = let e : [] ≡ h.0 ∷ h.1 = h.2 in cc
is_started catalog fuel m (next ∷ queue) frames h =
    ap (in_dxe_case catalog fuel (record m { scheduled = next ∷ queue })) (queue_starts catalog (record m { scheduled = next ∷ queue }) next queue frames refl)
    ∙ same_start catalog m (next ∷ queue) next queue (part_at Dxe catalog next.module_number)

scheduled_as : (m : DxeMachine) (queue : List Scheduled) → m.scheduled ≡ queue → record m { scheduled = queue } ≡ m
scheduled_as m queue same = ap (λ other. record m { scheduled = other }) (sym same)

-- a free start by the queue: that of the machine, or of the machine in which a group is scheduled
start_nearer : (catalog : Catalog) (fuel : ℕ) (m later : DxeMachine) (scheduled : List Scheduled) → AreNumbered 0 catalog.volumes → m.ended ≡ None → m.frames ≡ [] → m.scheduled ≡ scheduled → D.IsUnderWay catalog m
    → IsFreeStart catalog m scheduled later → Nearer catalog fuel m later
start_nearer catalog fuel m later [] numbered going frames same way h =
    let near = own_nearer catalog fuel (aimed catalog m h.0) numbered going (aimed_way catalog m h.0 h.1 way) in
    let moved : Nearer catalog fuel m (dxe_step catalog fuel (aimed catalog m h.0)) = record { way = near.way; less = near.less } in
    subst (Nearer catalog fuel m) (sym (started_is catalog fuel m later (group_scheduled catalog m (Some h.0)) frames h.2)) moved
start_nearer catalog fuel m later (next ∷ queue) numbered going frames same way h =
    let is = started_is catalog fuel m later (next ∷ queue) frames h ∙ ap (dxe_step catalog fuel) (scheduled_as m (next ∷ queue) same) in
    subst (Nearer catalog fuel m) (sym is) (own_nearer catalog fuel m numbered going way)

case_nearer : (catalog : Catalog) (fuel : ℕ) (m later : DxeMachine) (case : DxeCase) → dxe_case_of catalog m ≡ case → AreNumbered 0 catalog.volumes → m.ended ≡ None → D.IsUnderWay catalog m → later ≡ in_dxe_case catalog fuel m case
    → Nearer catalog fuel m later
case_nearer catalog fuel m later case e numbered going way is =
    subst (Nearer catalog fuel m) (sym (is ∙ ap (in_dxe_case catalog fuel m) (sym e))) (own_nearer catalog fuel m numbered going way)

free_nearer : (catalog : Catalog) (fuel : ℕ) (m later : DxeMachine) (case : DxeCase) → dxe_case_of catalog m ≡ case → AreNumbered 0 catalog.volumes → m.ended ≡ None → D.IsUnderWay catalog m → IsFreeInDxe catalog fuel m case later
    → Nearer catalog fuel m later
free_nearer catalog fuel m later (DxeFires note sweep frame below) e numbered going way h = case_nearer catalog fuel m later (DxeFires note sweep frame below) e numbered going way h
free_nearer catalog fuel m later (DxeActs frame below) e numbered going way h = case_nearer catalog fuel m later (DxeActs frame below) e numbered going way h
free_nearer catalog fuel m later (DxeStarts next queue) e numbered going way h =
    let k = starts_from catalog m m.frames next queue e in start_nearer catalog fuel m later m.scheduled numbered going k.0 refl way h
free_nearer catalog fuel m later DxeStops e numbered going way h = case_nearer catalog fuel m later DxeStops e numbered going way h

pub steps_run_out : DxeStepsRunOut
steps_run_out catalog fuel m later numbered going way h =
    let near = free_nearer catalog fuel m later (dxe_case_of catalog m) refl numbered going (way_to catalog m way) h in
    let less = near.less in
    let before = left_same catalog fuel m in
    let after = left_same catalog fuel later in
    record { way = way_from catalog later near.way; less = omega (arith, less, before, after) }

pub has_ended : DxeHasEnded
has_ended catalog fuel m none =
    elim m.ended as (λ o. (elim o as (λ _. ℕ) [ Some end ↦ 0 | None ↦ steps_before_end catalog fuel m ]) ≡ 0 → is_some o ≡ true) [
      | Some end ↦ λ _. refl
      | None ↦ λ h. absurd (omega (arith, h))
    ] none

pub opens_under_way : DxeOpensUnderWay
opens_under_way catalog fuel s actions numbered =
    let few = C.missing_most [] 0 (length catalog.modules) in
    let same = missing_same [] (numbers 0 (length catalog.modules)) in
    let opens : D.IsUnderWay catalog (dxe_opening catalog s actions) = record { sweeps = tt; queued = opens_queued catalog s actions numbered } in
    record { way = way_from catalog (dxe_opening catalog s actions) opens; few = omega (arith, few, same) }

-- no more drivers wait than there are modules
filtered_on : (test : ℕ → Bool) (x : ℕ) (xs : List ℕ) (b : Bool) → length (filter test xs) ≤ length xs → length (cond b (x ∷ filter test xs) (filter test xs)) ≤ suc (length xs)
filtered_on test x xs true le = omega (arith, le)
filtered_on test x xs false le = omega (arith, le)

filtered : (test : ℕ → Bool) (xs : List ℕ) → length (filter test xs) ≤ length xs
filtered test [] = lit≤ tt
filtered test (x ∷ xs) = filtered_on test x xs (test x) (filtered test xs)

pub few_wait : FewDriversWait
few_wait catalog m way =
    let order = discovered_order catalog m in
    let known = known_of catalog (parts_in Dxe catalog) (drivers_are catalog) m.discovered in
    let below = each_more (IsKnown catalog m.discovered) (λ n. n < length catalog.modules) order (λ n is. within (part_of Dxe) catalog.modules n is.0) known in
    let differ = all_differ order (distinct_of catalog (parts_in Dxe catalog) (drivers_are catalog) m.discovered way.volumes_differ) in
    let few : length order ≤ length catalog.modules = few_below order (length catalog.modules) differ below in
    let fewer = filtered (is_waiting m) order in
    record { order = few; waiting = omega (arith, few, fewer) }

-- what is found may start
pub found_may : (catalog : Catalog) (m : DxeMachine) (root : ℕ) → first_eligible catalog m ≡ Some root → MaySchedule catalog m root
found_may catalog m root found = (
  each_found (λ n. has_number (waiting catalog m) n ≡ true) (is_eligible_driver catalog m) (waiting catalog m) root found (each_has (waiting catalog m)),
  found_passes (is_eligible_driver catalog m) (waiting catalog m) root found,
)

pub may_found : (catalog : Catalog) (m : DxeMachine) (root : ℕ) → MaySchedule catalog m root → (first : ℕ) × (first_eligible catalog m ≡ Some first)
may_found catalog m root may = finds_some (is_eligible_driver catalog m) (waiting catalog m) root may.0 may.1

stops_idle : (catalog : Catalog) (m : DxeMachine) → IsChoosing m → first_eligible catalog m ≡ None → dxe_case_of catalog m ≡ DxeStops
stops_idle catalog m is none =
    ap (dxe_case_in catalog m) is.frames ∙ ap (λ first. queue_case (head_of (queue_from first (group_scheduled catalog m (first_eligible catalog m))))) is.scheduled
    ∙ ap (λ found. queue_case (head_of (group_scheduled catalog m found))) none

pub first_may_start : FirstEligibleMayStart
first_may_start catalog m = record {
  found = found_may catalog m;
  none = λ root none may. let some = may_found catalog m root may in let e : Some some.0 ≡ None = sym some.1 ∙ none in cc;
  stops = stops_idle catalog m;
}

-- where one may start, the machine starts one
pub case_starts : (catalog : Catalog) (m : DxeMachine) (root : ℕ) → IsChoosing m → first_eligible catalog m ≡ Some root → (next : Scheduled) × (queue : List Scheduled) × (dxe_case_of catalog m ≡ DxeStarts next queue)
case_starts catalog m root is found =
    let h = scheduled_first catalog m root in
    (h.0, h.1, group_starts catalog m h.0 h.1 is.frames is.scheduled (ap (group_scheduled catalog m) found ∙ h.2))

-- the machine's own step where a group is scheduled is a free start
pub aimed_step : (catalog : Catalog) (fuel : ℕ) (m : DxeMachine) (root : ℕ) → IsChoosing m → MaySchedule catalog m root → IsFreeInDxe catalog fuel m (dxe_case_of catalog m) (dxe_step catalog fuel (aimed catalog m root))
aimed_step catalog fuel m root is may =
    let found = may_found catalog m root may in
    let case = case_starts catalog m found.0 is found.1 in
    let next = dxe_step catalog fuel (aimed catalog m root) in
    let step : IsFreeStart catalog m [] next = (root, may, is_started catalog fuel m (group_scheduled catalog m (Some root)) is.frames (scheduled_first catalog m root)) in
    let from : IsFreeStart catalog m m.scheduled next = subst (λ q. IsFreeStart catalog m q next) (sym is.scheduled) step in
    subst (λ c. IsFreeInDxe catalog fuel m c next) (sym case.2) from

first_starts : (catalog : Catalog) (m : DxeMachine) (root : ℕ) → IsChoosing m → StartsFirstOf catalog m root
first_starts catalog m root is =
    let h = group_has_first catalog m (length (waiting catalog m)) root in
    let scheduled : group_scheduled catalog m (Some root) ≡ schedule_of catalog (h.0 ∷ h.1) = ap (schedule_of catalog) h.2 in
    record {
      first = _;
      queue = _;
      group = scheduled;
      others = h.1;
      numbers = h.2;
      licence = refl;
      starts = queue_starts catalog (aimed catalog m root) _ _ is.frames scheduled;
    }

pub groups_are_aimed : GroupsAreAimed
groups_are_aimed catalog m root is may = record {
  starts = first_starts catalog m root is;
  step = λ fuel. aimed_step catalog fuel m root is may;
  way = λ way. way_from catalog (aimed catalog m root) (aimed_way catalog m root may (way_to catalog m way));
  left = λ fuel. refl;
}
