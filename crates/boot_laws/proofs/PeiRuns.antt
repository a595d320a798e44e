-- The lines of the free boots from a machine of PEI, a step at a time.
use Rattle.std.proofs.Common.{◌≡◌, ℕ, zero, suc, ◌≤◌, ◌<◌, true, List, [], ◌∷◌, ◌++◌, Option, Some, None, refl, sym, ap, subst, is_some, arith, option_and_then}
use Rattle.store_model.specs.{Service.Sweep.next_match, Service.Queue.queue_pop, Migration.migration, HandleState.no_handles}
use Rattle.mod_catalog.specs.{declared.catalogue.Catalog.Catalog, WellFormed.AreNumbered}
use Rattle.boot_model.specs.{declared.line.Line.Line, declared.line.RunEnd.RunEnd, declared.phase_end.PeiEnd.PeiEnd, Listing.store_lines}
use Rattle.boot_model.specs.declared.line.Line.TheVariants as L
use Rattle.boot_model.specs.declared.line.RunEnd.TheVariants as E
use Rattle.boot_model.specs.declared.phase_end.PeiEnd.TheVariants.{Handoff, NoMemory, NoIpl, Spent, Deep}
use Rattle.boot_model.specs.{PeiMachine.PeiMachine, PeiChoice.next_peim, DxeRun.dxe_opening, DxeRun.dxe_bound}
use Rattle.boot_model.specs.PeiStep.{PeiCase, Fires, Acts, Moves, Pops, Starts, Stops, case_of, in_case, pei_step, started, open_sweep}
use Rattle.boot_model.specs.PeiRun.{pei_run, pei_opening, pei_bound, last_machine}
use Rattle.boot_model.specs.BootRun.{handle_lines, pei_lines, lines_after}
use Rattle.boot_model.specs.FreeRun.{IsFreeIn, IsFreePeiStep, IsFreePeiRun, AreFreeLinesAfter, AreFreePeiLines}
use Rattle.boot_laws.proofs.{PeiCases.starts_from, Begun.going_not, WholeLines.lines_behind, WholeLines.fewer_printed}
use Rattle.boot_laws.proofs.PeiSteps as P
use Rattle.boot_laws.specs.PeiUnderWay.{steps_left}
use Rattle.boot_laws.specs.PeiFree.{IsOwnCase, PeiGoesOn, PeiStartsFreely, PeiEndsSo, AreLinesBehind, PeiLinesGrow, PeiEndsFreely, OwnPeiStepsAreFree, BootIsFree}
use Rattle.boot_laws.proofs.{DxeGrowing.Told, DxeGrowing.silent, PeiGrowing.free_told}
use Rattle.boot_laws.proofs.DxeWays as W
use Rattle.boot_laws.proofs.DxeRuns as D
use Rattle.boot_laws.proofs.PeiWays.{way_to, left_same, step_way, next_may_start, has_ended, opens_under_way}

-- a step, and what goes on from there
goes_on_to : (catalog : Catalog) (fuel : ℕ) (m later : PeiMachine) (lines : List Line) → m.ended ≡ None → IsFreePeiStep catalog fuel m later → AreFreePeiLines catalog fuel later lines → AreFreePeiLines catalog fuel m lines
goes_on_to catalog fuel m later lines going step h = (later ∷ h.0, (going, step, h.1), h.2)

went_on : (catalog : Catalog) (fuel : ℕ) (m : PeiMachine) (lines : List Line) → m.ended ≡ None → AreFreePeiLines catalog fuel m lines
    → (later : PeiMachine) × IsFreePeiStep catalog fuel m later × AreFreePeiLines catalog fuel later lines
went_on catalog fuel m lines going h = by h.0 h.1 h.2 where
  by : (run : List PeiMachine) → IsFreePeiRun catalog fuel m run → AreFreeLinesAfter catalog fuel (last_machine m run) (last_machine m run).ended lines
      → (later : PeiMachine) × IsFreePeiStep catalog fuel m later × AreFreePeiLines catalog fuel later lines
  by [] run after = going_not m.ended going run
  by (later ∷ rest) run after = (later, run.1, (rest, run.2, after))

-- an own step is the only one
own_step_is : (catalog : Catalog) (fuel : ℕ) (m later : PeiMachine) (case : PeiCase) → IsOwnCase case → IsFreeIn catalog fuel m case later → later ≡ in_case catalog fuel m case
own_step_is catalog fuel m later (Fires firing sweep) own h = h
own_step_is catalog fuel m later (Acts frame below) own h = h
own_step_is catalog fuel m later (Moves new) own h = h
own_step_is catalog fuel m later (Pops firing new) own h = h
own_step_is catalog fuel m later (Starts first) own h = absurd own
own_step_is catalog fuel m later Stops own h = h

case_free : (catalog : Catalog) (fuel : ℕ) (m : PeiMachine) (case : PeiCase) → case_of catalog m ≡ case → IsFreeIn catalog fuel m case (in_case catalog fuel m case)
case_free catalog fuel m (Fires firing sweep) e = refl
case_free catalog fuel m (Acts frame below) e = refl
case_free catalog fuel m (Moves new) e = refl
case_free catalog fuel m (Pops firing new) e = refl
case_free catalog fuel m (Starts first) e =
    let k = starts_from (option_and_then (next_match m.store) (open_sweep m m.frames)) m.frames (migration m.store) (queue_pop m.store) (next_peim catalog m) first e in
    (first, next_may_start catalog m first k.1, refl)
case_free catalog fuel m Stops e = refl

pub own_steps_are_free : OwnPeiStepsAreFree
own_steps_are_free catalog fuel m = case_free catalog fuel m (case_of catalog m) refl

pub goes_on : PeiGoesOn
goes_on catalog fuel m going own lines = (
  (λ h. let w = went_on catalog fuel m lines going h in
      subst (λ later. AreFreePeiLines catalog fuel later lines) (own_step_is catalog fuel m w.0 (case_of catalog m) own w.1) w.2),
  (λ h. goes_on_to catalog fuel m (pei_step catalog fuel m) lines going (own_steps_are_free catalog fuel m) h),
)

pub starts_freely : PeiStartsFreely
starts_freely catalog fuel m first going case lines = (
  (λ h. let w = went_on catalog fuel m lines going h in
      let free : IsFreeIn catalog fuel m (Starts first) w.0 = subst (λ c. IsFreeIn catalog fuel m c w.0) case w.1 in
      (free.0, free.1, subst (λ later. AreFreePeiLines catalog fuel later lines) free.2 w.2)),
  (λ h. let free : IsFreeIn catalog fuel m (Starts first) (started catalog m h.0) = (h.0, h.1, refl) in
      goes_on_to catalog fuel m (started catalog m h.0) lines going (subst (λ c. IsFreeIn catalog fuel m c (started catalog m h.0)) (sym case) free) h.2),
)

pub ends_so : PeiEndsSo
ends_so catalog fuel m ended lines = ((λ h. by h.0 h.1 h.2), (λ h. ([], ended, h))) where
  by : (run : List PeiMachine) → IsFreePeiRun catalog fuel m run → AreFreeLinesAfter catalog fuel (last_machine m run) (last_machine m run).ended lines → AreFreeLinesAfter catalog fuel m m.ended lines
  by [] run after = after
  by (later ∷ rest) run after = going_not m.ended run.0 ended

-- each free step adds lines
run_told : (catalog : Catalog) (fuel : ℕ) (m : PeiMachine) (run : List PeiMachine) → IsFreePeiRun catalog fuel m run → Told m.lines (last_machine m run).lines × (is_some (last_machine m run).ended ≡ true)
run_told catalog fuel m [] h = (silent m.lines, h)
run_told catalog fuel m (later ∷ rest) h =
    let on = run_told catalog fuel later rest h.2 in (D.told_then m.lines later.lines (last_machine later rest).lines (free_told catalog fuel m later (case_of catalog m) h.1) on.0, on.1)

pei_behind : (pei : PeiMachine) (end : RunEnd) (lines : List Line) → lines ≡ pei_lines pei end → AreLinesBehind pei.lines lines
pei_behind pei end lines is = subst (AreLinesBehind pei.lines) (sym is) (lines_behind pei.lines (store_lines pei.store ++ handle_lines no_handles) (L.Result end))

after_behind : (catalog : Catalog) (fuel : ℕ) (pei : PeiMachine) (end : Option PeiEnd) (lines : List Line) → is_some end ≡ true → AreFreeLinesAfter catalog fuel pei end lines → AreLinesBehind pei.lines lines
after_behind catalog fuel pei None lines ended h = cc
after_behind catalog fuel pei (Some Handoff) lines ended h =
    let opening = dxe_opening catalog pei.store pei.actions in fewer_printed pei.lines opening.lines lines (D.lines_grow catalog fuel pei opening lines h)
after_behind catalog fuel pei (Some NoMemory) lines ended h = pei_behind pei E.NoMemory lines h
after_behind catalog fuel pei (Some NoIpl) lines ended h = pei_behind pei E.NoIpl lines h
after_behind catalog fuel pei (Some Spent) lines ended h = pei_behind pei E.Spent lines h
after_behind catalog fuel pei (Some Deep) lines ended h = pei_behind pei E.Deep lines h

pub lines_grow : PeiLinesGrow
lines_grow catalog fuel m lines h =
    let last = last_machine m h.0 in
    let told = run_told catalog fuel m h.0 h.1 in
    let all : AreLinesBehind last.lines lines = after_behind catalog fuel last last.ended lines told.1 h.2 in
    fewer_printed m.lines told.0.0 lines (subst (λ xs. AreLinesBehind xs lines) told.0.1 all)

-- with no step left it has ended
none_left : (catalog : Catalog) (fuel : ℕ) (m : PeiMachine) → P.steps_left catalog fuel m ≤ 0 → is_some m.ended ≡ true
none_left catalog fuel m le =
    let same = left_same catalog fuel m in
    let none : steps_left catalog fuel m ≡ 0 = omega (arith, same, le) in has_ended catalog fuel m none

-- the machine's own run is a free one
own_run : (catalog : Catalog) (fuel n : ℕ) (m : PeiMachine) → P.IsUnderWay catalog m → P.steps_left catalog fuel m ≤ n
    → (run : List PeiMachine) × IsFreePeiRun catalog fuel m run × (last_machine m run ≡ pei_run catalog fuel n m)
own_run catalog fuel zero m way le = ([], none_left catalog fuel m le, refl)
own_run catalog fuel (suc n) m way le =
    elim m.ended as (λ o. m.ended ≡ o → (run : List PeiMachine) × IsFreePeiRun catalog fuel m run × (last_machine m run ≡ (elim o as (λ _. PeiMachine) [ Some end ↦ m | None ↦ pei_run catalog fuel n (pei_step catalog fuel m) ]))) [
      | Some end ↦ λ is. ([], ap is_some is, refl)
      | None ↦ λ going.
          let less : P.steps_left catalog fuel (pei_step catalog fuel m) < P.steps_left catalog fuel m = P.steps_run_out catalog fuel m going way in
          let on = own_run catalog fuel n (pei_step catalog fuel m) (step_way catalog fuel m way) (omega (arith, less, le)) in
          (pei_step catalog fuel m ∷ on.0, (going, own_steps_are_free catalog fuel m, on.1), on.2)
    ] refl

-- its lines, with those of DXE behind a hand-off
own_after : (catalog : Catalog) (fuel : ℕ) (pei : PeiMachine) (end : Option PeiEnd) → AreNumbered 0 catalog.volumes → AreFreeLinesAfter catalog fuel pei end (lines_after catalog fuel pei end)
own_after catalog fuel pei None numbered = refl
own_after catalog fuel pei (Some Handoff) numbered =
    let opening = dxe_opening catalog pei.store pei.actions in
    let opens = W.opens_under_way catalog fuel pei.store pei.actions numbered in
    let few = opens.few in
    let same = W.left_same catalog fuel opening in
    D.own_lines catalog fuel (dxe_bound catalog fuel) pei opening numbered (W.way_to catalog opening opens.way) (omega (arith, few, same))
own_after catalog fuel pei (Some NoMemory) numbered = refl
own_after catalog fuel pei (Some NoIpl) numbered = refl
own_after catalog fuel pei (Some Spent) numbered = refl
own_after catalog fuel pei (Some Deep) numbered = refl

own_lines : (catalog : Catalog) (fuel n : ℕ) (m : PeiMachine) → AreNumbered 0 catalog.volumes → P.IsUnderWay catalog m → P.steps_left catalog fuel m ≤ n
    → AreFreePeiLines catalog fuel m (lines_after catalog fuel (pei_run catalog fuel n m) (pei_run catalog fuel n m).ended)
own_lines catalog fuel n m numbered way le =
    let run = own_run catalog fuel n m way le in
    let end = pei_run catalog fuel n m in
    (run.0, run.1, subst (λ (last : PeiMachine). AreFreeLinesAfter catalog fuel last last.ended (lines_after catalog fuel end end.ended)) (sym run.2) (own_after catalog fuel end end.ended numbered))

pub ends_freely : PeiEndsFreely
ends_freely catalog fuel m numbered way = (_, own_lines catalog fuel (P.steps_left catalog fuel m) m numbered (way_to catalog m way) (omega arith))

pub boot_is_free : BootIsFree
boot_is_free board catalog fuel numbered =
    let opening = pei_opening board catalog in
    let opens = opens_under_way board catalog fuel in
    let few = opens.few in
    let same = left_same catalog fuel opening in
    own_lines catalog fuel (pei_bound catalog fuel) opening numbered (way_to catalog opening opens.way) (omega (arith, few, same))
