-- The lines of the free boots from a machine of DXE, a step at a time.
use Rattle.std.proofs.Common.{◌≡◌, ℕ, zero, suc, ◌≤◌, ◌<◌, true, List, [], ◌∷◌, ◌++◌, Option, Some, None, refl, sym, ap, subst, ◌∙◌, is_some, arith, append_assoc, ◌≢◌}
use Rattle.pi_base.specs.declared.phase.Phase.TheVariants.{Dxe}
use Rattle.mod_catalog.specs.{declared.catalogue.Catalog.Catalog, Parts.part_at, WellFormed.AreNumbered}
use Rattle.boot_model.specs.{declared.driver.Scheduled.Scheduled, declared.line.Line.Line, declared.phase_end.DxeEnd.DxeEnd}
use Rattle.boot_model.specs.declared.line.Line.TheVariants as L
use Rattle.boot_model.specs.{Listing.store_lines, PeiMachine.PeiMachine, DxeMachine.DxeMachine, DxeRun.dxe_run}
use Rattle.boot_model.specs.DxeChoice.{group_scheduled, queue_from, first_eligible, driver_queue}
use Rattle.boot_model.specs.DxeStep.{DxeCase, DxeFires, DxeActs, DxeStarts, DxeStops, dxe_case_of, in_dxe_case, dxe_step, driver_started}
use Rattle.boot_model.specs.BootRun.{handle_lines, dxe_result, both_lines}
use Rattle.boot_model.specs.FreeRun.{IsStarted, IsFreeStart, IsFreeInDxe, IsFreeDxeRun, last_of_dxe, AreFreeDxeLines}
use Rattle.boot_laws.proofs.{DxeCases.starts_from, Begun.going_not, WholeLines.lines_behind, WholeLines.fewer_printed}
use Rattle.boot_laws.proofs.DxeSteps as D
use Rattle.boot_laws.specs.{PeiFree.AreLinesBehind, DxeUnderWay.steps_left}
use Rattle.boot_laws.specs.DxeFree.{IsOwnCase, DxeGoesOn, DxeEndsSo, DxeLinesGrow, DxeEndsFreely, OwnDxeStepsAreFree}
use Rattle.boot_laws.specs.DxeAim.{aimed, IsChoosing, AimIsFree, DxeStartsFreely}
use Rattle.boot_laws.proofs.DxeGrowing.{Told, silent, start_told, case_told}
use Rattle.boot_laws.proofs.DxeWays.{way_to, step_way, found_may, started_is, scheduled_first, aimed_step, case_starts, queue_starts, left_same, has_ended}

-- a step, and what goes on from there
pub goes_on_to : (catalog : Catalog) (fuel : ℕ) (pei : PeiMachine) (m later : DxeMachine) (lines : List Line) → m.ended ≡ None → IsFreeInDxe catalog fuel m (dxe_case_of catalog m) later
    → AreFreeDxeLines catalog fuel pei later lines → AreFreeDxeLines catalog fuel pei m lines
goes_on_to catalog fuel pei m later lines going step h = (later ∷ h.0, (going, step, h.1), h.2)

pub went_on : (catalog : Catalog) (fuel : ℕ) (pei : PeiMachine) (m : DxeMachine) (lines : List Line) → m.ended ≡ None → AreFreeDxeLines catalog fuel pei m lines
    → (later : DxeMachine) × IsFreeInDxe catalog fuel m (dxe_case_of catalog m) later × AreFreeDxeLines catalog fuel pei later lines
went_on catalog fuel pei m lines going h = by h.0 h.1 h.2 where
  by : (run : List DxeMachine) → IsFreeDxeRun catalog fuel m run → lines ≡ both_lines pei (last_of_dxe m run) (last_of_dxe m run).ended
      → (later : DxeMachine) × IsFreeInDxe catalog fuel m (dxe_case_of catalog m) later × AreFreeDxeLines catalog fuel pei later lines
  by [] run after = going_not m.ended going run
  by (later ∷ rest) run after = (later, run.1, (rest, run.2, after))

-- an own step is the only one
first_of_queue : (catalog : Catalog) (m : DxeMachine) (scheduled : List Scheduled) (next first : Scheduled) (queue rest : List Scheduled) → m.scheduled ≡ scheduled → scheduled ≡ first ∷ rest
    → driver_queue catalog m ≡ next ∷ queue → first ∷ rest ≡ next ∷ queue
first_of_queue catalog m scheduled next first queue rest is same queued =
    sym (ap (λ q. queue_from q (group_scheduled catalog m (first_eligible catalog m))) (is ∙ same)) ∙ queued

start_is : (catalog : Catalog) (m later : DxeMachine) (scheduled : List Scheduled) (next : Scheduled) (queue : List Scheduled) → m.scheduled ≡ scheduled → scheduled ≢ [] → driver_queue catalog m ≡ next ∷ queue
    → IsFreeStart catalog m scheduled later → later ≡ driver_started catalog m next queue (part_at Dxe catalog next.module_number)
start_is catalog m later [] next queue is some queued h = absurd (some refl)
start_is catalog m later (first ∷ rest) next queue is some queued h =
    let same = first_of_queue catalog m (first ∷ rest) next first queue rest is refl queued in
    let a : first ≡ next = cc in
    let b : rest ≡ queue = cc in
    h ∙ ap (λ one. driver_started catalog m one rest (part_at Dxe catalog one.module_number)) a ∙ ap (λ others. driver_started catalog m next others (part_at Dxe catalog next.module_number)) b

own_start : (catalog : Catalog) (m : DxeMachine) (scheduled : List Scheduled) (next : Scheduled) (queue : List Scheduled) → m.scheduled ≡ scheduled → driver_queue catalog m ≡ next ∷ queue
    → IsFreeStart catalog m scheduled (driver_started catalog m next queue (part_at Dxe catalog next.module_number))
own_start catalog m [] next queue is queued = by (first_eligible catalog m) refl (sym (ap (λ q. queue_from q (group_scheduled catalog m (first_eligible catalog m))) is) ∙ queued) where
  by : (found : Option ℕ) → first_eligible catalog m ≡ found → group_scheduled catalog m found ≡ next ∷ queue → IsFreeStart catalog m [] (driver_started catalog m next queue (part_at Dxe catalog next.module_number))
  by None e group = cc
  by (Some root) e group = (root, found_may catalog m root e, subst (λ q. IsStarted catalog m q (driver_started catalog m next queue (part_at Dxe catalog next.module_number))) (sym group) refl)
own_start catalog m (first ∷ rest) next queue is queued =
    let same = first_of_queue catalog m (first ∷ rest) next first queue rest is refl queued in
    let a : first ≡ next = cc in
    let b : rest ≡ queue = cc in
    sym (ap (λ one. driver_started catalog m one rest (part_at Dxe catalog one.module_number)) a ∙ ap (λ others. driver_started catalog m next others (part_at Dxe catalog next.module_number)) b)

case_free : (catalog : Catalog) (fuel : ℕ) (m : DxeMachine) (case : DxeCase) → dxe_case_of catalog m ≡ case → IsFreeInDxe catalog fuel m case (in_dxe_case catalog fuel m case)
case_free catalog fuel m (DxeFires note sweep frame below) e = refl
case_free catalog fuel m (DxeActs frame below) e = refl
case_free catalog fuel m (DxeStarts next queue) e = let k = starts_from catalog m m.frames next queue e in own_start catalog m m.scheduled next queue refl k.1
case_free catalog fuel m DxeStops e = refl

pub own_steps_are_free : OwnDxeStepsAreFree
own_steps_are_free catalog fuel m = case_free catalog fuel m (dxe_case_of catalog m) refl

own_step_is : (catalog : Catalog) (fuel : ℕ) (m later : DxeMachine) (case : DxeCase) → dxe_case_of catalog m ≡ case → IsOwnCase case m.scheduled → IsFreeInDxe catalog fuel m case later → later ≡ in_dxe_case catalog fuel m case
own_step_is catalog fuel m later (DxeFires note sweep frame below) e own h = h
own_step_is catalog fuel m later (DxeActs frame below) e own h = h
own_step_is catalog fuel m later (DxeStarts next queue) e own h = let k = starts_from catalog m m.frames next queue e in start_is catalog m later m.scheduled next queue refl own k.1 h
own_step_is catalog fuel m later DxeStops e own h = h

pub goes_on : DxeGoesOn
goes_on catalog fuel pei m going own lines = (
  (λ h. let w = went_on catalog fuel pei m lines going h in
      let is = own_step_is catalog fuel m w.0 (dxe_case_of catalog m) refl own w.1 in
      subst (λ later. AreFreeDxeLines catalog fuel pei later lines) is w.2),
  (λ h. goes_on_to catalog fuel pei m (dxe_step catalog fuel m) lines going (own_steps_are_free catalog fuel m) h),
)

pub ends_so : DxeEndsSo
ends_so catalog fuel pei m ended lines = ((λ h. by h.0 h.1 h.2), (λ h. ([], ended, h))) where
  by : (run : List DxeMachine) → IsFreeDxeRun catalog fuel m run → lines ≡ both_lines pei (last_of_dxe m run) (last_of_dxe m run).ended → lines ≡ both_lines pei m m.ended
  by [] run after = after
  by (later ∷ rest) run after = going_not m.ended run.0 ended

-- each free step adds lines
free_start_told : (catalog : Catalog) (m later : DxeMachine) (queue : List Scheduled) → IsStarted catalog m queue later → Told m.lines later.lines
free_start_told catalog m later [] h = absurd h
free_start_told catalog m later (next ∷ queue) h = subst (λ (x : DxeMachine). Told m.lines x.lines) (sym h) (start_told catalog m next queue (part_at Dxe catalog next.module_number))

queue_told : (catalog : Catalog) (m later : DxeMachine) (scheduled : List Scheduled) → IsFreeStart catalog m scheduled later → Told m.lines later.lines
queue_told catalog m later [] h = free_start_told catalog m later (group_scheduled catalog m (Some h.0)) h.2
queue_told catalog m later (next ∷ queue) h = free_start_told catalog m later (next ∷ queue) h

own_told : (catalog : Catalog) (fuel : ℕ) (m later : DxeMachine) (case : DxeCase) → later ≡ in_dxe_case catalog fuel m case → Told m.lines later.lines
own_told catalog fuel m later case is = subst (λ (x : DxeMachine). Told m.lines x.lines) (sym is) (case_told catalog fuel m case)

free_told : (catalog : Catalog) (fuel : ℕ) (m later : DxeMachine) (case : DxeCase) → IsFreeInDxe catalog fuel m case later → Told m.lines later.lines
free_told catalog fuel m later (DxeFires note sweep frame below) h = own_told catalog fuel m later (DxeFires note sweep frame below) h
free_told catalog fuel m later (DxeActs frame below) h = own_told catalog fuel m later (DxeActs frame below) h
free_told catalog fuel m later (DxeStarts next queue) h = queue_told catalog m later m.scheduled h
free_told catalog fuel m later DxeStops h = own_told catalog fuel m later DxeStops h

pub told_then : (a b c : List Line) → Told a b → Told b c → Told a c
told_then a b c h k = (h.0 ++ k.0, k.1 ∙ ap (λ xs. xs ++ k.0) h.1 ∙ append_assoc a h.0 k.0)

run_told : (catalog : Catalog) (fuel : ℕ) (m : DxeMachine) (run : List DxeMachine) → IsFreeDxeRun catalog fuel m run → Told m.lines (last_of_dxe m run).lines × (is_some (last_of_dxe m run).ended ≡ true)
run_told catalog fuel m [] h = (silent m.lines, h)
run_told catalog fuel m (later ∷ rest) h =
    let on = run_told catalog fuel later rest h.2 in (told_then m.lines later.lines (last_of_dxe later rest).lines (free_told catalog fuel m later (dxe_case_of catalog m) h.1) on.0, on.1)

-- the lines of both phases, and the last ones
both_behind : (pei : PeiMachine) (dxe : DxeMachine) (end : Option DxeEnd) → is_some end ≡ true → AreLinesBehind (pei.lines ++ dxe.lines) (both_lines pei dxe end)
both_behind pei dxe None h = cc
both_behind pei dxe (Some end) h = lines_behind (pei.lines ++ dxe.lines) (store_lines pei.store ++ handle_lines dxe.handles) (L.Result (dxe_result end))

pub lines_grow : DxeLinesGrow
lines_grow catalog fuel pei m lines h =
    let last = last_of_dxe m h.0 in
    let told = run_told catalog fuel m h.0 h.1 in
    let all : AreLinesBehind (pei.lines ++ last.lines) lines = subst (AreLinesBehind (pei.lines ++ last.lines)) (sym h.2) (both_behind pei last last.ended told.1) in
    let split : pei.lines ++ last.lines ≡ (pei.lines ++ m.lines) ++ told.0.0 = ap (λ xs. pei.lines ++ xs) told.0.1 ∙ sym (append_assoc pei.lines m.lines told.0.0) in
    fewer_printed (pei.lines ++ m.lines) told.0.0 lines (subst (λ xs. AreLinesBehind xs lines) split all)

-- where a group is scheduled the next step is the machine's own
not_empty : {A : Type 0} (xs rest : List A) (first : A) → xs ≡ first ∷ rest → xs ≢ []
not_empty xs rest first h none = cc

pub aimed_own : (catalog : Catalog) (m : DxeMachine) (root : ℕ) → IsChoosing m → IsOwnCase (dxe_case_of catalog (aimed catalog m root)) (group_scheduled catalog m (Some root))
aimed_own catalog m root is =
    let h = scheduled_first catalog m root in
    subst (λ c. IsOwnCase c (group_scheduled catalog m (Some root))) (sym (queue_starts catalog (aimed catalog m root) h.0 h.1 is.frames h.2)) (not_empty (group_scheduled catalog m (Some root)) h.1 h.0 h.2)

-- with no step left it has ended
none_left : (catalog : Catalog) (fuel : ℕ) (m : DxeMachine) → D.steps_left catalog fuel m ≤ 0 → is_some m.ended ≡ true
none_left catalog fuel m le =
    let same = left_same catalog fuel m in
    let none : steps_left catalog fuel m ≡ 0 = omega (arith, same, le) in has_ended catalog fuel m none

-- the machine's own run is a free one
pub own_run : (catalog : Catalog) (fuel n : ℕ) (m : DxeMachine) → AreNumbered 0 catalog.volumes → D.IsUnderWay catalog m → D.steps_left catalog fuel m ≤ n
    → (run : List DxeMachine) × IsFreeDxeRun catalog fuel m run × (last_of_dxe m run ≡ dxe_run catalog fuel n m)
own_run catalog fuel zero m numbered way le = ([], none_left catalog fuel m le, refl)
own_run catalog fuel (suc n) m numbered way le =
    elim m.ended as (λ o. m.ended ≡ o → (run : List DxeMachine) × IsFreeDxeRun catalog fuel m run × (last_of_dxe m run ≡ (elim o as (λ _. DxeMachine) [ Some end ↦ m | None ↦ dxe_run catalog fuel n (dxe_step catalog fuel m) ]))) [
      | Some end ↦ λ is. ([], ap is_some is, refl)
      | None ↦ λ going.
          let less : D.steps_left catalog fuel (dxe_step catalog fuel m) < D.steps_left catalog fuel m = D.steps_run_out catalog fuel m going way in
          let on = own_run catalog fuel n (dxe_step catalog fuel m) numbered (step_way catalog fuel m numbered way) (omega (arith, less, le)) in
          (dxe_step catalog fuel m ∷ on.0, (going, own_steps_are_free catalog fuel m, on.1), on.2)
    ] refl

-- its lines
pub own_lines : (catalog : Catalog) (fuel n : ℕ) (pei : PeiMachine) (m : DxeMachine) → AreNumbered 0 catalog.volumes → D.IsUnderWay catalog m → D.steps_left catalog fuel m ≤ n
    → AreFreeDxeLines catalog fuel pei m (both_lines pei (dxe_run catalog fuel n m) (dxe_run catalog fuel n m).ended)
own_lines catalog fuel n pei m numbered way le =
    let run = own_run catalog fuel n m numbered way le in
    (run.0, run.1, ap (λ (end : DxeMachine). both_lines pei end end.ended) (sym run.2))

pub ends_freely : DxeEndsFreely
ends_freely catalog fuel pei m numbered way = (_, own_lines catalog fuel (D.steps_left catalog fuel m) pei m numbered (way_to catalog m way) (omega arith))

-- where a group is scheduled
pub aim_is_free : AimIsFree
aim_is_free catalog fuel pei m root is may lines h =
    goes_on_to catalog fuel pei m (dxe_step catalog fuel (aimed catalog m root)) lines is.going (aimed_step catalog fuel m root is may)
    ((goes_on catalog fuel pei (aimed catalog m root) is.going (aimed_own catalog m root is) lines).0 h)

some_of : (catalog : Catalog) (m : DxeMachine) (found : Option ℕ) → first_eligible catalog m ≡ found → found ≢ None → (root : ℕ) × (first_eligible catalog m ≡ Some root)
some_of catalog m None e some = absurd (some refl)
some_of catalog m (Some root) e some = (root, e)

pub starts_freely : DxeStartsFreely
starts_freely catalog fuel pei m is some lines h =
    let w = went_on catalog fuel pei m lines is.going h in
    let found = some_of catalog m (first_eligible catalog m) refl some in
    let case = case_starts catalog m found.0 is found.1 in
    let from : IsFreeStart catalog m m.scheduled w.0 = subst (λ c. IsFreeInDxe catalog fuel m c w.0) case.2 w.1 in
    let free : IsFreeStart catalog m [] w.0 = subst (λ q. IsFreeStart catalog m q w.0) is.scheduled from in
    let same = started_is catalog fuel m w.0 (group_scheduled catalog m (Some free.0)) is.frames free.2 in
    (free.0, free.1, (goes_on catalog fuel pei (aimed catalog m free.0) is.going (aimed_own catalog m free.0 is) lines).1 (subst (λ later. AreFreeDxeLines catalog fuel pei later lines) same w.2))
