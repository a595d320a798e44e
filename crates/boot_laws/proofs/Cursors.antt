-- The cursor turns the order, and so tells only which of the parts that may start is the first.
use Rattle.std.proofs.Common.{◌≡◌, ℕ, false, List, [], ◌∷◌, Option, Some, None, is_some, refl, sym, ap, subst, take, ◌↔◌, option_and_then}
use Rattle.pi_base.specs.declared.phase.Phase.TheVariants.{Pei}
use Rattle.mod_catalog.specs.{declared.catalogue.Catalog.Catalog, declared.catalogue.Part.Part, Parts.part_at}
use Rattle.store_model.specs.{declared.store_handle.Firing.Firing, declared.store_handle.Sweep.Sweep, StoreState.StoreState}
use Rattle.store_model.specs.{Service.Sweep.next_match, Service.Queue.queue_pop, Migration.migration}
use Rattle.boot_model.specs.{declared.line.Line.Line, declared.phase_end.PeiEnd.PeiEnd, Eligible.is_eligible}
use Rattle.boot_model.specs.declared.phase_end.PeiEnd.TheVariants.{Handoff, NoMemory, NoIpl, Spent, Deep}
use Rattle.boot_model.specs.{PeiChoice.pei_order, PeiChoice.next_peim, PeiMachine.PeiMachine, PeiMachine.Frame}
use Rattle.boot_model.specs.PeiStep.{PeiCase, Starts, Stops, case_of, in_case, pei_step, started, started_part, stopped, open_sweep}
use Rattle.boot_model.specs.FreeRun.{MayStart, AreFreeLinesAfter, AreFreePeiLines}
use Rattle.boot_laws.proofs.{PeiCases.cases, PeiWays.may_has_part, PeiWays.next_may_start}
use Rattle.boot_laws.proofs.PeiSteps as P
use Rattle.boot_laws.specs.PeiFree.{IsOwnCase}
use Rattle.boot_laws.specs.PeiAim.{with_cursor, IsChoice, CursorAims, CursorIsFree}
use Rattle.boot_laws.proofs.NumberLists.{each_rotated, each_turned, none_found, finds_none, finds_at}
use Rattle.boot_laws.proofs.PeiRuns.{goes_on, starts_freely, ends_so}

-- what a machine that chooses does, by what it finds
abbrev choice_of : Option ℕ → PeiCase
choice_of None = Stops
choice_of (Some number) = Starts number

chooses : (a : Option (Firing × Sweep)) (frames : List Frame) (c : Option StoreState) (d : Option (Firing × StoreState)) (e other : Option ℕ) → IsChoice (cases a frames c d e) → cases a frames c d other ≡ choice_of other
chooses (Some a) frames c d e other h = absurd h
chooses None (frame ∷ below) c d e other h = absurd h
chooses None [] (Some c) d e other h = absurd h
chooses None [] None (Some d) e other h = absurd h
chooses None [] None None e None h = refl
chooses None [] None None e (Some number) h = refl

case_with : (catalog : Catalog) (m : PeiMachine) (cursor : ℕ) → IsChoice (case_of catalog m) → case_of catalog (with_cursor m cursor) ≡ choice_of (next_peim catalog (with_cursor m cursor))
case_with catalog m cursor h =
    chooses (option_and_then (next_match m.store) (open_sweep m m.frames)) m.frames (migration m.store) (queue_pop m.store) (next_peim catalog m) (next_peim catalog (with_cursor m cursor)) h

choice_is : (o : Option ℕ) → IsChoice (choice_of o)
choice_is None = tt
choice_is (Some number) = tt

start_with : (catalog : Catalog) (m : PeiMachine) (cursor number : ℕ) (part : Option Part) → P.HasPart Pei catalog number → part_at Pei catalog number ≡ part
    → started_part catalog (with_cursor m cursor) number part ≡ started_part catalog m number part
start_with catalog m cursor number None has is = let none = ap (λ o. is_some o) is in cc
start_with catalog m cursor number (Some part) has is = refl

pub aims : CursorAims
aims catalog m cursor =
    let order = pei_order catalog m.reported in
    let test = is_eligible catalog m in
    record {
      aimed = λ number is eligible. finds_at test cursor order (take cursor order) number is eligible;
      chosen = λ number found. next_may_start catalog (with_cursor m cursor) number found;
      none = (
        (λ h. finds_none test _ (each_rotated (λ n. test n ≡ false) m.cursor order (each_turned (λ n. test n ≡ false) cursor order (none_found test _ h)))),
        (λ h. finds_none test _ (each_rotated (λ n. test n ≡ false) cursor order (each_turned (λ n. test n ≡ false) m.cursor order (none_found test _ h)))),
      );
      start = λ number may. start_with catalog m cursor number (part_at Pei catalog number) (may_has_part catalog m number may) refl;
      stop = refl;
      choice = λ h. subst IsChoice (sym (case_with catalog m cursor h)) (choice_is (next_peim catalog (with_cursor m cursor)));
      way = λ way. record { sweeps = way.sweeps; parts = way.parts };
      left = λ fuel. refl;
    }

-- behind the end the cursor is not looked at
after_with : (catalog : Catalog) (fuel : ℕ) (m : PeiMachine) (cursor : ℕ) (end : Option PeiEnd) (lines : List Line) → AreFreeLinesAfter catalog fuel (with_cursor m cursor) end lines ↔ AreFreeLinesAfter catalog fuel m end lines
after_with catalog fuel m cursor None lines = ((λ h. h), (λ h. h))
after_with catalog fuel m cursor (Some Handoff) lines = ((λ h. h), (λ h. h))
after_with catalog fuel m cursor (Some NoMemory) lines = ((λ h. h), (λ h. h))
after_with catalog fuel m cursor (Some NoIpl) lines = ((λ h. h), (λ h. h))
after_with catalog fuel m cursor (Some Spent) lines = ((λ h. h), (λ h. h))
after_with catalog fuel m cursor (Some Deep) lines = ((λ h. h), (λ h. h))

-- the stop
stop_lines : (catalog : Catalog) (fuel : ℕ) (m : PeiMachine) → m.ended ≡ None → case_of catalog m ≡ Stops → (lines : List Line)
    → AreFreePeiLines catalog fuel m lines ↔ AreFreeLinesAfter catalog fuel (stopped catalog m) (stopped catalog m).ended lines
stop_lines catalog fuel m going case lines =
    let on = goes_on catalog fuel m going (subst IsOwnCase (sym case) tt) lines in
    let end = ends_so catalog fuel (stopped catalog m) refl lines in
    let is : pei_step catalog fuel m ≡ stopped catalog m = ap (in_case catalog fuel m) case in
    ((λ h. end.0 (subst (λ later. AreFreePeiLines catalog fuel later lines) is (on.0 h))), (λ h. on.1 (subst (λ later. AreFreePeiLines catalog fuel later lines) (sym is) (end.1 h))))

stops_same : (catalog : Catalog) (fuel : ℕ) (m : PeiMachine) (cursor : ℕ) → m.ended ≡ None → case_of catalog m ≡ Stops → case_of catalog (with_cursor m cursor) ≡ Stops → (lines : List Line)
    → AreFreePeiLines catalog fuel (with_cursor m cursor) lines ↔ AreFreePeiLines catalog fuel m lines
stops_same catalog fuel m cursor going case other lines =
    let here = stop_lines catalog fuel m going case lines in
    let there = stop_lines catalog fuel (with_cursor m cursor) going other lines in
    let same = after_with catalog fuel (stopped catalog m) cursor (stopped catalog m).ended lines in
    ((λ h. here.1 (same.0 (there.0 h))), (λ h. there.1 (same.1 (here.0 h))))

starts_same : (catalog : Catalog) (fuel : ℕ) (m : PeiMachine) (cursor first next : ℕ) → m.ended ≡ None → case_of catalog m ≡ Starts first → case_of catalog (with_cursor m cursor) ≡ Starts next → (lines : List Line)
    → AreFreePeiLines catalog fuel (with_cursor m cursor) lines ↔ AreFreePeiLines catalog fuel m lines
starts_same catalog fuel m cursor first next going case other lines =
    let here = starts_freely catalog fuel m first going case lines in
    let there = starts_freely catalog fuel (with_cursor m cursor) next going other lines in
    let same : (number : ℕ) → MayStart catalog m number → started catalog (with_cursor m cursor) number ≡ started catalog m number = (aims catalog m cursor).start in (
      (λ h. let s = there.0 h in here.1 (s.0, s.1, subst (λ later. AreFreePeiLines catalog fuel later lines) (same s.0 s.1) s.2)),
      (λ h. let s = here.0 h in there.1 (s.0, s.1, subst (λ later. AreFreePeiLines catalog fuel later lines) (sym (same s.0 s.1)) s.2)),
    )

by_found : (catalog : Catalog) (fuel : ℕ) (m : PeiMachine) (cursor : ℕ) (found other : Option ℕ) → m.ended ≡ None → case_of catalog m ≡ choice_of found → case_of catalog (with_cursor m cursor) ≡ choice_of other
    → other ≡ None ↔ found ≡ None → (lines : List Line) → AreFreePeiLines catalog fuel (with_cursor m cursor) lines ↔ AreFreePeiLines catalog fuel m lines
by_found catalog fuel m cursor None None going case later none lines = stops_same catalog fuel m cursor going case later lines
by_found catalog fuel m cursor None (Some next) going case later none lines = let e : Some next ≡ None = none.1 refl in cc
by_found catalog fuel m cursor (Some first) None going case later none lines = let e : Some first ≡ None = none.0 refl in cc
by_found catalog fuel m cursor (Some first) (Some next) going case later none lines = starts_same catalog fuel m cursor first next going case later lines

pub free : CursorIsFree
free catalog fuel m cursor going choice lines =
    by_found catalog fuel m cursor (next_peim catalog m) (next_peim catalog (with_cursor m cursor)) going (case_with catalog m m.cursor choice) (case_with catalog m cursor choice) (aims catalog m cursor).none lines
