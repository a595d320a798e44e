-- Behind an order's last start a boot in it goes on as the machine itself does.
use Rattle.std.proofs.Common.{◌≡◌, ℕ, zero, suc, ◌+◌, ◌<◌, ◌≤◌, true, List, [], ◌∷◌, ◌++◌, length, Option, Some, None, is_some, refl, sym, ap, ◌∙◌, subst, inl, inr, arith, slice_get, append-nil, length-append}
use Rattle.std.proofs.lemmas.Bool.{cases_lt}
use Rattle.pi_base.specs.declared.phase.Phase.TheVariants.{Pei, Dxe}
use Rattle.mod_catalog.specs.{declared.catalogue.Part.Part, Parts.part_at}
use Rattle.boot_model.specs.{declared.driver.Scheduled.Scheduled, declared.line.Line.Line, declared.phase_end.PeiEnd.PeiEnd}
use Rattle.boot_model.specs.declared.phase_end.PeiEnd.TheVariants.{Handoff, NoMemory, NoIpl, Spent, Deep}
use Rattle.boot_model.specs.{BootRun.both_lines, BootRun.lines_after, DxeMachine.DxeMachine, DxeRun.IsDxeRun as IsOwnDxeRun}
use Rattle.boot_model.specs.DxeStep.{DxeCase, DxeFires, DxeActs, DxeStarts, DxeStops, dxe_case_of, dxe_step, driver_started, in_dxe_case}
use Rattle.boot_model.specs.{FreeRun.last_of_dxe, PeiMachine.PeiMachine, PeiRun.IsPeiRun, PeiRun.last_machine}
use Rattle.boot_model.specs.PeiStep.{case_of, in_case, pei_step}
use Rattle.boot_laws.proofs.Cursors as Cursors
use Rattle.boot_laws.proofs.DxeWays as Ways
use Rattle.recorded_boot.specs.{declared.order.line.Start.Start, Starts.module_start, Starts.starts, Along.IsIndex, ByOrder.starts_of}
use Rattle.recorded_boot.proofs.DxeCounts as DxeCounts
use Rattle.recorded_boot.proofs.{Fronts.starts-append, Along.exactly_made, Along.none_asked, OnePlace.own_next}
use Rattle.recorded_boot.proofs.PeiCounts as PeiCounts
use Rattle.pei_dispatch.specs.Choices as P
use Rattle.pei_dispatch.specs.Ends.{pei_starts}
use Rattle.pei_dispatch.proofs.Chosen.{idle_starts}
use Rattle.dxe_dispatch.specs.Choices as D
use Rattle.dxe_dispatch.proofs.Chosen.{target_at}
use Rattle.dxe_dispatch.proofs.Targets.{Doing, HasScheduled, MayChoose, RunsScript, doing, none_aimed, none_named}
use Rattle.recorded_boot.specs.Own.{AreOwnLinesAfter, GoesOnItself, itself_in_dxe, itself_in_pei}
use Rattle.recorded_boot.proofs.PeiOrder as PO
use Rattle.recorded_boot.proofs.PeiOrder.{Comes, IsRun, OrderBoot, lets_peim, peims}
use Rattle.recorded_boot.proofs.DxeOrder as DO
use Rattle.recorded_boot.proofs.DxeOrder.{DxeCome, Handed, IsDxeRun, all_starts, came, drivers, opening}

nothing_there : {A : Type 0} (xs : List A) (n : ℕ) → length xs ≤ n → slice_get xs n ≡ None
nothing_there [] n few = refl
nothing_there (x ∷ xs) zero few = absurd (omega (arith, few))
nothing_there (x ∷ xs) (suc n) few = nothing_there xs n (omega (arith, few))

-- where all of its starts were made the order asks for none
none_left : (b : OrderBoot) (made : List Start) (index : ℕ) → IsIndex b.order made index → length b.order.starts ≤ length made → slice_get b.order.starts index ≡ None
none_left b made index (inl is) few = nothing_there b.order.starts index (omega (arith, is, few))
none_left b made index (inr far) few = nothing_there b.order.starts index far.0

-- then a step by its choices is the machine's own
own_step : (b : OrderBoot) (earlier : List PeiMachine) (m later : PeiMachine) → Comes b earlier m → length b.order.starts ≤ length (starts m.lines) → P.IsStepBy (peims b) (lets_peim b) b.catalog b.fuel m later → later ≡ pei_step b.catalog b.fuel m
own_step b earlier m later come few (inl own) = own.is
own_step b earlier m later come few (inr start) =
    let none = none_left b (starts m.lines) (pei_starts m) (PO.index b earlier m come) few in
    let case = idle_starts b.catalog m start.number start.due.idle (own_next b m start.number start.due none) in
    start.is ∙ sym (ap (in_case b.catalog b.fuel m) case)

-- a step adds one start at most
adds_none : (m later : List Line) → starts later ≡ starts m ++ [] → length (starts later) ≤ length (starts m) + 1
adds_none m later is = let l = ap length (is ∙ append-nil (starts m)) in omega (arith, l)

adds_one : (m later : List Line) (s : Start) → starts later ≡ starts m ++ s ∷ [] → length (starts later) ≤ length (starts m) + 1
adds_one m later s is = let l = ap length is ∙ length-append (starts m) (s ∷ []) in omega (arith, l)

step_adds : (b : OrderBoot) (m later : PeiMachine) → P.IsStepBy (peims b) (lets_peim b) b.catalog b.fuel m later → length (starts later.lines) ≤ length (starts m.lines) + 1
step_adds b m later (inl own) = adds_none m.lines later.lines (ap (λ (x : PeiMachine). starts x.lines) own.is ∙ (PeiCounts.case_adds b.catalog b.fuel m (case_of b.catalog m) own.own).lines)
step_adds b m later (inr start) =
    let may = (Cursors.aims b.catalog m start.due.cursor).chosen start.number start.due.next in
    adds_one m.lines later.lines (module_start Pei b.catalog start.number) (ap (λ (x : PeiMachine). starts x.lines) start.is ∙ (PeiCounts.started_adds b.catalog m start.number may).lines)

-- A machine of PEI behind the order's last start, from which own steps lead to another.
record OwnFrom (b : OrderBoot) (m : PeiMachine) : Type 0 where
  earlier : List PeiMachine
  first : PeiMachine
  come : Comes b earlier first
  made : starts first.lines ≡ starts_of b.order.starts
  on : (rest : List PeiMachine) → IsPeiRun b.catalog b.fuel m rest → (all : List PeiMachine) × IsPeiRun b.catalog b.fuel first all × (last_machine first all ≡ last_machine m rest)

here_first : (b : OrderBoot) (earlier : List PeiMachine) (m : PeiMachine) → IsRun b earlier m → length (starts m.lines) ≡ length b.order.starts → OwnFrom b m
here_first b earlier m run same = record {
  earlier = earlier;
  first = m;
  come = PO.comes b earlier m run;
  made = exactly_made b.order (starts m.lines) (PO.along b earlier m run) same;
  on = λ rest goes. (rest, goes, refl);
}

own_from : (b : OrderBoot) (earlier : List PeiMachine) (m : PeiMachine) → IsRun b earlier m → length b.order.starts ≤ length (starts m.lines) → OwnFrom b m
own_from b [] m run few =
    let none = ap (λ (x : PeiMachine). length (starts x.lines)) run ∙ ap length (PeiCounts.opening_quiet b.board b.catalog) in
    here_first b [] m run (omega (arith, none, few))
own_from b (before ∷ earlier) m run few = elim (cases_lt (length (starts before.lines)) (length b.order.starts)) [
  | inl less ↦ let more = step_adds b before m run.1 in here_first b (before ∷ earlier) m run (omega (arith, less, more, few))
  | inr made ↦
      let from = own_from b earlier before run.2 made in
      let own = own_step b earlier before m (PO.comes b earlier before run.2) made run.1 in
      record { earlier = from.earlier; first = from.first; come = from.come; made = from.made; on = λ rest goes. from.on (m ∷ rest) (run.0, own, goes) }
]

-- In DXE.
own_target : (b : OrderBoot) (h : Handed b) (m target : DxeMachine) → m.ended ≡ None → slice_get b.order.starts (pei_starts h.pei + length m.started) ≡ None → D.IsAimedBy (drivers b h) b.catalog m target → target ≡ m
own_target b h m target going none aimed = by (doing m going)
  where
    by : Doing m → target ≡ m
    by (RunsScript frame below e) = none_named (drivers b h) b.catalog m target frame below e aimed
    by (HasScheduled first rest e f) = none_aimed (drivers b h) b.catalog m target first rest f aimed
    by (MayChoose choosing) = aimed.is ∙ ap (D.aimed_at b.catalog m) (none_asked b.catalog Dxe b.order (pei_starts h.pei + length m.started) aimed.named (aimed.allowed choosing) none)

own_dxe_step : (b : OrderBoot) (h : Handed b) (target : DxeMachine) (earlier : List DxeMachine) → IsDxeRun b h (target ∷ earlier) → length b.order.starts ≤ length (all_starts h (came b h earlier)) → came b h (target ∷ earlier) ≡ dxe_step b.catalog b.fuel (came b h earlier)
own_dxe_step b h target earlier run few =
    let m = came b h earlier in
    let none = none_left b (all_starts h m) (pei_starts h.pei + length m.started) (DO.index b h m (DO.comes_in_dxe b h earlier run.3)) few in
    ap (dxe_step b.catalog b.fuel) (own_target b h m target run.2 none run.0)

-- where the order's starts were all made in PEI
all_own : (b : OrderBoot) (h : Handed b) (earlier : List DxeMachine) → IsDxeRun b h earlier → length b.order.starts ≤ length (starts h.pei.lines) → (rest : List DxeMachine) → IsOwnDxeRun b.catalog b.fuel (came b h earlier) rest
    → (all : List DxeMachine) × IsOwnDxeRun b.catalog b.fuel (opening h) all × (last_of_dxe (opening h) all ≡ last_of_dxe (came b h earlier) rest)
all_own b h [] run few rest goes = (rest, goes, refl)
all_own b h (target ∷ earlier) run few rest goes =
    let m = came b h earlier in
    let both = ap length (starts-append h.pei.lines m.lines) ∙ length-append (starts h.pei.lines) (starts m.lines) in
    let own = own_dxe_step b h target earlier run (omega (arith, both, few)) in
    all_own b h earlier run.3 few (came b h (target ∷ earlier) ∷ rest) (run.2, own, goes)

record DxeOwnFrom (b : OrderBoot) (h : Handed b) (m : DxeMachine) : Type 0 where
  first : DxeMachine
  come : DxeCome b h first
  made : all_starts h first ≡ starts_of b.order.starts
  on : (rest : List DxeMachine) → IsOwnDxeRun b.catalog b.fuel m rest → (all : List DxeMachine) × IsOwnDxeRun b.catalog b.fuel first all × (last_of_dxe first all ≡ last_of_dxe m rest)

both_longer : (h : List Line) (before later : List Line) → length (starts later) ≤ length (starts before) + 1 → length (starts (h ++ later)) ≤ length (starts (h ++ before)) + 1
both_longer h before later few =
    let a = ap length (starts-append h later) ∙ length-append (starts h) (starts later) in
    let c = ap length (starts-append h before) ∙ length-append (starts h) (starts before) in
    omega (arith, a, c, few)

driver_adds : (b : OrderBoot) (m later : DxeMachine) (next : Scheduled) (queue : List Scheduled) (part : Option Part) → later ≡ driver_started b.catalog m next queue part → length (starts later.lines) ≤ length (starts m.lines) + 1
driver_adds b m later next queue None is = adds_none m.lines later.lines (ap (λ (x : DxeMachine). starts x.lines) is ∙ (DxeCounts.started_adds b.catalog m next queue None).lines)
driver_adds b m later next queue (Some part) is = adds_one m.lines later.lines (module_start Dxe b.catalog next.module_number) (ap (λ (x : DxeMachine). starts x.lines) is ∙ (DxeCounts.started_adds b.catalog m next queue (Some part)).lines)

dxe_adds : (b : OrderBoot) (m : DxeMachine) → length (starts (dxe_step b.catalog b.fuel m).lines) ≤ length (starts m.lines) + 1
dxe_adds b m = by (dxe_case_of b.catalog m) refl
  where
    case_is : (case : DxeCase) → dxe_case_of b.catalog m ≡ case → dxe_step b.catalog b.fuel m ≡ in_dxe_case b.catalog b.fuel m case
    case_is case e = ap (in_dxe_case b.catalog b.fuel m) e

    none : (case : DxeCase) → dxe_case_of b.catalog m ≡ case → starts (in_dxe_case b.catalog b.fuel m case).lines ≡ starts m.lines ++ [] → length (starts (dxe_step b.catalog b.fuel m).lines) ≤ length (starts m.lines) + 1
    none case e adds = adds_none m.lines (dxe_step b.catalog b.fuel m).lines (ap (λ (x : DxeMachine). starts x.lines) (case_is case e) ∙ adds)

    by : (case : DxeCase) → dxe_case_of b.catalog m ≡ case → length (starts (dxe_step b.catalog b.fuel m).lines) ≤ length (starts m.lines) + 1
    by (DxeFires note sweep frame below) e = none (DxeFires note sweep frame below) e (DxeCounts.case_adds b.catalog b.fuel m (DxeFires note sweep frame below) tt).lines
    by (DxeActs frame below) e = none (DxeActs frame below) e (DxeCounts.case_adds b.catalog b.fuel m (DxeActs frame below) tt).lines
    by (DxeStarts next queue) e = driver_adds b m (dxe_step b.catalog b.fuel m) next queue (part_at Dxe b.catalog next.module_number) (case_is (DxeStarts next queue) e)
    by DxeStops e = none DxeStops e (DxeCounts.case_adds b.catalog b.fuel m DxeStops tt).lines

dxe_step_adds : (b : OrderBoot) (h : Handed b) (target : DxeMachine) (earlier : List DxeMachine) → IsDxeRun b h (target ∷ earlier) → length (all_starts h (came b h (target ∷ earlier))) ≤ length (all_starts h (came b h earlier)) + 1
dxe_step_adds b h target earlier run =
    let m = came b h earlier in
    let same = (DO.target_same b h m target (target_at (drivers b h) b.catalog m target Ways.first_may_start run.2 run.0)).lines in
    let few = dxe_adds b target in
    both_longer h.pei.lines m.lines (dxe_step b.catalog b.fuel target).lines (subst (λ xs. length (starts (dxe_step b.catalog b.fuel target).lines) ≤ length (starts xs) + 1) same few)

dxe_here : (b : OrderBoot) (h : Handed b) (earlier : List DxeMachine) → IsDxeRun b h earlier → length (all_starts h (came b h earlier)) ≡ length b.order.starts → DxeOwnFrom b h (came b h earlier)
dxe_here b h earlier run same = record {
  first = came b h earlier;
  come = DO.comes_in_dxe b h earlier run;
  made = exactly_made b.order (all_starts h (came b h earlier)) (DO.dxe_along b h earlier run) same;
  on = λ rest goes. (rest, goes, refl);
}

dxe_own_from : (b : OrderBoot) (h : Handed b) (earlier : List DxeMachine) → IsDxeRun b h earlier → length (starts h.pei.lines) < length b.order.starts → length b.order.starts ≤ length (all_starts h (came b h earlier)) → DxeOwnFrom b h (came b h earlier)
dxe_own_from b h [] run less few =
    let none : starts (opening h).lines ≡ [] = DxeCounts.opening_quiet b.catalog h.pei.store h.pei.actions in
    let both = ap length (starts-append h.pei.lines (opening h).lines) ∙ length-append (starts h.pei.lines) (starts (opening h).lines) in
    let zero = ap length none in
    absurd (omega (arith, both, zero, less, few))
dxe_own_from b h (target ∷ earlier) run less few = elim (cases_lt (length (all_starts h (came b h earlier))) (length b.order.starts)) [
  | inl short ↦ let more = dxe_step_adds b h target earlier run in dxe_here b h (target ∷ earlier) run (omega (arith, short, more, few))
  | inr made ↦
      let from = dxe_own_from b h earlier run.3 less made in
      let own = own_dxe_step b h target earlier run made in
      record { first = from.first; come = from.come; made = from.made; on = λ rest goes. from.on (came b h (target ∷ earlier) ∷ rest) (run.2, own, goes) }
]

-- A whole boot.
own_after : (b : OrderBoot) (m : PeiMachine) (how : PeiEnd) (lines : List Line) → (how ≡ Handoff → ⊥) → lines ≡ lines_after b.catalog b.fuel m (Some how) → AreOwnLinesAfter b.catalog b.fuel m (Some how) lines
own_after b m Handoff lines never is = absurd (never refl)
own_after b m NoMemory lines never is = is
own_after b m NoIpl lines never is = is
own_after b m Spent lines never is = is
own_after b m Deep lines never is = is

-- one that has ended in PEI
pub pei_itself : (b : OrderBoot) (earlier : List PeiMachine) (m : PeiMachine) (how : PeiEnd) (lines : List Line) → IsRun b earlier m → m.ended ≡ Some how → length b.order.starts ≤ length (starts m.lines) → (how ≡ Handoff → ⊥)
    → lines ≡ lines_after b.catalog b.fuel m (Some how) → GoesOnItself b.board b.catalog b.fuel (starts_of b.order.starts) lines
pei_itself b earlier m how lines run ended few never is =
    let from = own_from b earlier m run few in
    let on = from.on [] (ap is_some ended) in
    let After : PeiMachine → Type 0 = λ x. AreOwnLinesAfter b.catalog b.fuel x x.ended lines in
    let here : After m = subst (λ o. AreOwnLinesAfter b.catalog b.fuel m o lines) (sym ended) (own_after b m how lines never is) in
    itself_in_pei from.earlier from.first from.come from.made (on.0, on.1, subst After (sym on.2) here)

-- and one in DXE
pub dxe_itself : (b : OrderBoot) (h : Handed b) (earlier : List DxeMachine) (lines : List Line) → IsDxeRun b h earlier → is_some (came b h earlier).ended ≡ true → length b.order.starts ≤ length (all_starts h (came b h earlier))
    → lines ≡ both_lines h.pei (came b h earlier) (came b h earlier).ended → GoesOnItself b.board b.catalog b.fuel (starts_of b.order.starts) lines
dxe_itself b h earlier lines run ended few is = elim (cases_lt (length (starts h.pei.lines)) (length b.order.starts)) [
  | inl less ↦
      let from = dxe_own_from b h earlier run less few in
      let on = from.on [] ended in
      itself_in_dxe h.earlier h.pei h.come h.ended from.come.over from.first from.come.is from.made (on.0, on.1, is ∙ ap (λ (x : DxeMachine). both_lines h.pei x x.ended) (sym on.2))
  | inr made ↦
      let from = own_from b h.earlier h.pei h.run made in
      let on = from.on [] (ap is_some h.ended) in
      let own = all_own b h earlier run made [] ended in
      let After : PeiMachine → Type 0 = λ x. AreOwnLinesAfter b.catalog b.fuel x x.ended lines in
      let inside : AreOwnLinesAfter b.catalog b.fuel h.pei (Some Handoff) lines = (own.0, own.1, is ∙ ap (λ (x : DxeMachine). both_lines h.pei x x.ended) (sym own.2)) in
      let here : After h.pei = subst (λ o. AreOwnLinesAfter b.catalog b.fuel h.pei o lines) (sym h.ended) inside in
      itself_in_pei from.earlier from.first from.come from.made (on.0, on.1, subst After (sym on.2) here)
]
