-- DXE along an order, behind the hand-off of PEI.
use Rattle.std.proofs.Common.{◌≡◌, ◌≢◌, ℕ, ◌+◌, ◌-◌, ◌^◌, ◌<◌, ◌≤◌, min, Bool, true, false, true≢false, List, [], ◌∷◌, ◌++◌, length, Option, Some, None, is_some, refl, sym, ap, ◌∙◌, subst, inl, inr, arith, append_assoc, ◌⊎◌, slice_get, append-nil, length-append}
use Rattle.std.proofs.lemmas.Bool.{cases_lt}
use Rattle.pi_base.specs.declared.phase.Phase.TheVariants.{Dxe}
use Rattle.mod_catalog.specs.{declared.catalogue.Catalog.Catalog, declared.catalogue.Part.Part, Parts.part_at, Parts.part_of}
use Rattle.boot_model.specs.{declared.driver.Scheduled.Scheduled, declared.line.Line.Line, declared.phase_end.PeiEnd.TheVariants.Handoff}
use Rattle.boot_model.specs.DxeChoice.{driver_queue, first_eligible, group_scheduled, queue_from}
use Rattle.boot_model.specs.{DxeMachine.DriverFrame, DxeMachine.DxeMachine, DxeRun.dxe_opening, PeiMachine.PeiMachine}
use Rattle.boot_model.specs.DxeStep.{DxeCase, DxeFires, DxeActs, DxeStarts, DxeStops, dxe_case_of, dxe_start_line, dxe_step, driver_started, in_dxe_case}
use Rattle.boot_model.specs.FreeRun.{AreFreeDxeLines, AreFreeLines, AreFreeLinesAfter, AreFreePeiLines, IsFreeInDxe, MaySchedule}
use Rattle.boot_model.proofs.ListFacts.{within}
use Rattle.boot_laws.proofs.{DxeCases.starts_from, GroupRoots.names_lead, Starts.dxe_prints}
use Rattle.boot_laws.specs.DxeAim.{IsAimed, IsChoosing, aimed}
use Rattle.boot_laws.specs.{DxeFree.IsOwnCase, DxeUnderWay.IsUnderWay}
use Rattle.boot_laws.proofs.DxeRuns as Runs
use Rattle.boot_laws.proofs.DxeWays as Ways
use Rattle.boot_laws.proofs.PeiRuns as PeiRuns
use Rattle.recorded_boot.specs.{declared.order.line.AskedStart.AskedStart, declared.order.line.Start.Start, Leading.DxeComesTo}
use Rattle.recorded_boot.specs.Starts.{ComeFirst, module_start, starts}
use Rattle.recorded_boot.proofs.DxeCounts.{case_adds, opening_quiet, started_adds, starts_count}
use Rattle.recorded_boot.proofs.Fronts.{first_of_first, next_of_fronts, starts-append, starts_then}
use Rattle.recorded_boot.proofs.PeiCounts as PeiCounts
use Rattle.recorded_boot.proofs.Runs.{dxe_leads, pei_leads}
use Rattle.pei_dispatch.specs.Ends.{pei_starts}
use Rattle.dxe_dispatch.specs.Choices as D
use Rattle.dxe_dispatch.specs.Turns.{IsStarting}
use Rattle.dxe_dispatch.proofs.Chosen.{Any, same_lines, same_started, target_at}
use Rattle.dxe_dispatch.proofs.Targets.{Aimed, Doing, First, HasScheduled, IsTarget, Leading, MayChoose, Own, RunsScript, doing, none_aimed, none_named, scheduled_owns, target_is}
use Rattle.recorded_boot.specs.ByOrder.{NamesAsked, lets_asked, lets_by}
use Rattle.recorded_boot.specs.{Following.IsBeforeStart, Along.IsAlong, Along.IsIndex}
use Rattle.recorded_boot.proofs.Along.{is_start, let_goes_on, lets_stop, named_is}
use Rattle.recorded_boot.proofs.PeiOrder.{Comes, IsRun, OrderBoot}

-- A boot that has come over its hand-off.
pub record Handed (b : OrderBoot) : Type 0 where
  pub pei : PeiMachine
  pub earlier : List PeiMachine
  pub run : IsRun b earlier pei
  pub come : Comes b earlier pei
  pub far : IsAlong b.order (starts pei.lines)
  pub ended : pei.ended ≡ Some Handoff

abbrev pub opening : {b : OrderBoot} → Handed b → DxeMachine
opening {b = b} h = dxe_opening b.catalog h.pei.store h.pei.actions

abbrev pub all_starts : {b : OrderBoot} → Handed b → DxeMachine → List Start
all_starts h m = starts (h.pei.lines ++ m.lines)

-- whom the order names in DXE, and what it lets
abbrev pub drivers : (b : OrderBoot) → Handed b → DxeMachine → Option ℕ → Type 0
drivers b h m named = NamesAsked b.catalog Dxe b.order (pei_starts h.pei + length m.started) named

abbrev pub lets_driver : (b : OrderBoot) → Handed b → DxeMachine → ℕ → Bool
lets_driver b h m number = lets_by b.catalog b.order Dxe (pei_starts h.pei + length m.started) number

abbrev pub came : (b : OrderBoot) → Handed b → List DxeMachine → DxeMachine
came b h earlier = D.came b.catalog b.fuel (opening h) earlier

abbrev pub IsDxeRun : (b : OrderBoot) → Handed b → List DxeMachine → Type 0
IsDxeRun b h earlier = D.IsRunBy (λ earlier. drivers b h) (λ earlier. lets_driver b h) b.catalog b.fuel (opening h) earlier

-- a machine to which free steps lead behind the hand-off
pub record DxeCome (b : OrderBoot) (h : Handed b) (m : DxeMachine) : Type 0 where
  pub over : List DxeMachine
  pub is : DxeComesTo b.catalog b.fuel (opening h) over m

-- each step is a free one
target_free : (catalog : Catalog) (fuel : ℕ) (m target : DxeMachine) → IsTarget catalog m Any target → IsFreeInDxe catalog fuel m (dxe_case_of catalog m) (dxe_step catalog fuel target)
target_free catalog fuel m target (Own own) = Runs.own_steps_are_free catalog fuel m
target_free catalog fuel m target (First root found c) = Runs.own_steps_are_free catalog fuel m
target_free catalog fuel m target (Aimed root c) = (Ways.groups_are_aimed catalog m root c.choosing c.may).step fuel

pub comes_in_dxe : (b : OrderBoot) (h : Handed b) (earlier : List DxeMachine) → IsDxeRun b h earlier → DxeCome b h (came b h earlier)
comes_in_dxe b h [] run = record { over = []; is = refl }
comes_in_dxe b h (target ∷ earlier) run =
    let m = came b h earlier in
    let before = comes_in_dxe b h earlier run.3 in
    let step = target_free b.catalog b.fuel m target (target_at (drivers b h) b.catalog m target Ways.first_may_start run.2 run.0) in
    record { over = m ∷ before.over; is = (run.2, step, before.is) }

-- how many starts there were, as far as both cores count them
at_most : (asked inside behind counted most : ℕ) → inside ≡ counted → asked ≤ most → (min counted most + behind ≡ inside + behind) ⊎ ((asked ≤ min counted most + behind) × (asked ≤ inside + behind))
at_most asked inside behind counted most is few = elim (cases_lt counted most) [
  | inl less ↦ inl (omega (arith, is, less))
  | inr more ↦ inr (omega (arith, few, more), omega (arith, is, few, more))
]

pub index : (b : OrderBoot) (h : Handed b) (m : DxeMachine) → DxeCome b h m → IsIndex b.order (all_starts h m) (pei_starts h.pei + length m.started)
index b h m come = by (at_most (length b.order.starts) (length (starts h.pei.lines)) (length m.started) (length h.pei.started + length h.pei.again) (2 ^ 32 - 1) inside b.few)
  where
    inside : length (starts h.pei.lines) ≡ length h.pei.started + length h.pei.again
    inside = PeiCounts.starts_count b.board b.catalog b.fuel h.earlier h.pei h.come

    behind : length (starts m.lines) ≡ length m.started
    behind = starts_count b.catalog b.fuel h.pei.store h.pei.actions come.over m come.is

    both : length (all_starts h m) ≡ length (starts h.pei.lines) + length m.started
    both = ap length (starts-append h.pei.lines m.lines) ∙ length-append (starts h.pei.lines) (starts m.lines) ∙ ap (λ n. length (starts h.pei.lines) + n) behind

    by : (min (length h.pei.started + length h.pei.again) (2 ^ 32 - 1) + length m.started ≡ length (starts h.pei.lines) + length m.started)
        ⊎ ((length b.order.starts ≤ min (length h.pei.started + length h.pei.again) (2 ^ 32 - 1) + length m.started) × (length b.order.starts ≤ length (starts h.pei.lines) + length m.started))
        → IsIndex b.order (all_starts h m) (pei_starts h.pei + length m.started)
    by (inl same) = inl (same ∙ sym both)
    by (inr far) = inr (far.0, subst (λ n. length b.order.starts ≤ n) (sym both) far.1)

-- what a step of DXE adds to the starts of both phases
both_add : (h : List Line) (before later : List Line) (more : List Start) → starts later ≡ starts before ++ more → starts (h ++ later) ≡ starts (h ++ before) ++ more
both_add h before later more is =
    starts-append h later ∙ ap (λ x. starts h ++ x) is ∙ sym (append_assoc (starts h) (starts before) more) ∙ ap (λ x. x ++ more) (sym (starts-append h before))

-- the starts are made as the order asks: by a step that starts none
none_along : (b : OrderBoot) (h : Handed b) (target later : DxeMachine) → starts later.lines ≡ starts target.lines ++ [] → IsAlong b.order (all_starts h target) → IsAlong b.order (all_starts h later)
none_along b h target later is far = subst (IsAlong b.order) (sym (both_add h.pei.lines target.lines later.lines [] is ∙ append-nil (all_starts h target))) far

-- and by one that starts a driver
start_along : (b : OrderBoot) (h : Handed b) (target later : DxeMachine) (next : Scheduled) (queue : List Scheduled) (part : Option Part) → later ≡ driver_started b.catalog target next queue part → IsAlong b.order (all_starts h target)
    → IsIndex b.order (all_starts h target) (pei_starts h.pei + length target.started) → lets_driver b h target next.module_number ≡ true → IsAlong b.order (all_starts h later)
start_along b h target later next queue None is far at lets = none_along b h target later (ap (λ (x : DxeMachine). starts x.lines) is ∙ (started_adds b.catalog target next queue None).lines) far
start_along b h target later next queue (Some part) is far at lets =
    let adds : starts later.lines ≡ starts target.lines ++ module_start Dxe b.catalog next.module_number ∷ [] = ap (λ (x : DxeMachine). starts x.lines) is ∙ (started_adds b.catalog target next queue (Some part)).lines in
    let all = both_add h.pei.lines target.lines later.lines (module_start Dxe b.catalog next.module_number ∷ []) adds in
    subst (IsAlong b.order) (sym all) (let_goes_on b.catalog b.order Dxe (all_starts h target) (pei_starts h.pei + length target.started) next.module_number far at lets)

step_along : (b : OrderBoot) (h : Handed b) (target : DxeMachine) → IsAlong b.order (all_starts h target) → IsIndex b.order (all_starts h target) (pei_starts h.pei + length target.started)
    → ((number : ℕ) → IsStarting b.catalog target number → lets_driver b h target number ≡ true) → IsAlong b.order (all_starts h (dxe_step b.catalog b.fuel target))
step_along b h target far at passes = by (dxe_case_of b.catalog target) refl
  where
    case_is : (case : DxeCase) → dxe_case_of b.catalog target ≡ case → dxe_step b.catalog b.fuel target ≡ in_dxe_case b.catalog b.fuel target case
    case_is case e = ap (in_dxe_case b.catalog b.fuel target) e

    none : (case : DxeCase) → dxe_step b.catalog b.fuel target ≡ in_dxe_case b.catalog b.fuel target case → starts (in_dxe_case b.catalog b.fuel target case).lines ≡ starts target.lines ++ [] → IsAlong b.order (all_starts h (dxe_step b.catalog b.fuel target))
    none case is adds = none_along b h target (dxe_step b.catalog b.fuel target) (ap (λ (x : DxeMachine). starts x.lines) is ∙ adds) far

    by : (case : DxeCase) → dxe_case_of b.catalog target ≡ case → IsAlong b.order (all_starts h (dxe_step b.catalog b.fuel target))
    by (DxeFires note sweep frame below) e = none (DxeFires note sweep frame below) (case_is (DxeFires note sweep frame below) e) (case_adds b.catalog b.fuel target (DxeFires note sweep frame below) tt).lines
    by (DxeActs frame below) e = none (DxeActs frame below) (case_is (DxeActs frame below) e) (case_adds b.catalog b.fuel target (DxeActs frame below) tt).lines
    by (DxeStarts next queue) e =
        start_along b h target (dxe_step b.catalog b.fuel target) next queue (part_at Dxe b.catalog next.module_number) (case_is (DxeStarts next queue) e) far at
        (passes next.module_number (record { next = next; queue = queue; starts = e; is = refl }))
    by DxeStops e = none DxeStops (case_is DxeStops e) (case_adds b.catalog b.fuel target DxeStops tt).lines

-- what the target of a choice has of its machine
pub record Same (b : OrderBoot) (h : Handed b) (m target : DxeMachine) : Type 0 where
  pub lines : target.lines ≡ m.lines
  pub started : target.started ≡ m.started

pub target_same : (b : OrderBoot) (h : Handed b) (m target : DxeMachine) → IsTarget b.catalog m Any target → Same b h m target
target_same b h m target aim = record { lines = same_lines b.catalog m target Any aim; started = same_started b.catalog m target Any aim }

starts_same : (b : OrderBoot) (h : Handed b) (m target : DxeMachine) → Same b h m target → all_starts h target ≡ all_starts h m
starts_same b h m target same = ap (λ x. starts (h.pei.lines ++ x)) same.lines

index_same : (b : OrderBoot) (h : Handed b) (m target : DxeMachine) → Same b h m target → IsIndex b.order (all_starts h m) (pei_starts h.pei + length m.started) → IsIndex b.order (all_starts h target) (pei_starts h.pei + length target.started)
index_same b h m target same at =
    subst (λ made. IsIndex b.order made (pei_starts h.pei + length target.started)) (sym (starts_same b h m target same))
    (subst (λ xs. IsIndex b.order (all_starts h m) (pei_starts h.pei + length xs)) (sym same.started) at)

pub dxe_along : (b : OrderBoot) (h : Handed b) (earlier : List DxeMachine) → IsDxeRun b h earlier → IsAlong b.order (all_starts h (came b h earlier))
dxe_along b h [] run =
    let none : all_starts h (opening h) ≡ starts h.pei.lines =
    starts-append h.pei.lines (opening h).lines ∙ ap (λ x. starts h.pei.lines ++ x) (opening_quiet b.catalog h.pei.store h.pei.actions) ∙ append-nil (starts h.pei.lines) in
    subst (IsAlong b.order) (sym none) h.far
dxe_along b h (target ∷ earlier) run =
    let m = came b h earlier in
    let far = dxe_along b h earlier run.3 in
    let same = target_same b h m target (target_at (drivers b h) b.catalog m target Ways.first_may_start run.2 run.0) in
    let at = index b h m (comes_in_dxe b h earlier run.3) in
    step_along b h target (subst (IsAlong b.order) (sym (starts_same b h m target same)) far) (index_same b h m target same at) run.1

-- each machine on the way is under way
pub dxe_way : (b : OrderBoot) (h : Handed b) (over : List DxeMachine) (m : DxeMachine) → DxeComesTo b.catalog b.fuel (opening h) over m → IsUnderWay b.catalog m
dxe_way b h [] m come = subst (IsUnderWay b.catalog) (sym come) (Ways.opens_under_way b.catalog b.fuel h.pei.store h.pei.actions b.well.parents).way
dxe_way b h (before ∷ over) m come = (Ways.steps_run_out b.catalog b.fuel before m b.well.parents come.0 (dxe_way b h over before come.2) come.1).way

-- A machine of DXE in which a driver is due that is not let.
pub record DxeBar (b : OrderBoot) (h : Handed b) (m : DxeMachine) (number : ℕ) : Type 0 where
  pub come : DxeCome b h m
  pub going : m.ended ≡ None
  pub due : D.IsDue (drivers b h) b.catalog m number
  pub barred : lets_driver b h due.target number ≡ false

one_number : (a b : ℕ) → Some a ≡ Some b → a ≡ b
one_number a b e = cc

one_start : (a b : Scheduled) (q r : List Scheduled) → DxeStarts a q ≡ DxeStarts b r → a ≡ b
one_start a b q r e = cc

one_first : (a b : Scheduled) (q r : List Scheduled) → a ∷ q ≡ b ∷ r → a ≡ b
one_first a b q r e = cc

no_first : (a : Scheduled) (q : List Scheduled) → [] ≡ a ∷ q → ⊥
no_first a q e = cc

-- the free boots of the whole go on from the machine
pub goes_from : (b : OrderBoot) (h : Handed b) (m : DxeMachine) (lines : List Line) → DxeCome b h m → AreFreeLines b.board b.catalog b.fuel lines → ComeFirst (all_starts h m) (starts lines) → AreFreeDxeLines b.catalog b.fuel h.pei m lines
goes_from b h m lines come free first =
    let inside : ComeFirst (starts h.pei.lines) (all_starts h m) = (starts m.lines, starts-append h.pei.lines m.lines) in
    let pei : AreFreePeiLines b.catalog b.fuel h.pei lines = (pei_leads b.board b.catalog b.fuel h.earlier h.pei b.apart h.come lines).0 free (first_of_first (starts h.pei.lines) (all_starts h m) (starts lines) inside first) in
    let after = (PeiRuns.ends_so b.catalog b.fuel h.pei (ap is_some h.ended) lines).0 pei in
    let dxe : AreFreeDxeLines b.catalog b.fuel h.pei (opening h) lines = subst (λ o. AreFreeLinesAfter b.catalog b.fuel h.pei o lines) h.ended after in
    (dxe_leads b.catalog b.fuel h.pei h.pei.store h.pei.actions come.over m b.apart b.well.parents come.is lines).0 dxe first

pub back_from : (b : OrderBoot) (h : Handed b) (m : DxeMachine) (lines : List Line) → DxeCome b h m → AreFreeDxeLines b.catalog b.fuel h.pei m lines → AreFreeLines b.board b.catalog b.fuel lines
back_from b h m lines come free =
    let dxe = (dxe_leads b.catalog b.fuel h.pei h.pei.store h.pei.actions come.over m b.apart b.well.parents come.is lines).1 free in
    let after : AreFreeLinesAfter b.catalog b.fuel h.pei h.pei.ended lines = subst (λ o. AreFreeLinesAfter b.catalog b.fuel h.pei o lines) (sym h.ended) dxe in
    (pei_leads b.board b.catalog b.fuel h.earlier h.pei b.apart h.come lines).1 ((PeiRuns.ends_so b.catalog b.fuel h.pei (ap is_some h.ended) lines).1 after)

-- the driver that a machine is about to start is there
due_known : (b : OrderBoot) (m : DxeMachine) (next : Scheduled) (queue : List Scheduled) → IsUnderWay b.catalog m → dxe_case_of b.catalog m ≡ DxeStarts next queue → is_some (part_at Dxe b.catalog next.module_number) ≡ true
due_known b m next queue way case = ap is_some (dxe_prints b.catalog b.fuel m next queue way case).part_is

-- the target of a choice is under way as its machine
target_way : (b : OrderBoot) (m target : DxeMachine) → IsTarget b.catalog m Any target → IsUnderWay b.catalog m → IsUnderWay b.catalog target
target_way b m target (Own own) way = way
target_way b m target (First root found c) way = way
target_way b m target (Aimed root c) way = (Ways.groups_are_aimed b.catalog m root c.choosing c.may).way way

aim_of : (b : OrderBoot) (h : Handed b) (m : DxeMachine) (number : ℕ) → (bar : DxeBar b h m number) → IsTarget b.catalog m Any bar.due.target
aim_of b h m number bar = target_at (drivers b h) b.catalog m bar.due.target Ways.first_may_start bar.going bar.due.aimed

-- a choice whose machine starts a driver has one that may
own_never : (b : OrderBoot) (m : DxeMachine) (next : Scheduled) (queue : List Scheduled) → IsChoosing m → IsOwnCase (dxe_case_of b.catalog m) m.scheduled → dxe_case_of b.catalog m ≡ DxeStarts next queue → ⊥
own_never b m next queue choosing own case =
    let scheduled : m.scheduled ≢ [] = subst (λ c. IsOwnCase c m.scheduled) case own in scheduled choosing.scheduled

some_eligible : (b : OrderBoot) (m target : DxeMachine) (next : Scheduled) (queue : List Scheduled) → IsChoosing m → IsTarget b.catalog m Any target → dxe_case_of b.catalog target ≡ DxeStarts next queue → first_eligible b.catalog m ≢ None
some_eligible b m target next queue choosing (Own own) case none = own_never b m next queue choosing own case
some_eligible b m target next queue choosing (First root found c) case none = let gone : Some root ≡ None = sym found ∙ none in cc
some_eligible b m target next queue choosing (Aimed root c) case none = (Ways.first_may_start b.catalog m).none root none c.may

-- A driver that may be scheduled where one is to be chosen, and the first of its group.
pub record Group (b : OrderBoot) (m : DxeMachine) : Type 0 where
  pub choosing : IsChoosing m
  pub way : IsUnderWay b.catalog m
  pub root : ℕ
  pub may : MaySchedule b.catalog m root

aim_is : (b : OrderBoot) (m : DxeMachine) → (g : Group b m) → IsAimed b.catalog m g.root
aim_is b m g = Ways.groups_are_aimed b.catalog m g.root g.choosing g.may

abbrev first_of : (b : OrderBoot) (m : DxeMachine) → Group b m → Scheduled
first_of b m g = (aim_is b m g).starts.first

first_below : (b : OrderBoot) (m : DxeMachine) (g : Group b m) → (first_of b m g).module_number < length b.catalog.modules
first_below b m g =
    let aim = aim_is b m g in
    within (part_of Dxe) b.catalog.modules (first_of b m g).module_number (due_known b (aimed b.catalog m g.root) aim.starts.first aim.starts.queue (aim.way g.way) aim.starts.starts)

first_leads : (b : OrderBoot) (m : DxeMachine) (g : Group b m) → D.root_of b.catalog m (first_of b m g).module_number ≡ g.root
first_leads b m g =
    let aim = aim_is b m g in
    (names_lead b.catalog m g.root (first_of b m g).module_number aim.starts.others g.may aim.starts.numbers).leads (length b.catalog.modules) (Ways.few_wait b.catalog m g.way).waiting

-- where its first is named, what is due is that
leading : (b : OrderBoot) (m : DxeMachine) (g : Group b m) (named : Option ℕ) → named ≡ Some (first_of b m g).module_number → Leading b.catalog m (λ root. root ≡ g.root) named
leading b m g named is = record {
  some = λ number this may. ap (D.root_of b.catalog m) (one_number number (first_of b m g).module_number (sym this ∙ is)) ∙ first_leads b m g;
  none = λ never other may. absurd (never (first_of b m g).module_number is (subst (MaySchedule b.catalog m) (sym (first_leads b m g)) g.may));
}

chosen_is : (b : OrderBoot) (m target : DxeMachine) (g : Group b m) (next : Scheduled) (queue : List Scheduled) → IsTarget b.catalog m (λ root. root ≡ g.root) target → dxe_case_of b.catalog target ≡ DxeStarts next queue → next ≡ first_of b m g
chosen_is b m target g next queue (Own own) case = absurd (own_never b m next queue g.choosing own case)
chosen_is b m target g next queue (First root found c) case =
    let aim = aim_is b m g in
    let from = starts_from b.catalog m m.frames next queue case in
    let group : driver_queue b.catalog m ≡ group_scheduled b.catalog m (Some g.root) = ap (λ xs. queue_from xs (group_scheduled b.catalog m (first_eligible b.catalog m))) g.choosing.scheduled ∙ ap (group_scheduled b.catalog m) found ∙ ap (λ r. group_scheduled b.catalog m (Some r)) c.leads in
    one_first next aim.starts.first queue aim.starts.queue (sym from.1 ∙ group ∙ aim.starts.group)
chosen_is b m target g next queue (Aimed root c) case =
    let aim = aim_is b m g in
    one_start next aim.starts.first queue aim.starts.queue (sym case ∙ ap (λ r. dxe_case_of b.catalog (aimed b.catalog m r)) c.leads ∙ aim.starts.starts)

-- what each free boot starts next from a machine: the module, and that it is what is due if the order asks for it
pub record StartsNext (b : OrderBoot) (h : Handed b) (m : DxeMachine) (number : ℕ) (lines : List Line) : Type 0 where
  pub other : ℕ
  pub below : other < length b.catalog.modules
  pub first : ComeFirst (all_starts h m ++ module_start Dxe b.catalog other ∷ []) (starts lines)
  pub due : (asked : AskedStart) → slice_get b.order.starts (pei_starts h.pei + length m.started) ≡ Some asked → asked.start ≡ module_start Dxe b.catalog other → number ≡ other

-- the lines go on with a start
first_from : (b : OrderBoot) (h : Handed b) (m later : DxeMachine) (lines : List Line) (other : ℕ) (rest : List Start) → starts later.lines ≡ starts m.lines ++ (module_start Dxe b.catalog other ∷ rest) → AreFreeDxeLines b.catalog b.fuel h.pei later lines
    → ComeFirst (all_starts h m ++ module_start Dxe b.catalog other ∷ []) (starts lines)
first_from b h m later lines other rest adds free =
    let next = module_start Dxe b.catalog other in
    let behind = Runs.lines_grow b.catalog b.fuel h.pei later lines free in
    let all = both_add h.pei.lines m.lines later.lines (next ∷ rest) adds in
    let whole : starts lines ≡ (all_starts h m ++ (next ∷ rest)) ++ starts behind.rest = ap starts behind.printed_first ∙ starts-append (h.pei.lines ++ later.lines) behind.rest ∙ ap (λ x. x ++ starts behind.rest) all in
    (rest ++ starts behind.rest, whole ∙ append_assoc (all_starts h m) (next ∷ rest) (starts behind.rest) ∙ sym (append_assoc (all_starts h m) (next ∷ []) (rest ++ starts behind.rest)))

-- where a driver is scheduled it is that
scheduled_next : (b : OrderBoot) (h : Handed b) (m : DxeMachine) (number : ℕ) (bar : DxeBar b h m number) (lines : List Line) (first : Scheduled) (rest : List Scheduled) → m.frames ≡ [] → m.scheduled ≡ first ∷ rest
    → AreFreeDxeLines b.catalog b.fuel h.pei m lines → StartsNext b h m number lines
scheduled_next b h m number bar lines first rest idle is free =
    let same : bar.due.target ≡ m = none_aimed (drivers b h) b.catalog m bar.due.target first rest is bar.due.aimed in
    let case : dxe_case_of b.catalog m ≡ DxeStarts bar.due.starting.next bar.due.starting.queue = subst (λ x. dxe_case_of b.catalog x ≡ DxeStarts bar.due.starting.next bar.due.starting.queue) same bar.due.starting.starts in
    let way = dxe_way b h bar.come.over m bar.come.is in
    let own = scheduled_owns b.catalog m first rest idle is in
    let on = (Runs.goes_on b.catalog b.fuel h.pei m bar.going own lines).0 free in
    let next = bar.due.starting.next in
    let prints = dxe_prints b.catalog b.fuel m next bar.due.starting.queue way case in
    let line = dxe_start_line b.catalog next.module_number next.licence in
    let adds = ap starts prints.lines ∙ starts_then m.lines prints.rest line (module_start Dxe b.catalog next.module_number) refl in
    record {
      other = next.module_number;
      below = within (part_of Dxe) b.catalog.modules next.module_number (ap is_some prints.part_is);
      first = first_from b h m (dxe_step b.catalog b.fuel m) lines next.module_number (starts prints.rest) adds on;
      due = λ asked asks is. bar.due.starting.is;
    }

-- where one is to be chosen it is the first of the group of some driver that may
chosen_next : (b : OrderBoot) (h : Handed b) (m : DxeMachine) (number : ℕ) (bar : DxeBar b h m number) (lines : List Line) → IsChoosing m → AreFreeDxeLines b.catalog b.fuel h.pei m lines → StartsNext b h m number lines
chosen_next b h m number bar lines choosing free =
    let way = dxe_way b h bar.come.over m bar.come.is in
    let next = bar.due.starting.next in
    let queue = bar.due.starting.queue in
    let some = some_eligible b m bar.due.target next queue choosing (aim_of b h m number bar) bar.due.starting.starts in
    let one = Runs.starts_freely b.catalog b.fuel h.pei m choosing some lines free in
    let g : Group b m = record { choosing = choosing; way = way; root = one.0; may = one.1 } in
    let aim = aim_is b m g in
    let first = first_of b m g in
    let target = aimed b.catalog m g.root in
    let on = (Runs.goes_on b.catalog b.fuel h.pei target choosing.going (Runs.aimed_own b.catalog m g.root choosing) lines).0 one.2 in
    let prints = dxe_prints b.catalog b.fuel target first aim.starts.queue (aim.way way) aim.starts.starts in
    let line = dxe_start_line b.catalog first.module_number first.licence in
    let adds = ap starts prints.lines ∙ starts_then m.lines prints.rest line (module_start Dxe b.catalog first.module_number) refl in
    record {
      other = first.module_number;
      below = first_below b m g;
      first = first_from b h m (dxe_step b.catalog b.fuel target) lines first.module_number (starts prints.rest) adds on;
      due = λ asked asks is.
          let named = named_is b.catalog Dxe b.order (pei_starts h.pei + length m.started) bar.due.aimed.named first.module_number asked b.apart (bar.due.aimed.allowed choosing) (first_below b m g) asks is in
          let to = target_is (drivers b h) b.catalog m bar.due.target (λ root. root ≡ g.root) Ways.first_may_start bar.going bar.due.aimed (λ c. leading b m g bar.due.aimed.named named) in
          bar.due.starting.is ∙ ap (λ (s : Scheduled). s.module_number) (chosen_is b m bar.due.target g next queue to bar.due.starting.starts);
    }

not_running : (frame : DriverFrame) (below : List DriverFrame) → frame ∷ below ≡ [] → ⊥
not_running frame below e = cc

starts_next : (b : OrderBoot) (h : Handed b) (m : DxeMachine) (number : ℕ) (bar : DxeBar b h m number) (lines : List Line) → AreFreeDxeLines b.catalog b.fuel h.pei m lines → StartsNext b h m number lines
starts_next b h m number bar lines free = by (doing m bar.going)
  where
    by : Doing m → StartsNext b h m number lines
    by (RunsScript frame below e) =
        let same : bar.due.target ≡ m = none_named (drivers b h) b.catalog m bar.due.target frame below e bar.due.aimed in
        let case : dxe_case_of b.catalog m ≡ DxeStarts bar.due.starting.next bar.due.starting.queue = subst (λ x. dxe_case_of b.catalog x ≡ DxeStarts bar.due.starting.next bar.due.starting.queue) same bar.due.starting.starts in
        absurd (not_running frame below (sym e ∙ (starts_from b.catalog m m.frames bar.due.starting.next bar.due.starting.queue case).0))
    by (HasScheduled first rest e f) = scheduled_next b h m number bar lines first rest e f free
    by (MayChoose choosing) = chosen_next b h m number bar lines choosing free

-- so no free boot makes the start that the order asks for
pub none_starts : (b : OrderBoot) (h : Handed b) (m : DxeMachine) (number : ℕ) (asked : AskedStart) → DxeBar b h m number → slice_get b.order.starts (pei_starts h.pei + length m.started) ≡ Some asked
    → (lines : List Line) → AreFreeLines b.board b.catalog b.fuel lines → ComeFirst (all_starts h m ++ asked.start ∷ []) (starts lines) → ⊥
none_starts b h m number asked bar asks lines free first =
    let made = all_starts h m in
    let here = goes_from b h m lines bar.come free (first_of_first made (made ++ asked.start ∷ []) (starts lines) (asked.start ∷ [], refl) first) in
    let s = starts_next b h m number bar lines here in
    let next = module_start Dxe b.catalog s.other in
    let same : asked.start ≡ next = next_of_fronts made (made ++ asked.start ∷ []) (made ++ next ∷ []) (starts lines) asked.start next [] [] refl refl first s.first in
    let due = s.due asked asks same in
    let started = (target_same b h m bar.due.target (aim_of b h m number bar)).started in
    let asks_there : slice_get b.order.starts (pei_starts h.pei + length bar.due.target.started) ≡ Some asked = ap (λ (xs : List ℕ). slice_get b.order.starts (pei_starts h.pei + length xs)) started ∙ asks in
    let below : number < length b.catalog.modules = subst (λ n. n < length b.catalog.modules) (sym due) s.below in
    let lets : lets_driver b h bar.due.target number ≡ true = ap (λ o. lets_asked b.catalog Dxe b.order.stop o number) asks_there ∙ is_start b.catalog Dxe number asked.start below (same ∙ ap (module_start Dxe b.catalog) (sym due)) in
    true≢false (sym lets ∙ bar.barred)

-- a free boot goes on from there with the start of the driver that is due
pub before_start : (b : OrderBoot) (h : Handed b) (m : DxeMachine) (number : ℕ) → DxeBar b h m number → IsBeforeStart b.board b.catalog b.fuel (h.pei.lines ++ m.lines)
before_start b h m number bar =
    let aim = aim_of b h m number bar in
    let target = bar.due.target in
    let next = bar.due.starting.next in
    let way = dxe_way b h bar.come.over m bar.come.is in
    let later = dxe_step b.catalog b.fuel target in
    let step = target_free b.catalog b.fuel m target aim in
    let nearer = (Ways.steps_run_out b.catalog b.fuel m later b.well.parents bar.going way step).way in
    let free = Runs.ends_freely b.catalog b.fuel h.pei later b.well.parents nearer in
    let here = Runs.goes_on_to b.catalog b.fuel h.pei m later free.0 bar.going step free.1 in
    let prints = dxe_prints b.catalog b.fuel target next bar.due.starting.queue (target_way b m target aim way) bar.due.starting.starts in
    let line = dxe_start_line b.catalog next.module_number next.licence in
    let behind = Runs.lines_grow b.catalog b.fuel h.pei later free.0 free.1 in
    let lines : later.lines ≡ m.lines ++ line ∷ prints.rest = prints.lines ∙ ap (λ xs. xs ++ line ∷ prints.rest) (same_lines b.catalog m target Any aim) in
    let both : h.pei.lines ++ later.lines ≡ (h.pei.lines ++ m.lines) ++ line ∷ prints.rest = ap (λ xs. h.pei.lines ++ xs) lines ∙ sym (append_assoc h.pei.lines m.lines (line ∷ prints.rest)) in
    record {
      lines = free.0;
      boots = back_from b h m free.0 bar.come here;
      line = line;
      start = module_start Dxe b.catalog next.module_number;
      tells = refl;
      rest = prints.rest ++ behind.rest;
      are = behind.printed_first ∙ ap (λ x. x ++ behind.rest) both ∙ append_assoc (h.pei.lines ++ m.lines) (line ∷ prints.rest) behind.rest;
    }

-- where the order asks for nothing and the driver is not let, it stops
pub stops_there : (b : OrderBoot) (h : Handed b) (m : DxeMachine) (number : ℕ) → DxeBar b h m number → slice_get b.order.starts (pei_starts h.pei + length m.started) ≡ None → is_some b.order.stop ≡ true
stops_there b h m number bar none =
    let started = (target_same b h m bar.due.target (aim_of b h m number bar)).started in
    lets_stop b.catalog b.order Dxe (pei_starts h.pei + length bar.due.target.started) number bar.barred (ap (λ (xs : List ℕ). slice_get b.order.starts (pei_starts h.pei + length xs)) started ∙ none)
