-- In each machine of a free boot a driver with SOR that nobody requested waits, unless its volume's a priori list has it.
use Rattle.std.proofs.Common.{◌≡◌, ℕ, zero, suc, ◌==◌, Bool, true, false, not, ◌&&◌, ◌||◌, cond, List, [], ◌∷◌, ◌++◌, length, Option, Some, None, refl, sym, ap, ◌∙◌, subst, inl, inr, is_some, nat_le, ◌≢◌, is_none, option_and_then}
use Rattle.std.specs.List.{list_any}
use Rattle.std.proofs.lemmas.List.Folds.{list_any-append}
use Rattle.pi_base.specs.{declared.guid.Guid.Guid, declared.phase.Phase.TheVariants.Dxe, Guids.same_guid, Lists.Each}
use Rattle.depex_code.specs.declared.depex.Depex.TheVariants as D
use Rattle.mod_catalog.specs.{declared.catalogue.Catalog.Catalog, declared.catalogue.Part.Part, declared.catalogue.PartExpr.PartExpr}
use Rattle.mod_catalog.specs.declared.catalogue.PartExpr.TheVariants as E
use Rattle.mod_catalog.specs.Parts.{has_number, part_at, rank_at, module_volume, module_name, parts_in}
use Rattle.mod_catalog.specs.WellFormed.{IsWellFormed}
use Rattle.boot_model.specs.{declared.driver.Scheduled.Scheduled, Reporting.newcomers, DxeMachine.DxeMachine, DxeMachine.DriverFrame}
use Rattle.boot_model.specs.declared.phase_end.DxeEnd.TheVariants as DxeEnds
use Rattle.boot_model.specs.DxeChoice.{driver_named, a_priori_drivers, discovered_order, is_waiting, is_sor, asks_for_request, is_unrequested, before_of, after_of, companion_group, driver_queue, group_scheduled, is_eligible_driver, schedule_of, waiting}
use Rattle.boot_model.specs.DxeAction.{DxeEffect, Wrote, Called, Logged, Skipped, Returned, Own, dxe_effect, with_volumes}
use Rattle.boot_model.specs.DxeStep.{DxeCase, DxeFires, DxeActs, DxeStarts, DxeStops, dxe_case_of, in_dxe_case, dxe_step, protocol_begun, after_dxe_effect, with_action, dxe_action_at, driver_started}
use Rattle.boot_model.specs.DriverLicence.{first_of, named_by, numbers_of, IsDiscovered, Leads, target_of}
use Rattle.boot_model.specs.FreeRun.{MaySchedule}
use Rattle.boot_laws.specs.{DriverSteps.BeginsWith, UnrequestedDrivers.WaitForRequest, DxeFree.IsOwnCase}
use Rattle.boot_model.proofs.ListFacts.{each_more, each_at}
use Rattle.boot_laws.proofs.PartLists.{ranked_in, each_flat_ranked, known_of, drivers_are}
use Rattle.boot_laws.proofs.PeiOrders.{has_front, has_flat, part_in_volume, ranked_within, ranked_has}
use Rattle.boot_laws.proofs.DriverActions.{Follows, EffectFollows, effect_follows}
use Rattle.boot_laws.proofs.{DriverCalls.EffectKeeps, DriverCalls.effect_keeps, DxeCases.starts_from, DxeOnce.priori_numbers}
use Rattle.boot_laws.proofs.Groups.{all_stand}
use Rattle.boot_laws.specs.DxeUnderWay.{IsDriverOf, IsUnderWay}
use Rattle.boot_laws.proofs.Unrequested.{find_filtered, still_asks, alike, some_rank}

-- what is said of one driver after the other
abbrev Waits : Catalog → DxeMachine → Type 0
Waits catalog m = (number : ℕ) → IsDiscovered catalog m number → is_unrequested catalog m number ≡ true → is_waiting m number ≡ is_none (rank_at Dxe catalog number)

-- the driver of a name is found without the queue
whole : (catalog : Catalog) (m : DxeMachine) → Waits catalog m → WaitForRequest catalog m
whole catalog m waits = record {
  wait = waits;
  named = λ name.
      let Asked : ℕ → Bool = λ number. is_unrequested catalog m number && same_guid (module_name catalog number) name in
      let Unranked : ℕ → Bool = λ number. is_none (rank_at Dxe catalog number) in
      find_filtered Asked (is_waiting m) Unranked (discovered_order catalog m)
      (each_more (IsDiscovered catalog m) (λ number. (is_waiting m number && Asked number) ≡ (Unranked number && Asked number)) (discovered_order catalog m)
      (λ number is. alike (is_unrequested catalog m number) (same_guid (module_name catalog number) name) (is_waiting m number) (Unranked number) (waits number is))
      (known_of catalog (parts_in Dxe catalog) (drivers_are catalog) m.discovered));
}

was_unrequested : (catalog : Catalog) (m later : DxeMachine) (number : ℕ) → BeginsWith m.requested later.requested → is_unrequested catalog later number ≡ true → is_unrequested catalog m number ≡ true
was_unrequested catalog m later number more asks =
    still_asks (asks_for_request (part_at Dxe catalog number)) (has_number m.requested number) (has_number later.requested number)
    (λ has. subst (λ l. has_number l number ≡ true) (sym more.1) (has_front m.requested more.0 number has)) asks

-- the queue stays
same_waits : (catalog : Catalog) (m later : DxeMachine) → later.discovered ≡ m.discovered → later.scheduled ≡ m.scheduled → later.started ≡ m.started → BeginsWith m.requested later.requested → Waits catalog m → Waits catalog later
same_waits catalog m later discovered scheduled started more waits number is asks =
    ap (λ xs. not (list_any (λ (next : Scheduled). next.module_number == number) xs) && not (has_number later.started number)) scheduled
    ∙ ap (λ ns. not (list_any (λ (next : Scheduled). next.module_number == number) m.scheduled) && not (has_number ns number)) started
    ∙ waits number (is.0, ap (λ volumes. has_number volumes (module_volume catalog number)) (sym discovered) ∙ is.1) (was_unrequested catalog m later number more asks)

-- whether one is scheduled
abbrev is_in : List Scheduled → ℕ → Bool
is_in queue n = list_any (λ (next : Scheduled). next.module_number == n) queue

in_numbers : (queue : List Scheduled) (n : ℕ) → is_in queue n ≡ has_number (numbers_of queue) n
in_numbers [] n = refl
in_numbers (next ∷ queue) n = ap (λ b. (next.module_number == n) || b) (in_numbers queue n)

neither : (x y w : Bool) → (not (x || y) && w) ≡ (not y && (not x && w))
neither true true w = refl
neither true false w = refl
neither false y w = refl

-- more is scheduled
waits_more : (m later : DxeMachine) (added : List Scheduled) (n : ℕ) → later.scheduled ≡ m.scheduled ++ added → later.started ≡ m.started → is_waiting later n ≡ (not (is_in added n) && is_waiting m n)
waits_more m later added n scheduled started =
    ap (λ xs. not (is_in xs n) && not (has_number later.started n)) scheduled ∙ ap (λ ns. not (is_in (m.scheduled ++ added) n) && not (has_number ns n)) started
    ∙ ap (λ b. not b && not (has_number m.started n)) (list_any-append (λ (next : Scheduled). next.module_number == n) m.scheduled added)
    ∙ neither (is_in m.scheduled n) (is_in added n) (not (has_number m.started n))

-- a driver in the list of one of these volumes is scheduled by them
scheduled_by : (catalog : Catalog) (volumes : List ℕ) (number : ℕ) → IsWellFormed catalog → is_some (part_at Dxe catalog number) ≡ true → has_number volumes (module_volume catalog number) ≡ true
    → is_some (rank_at Dxe catalog number) ≡ true → is_in (a_priori_drivers catalog volumes) number ≡ true
scheduled_by catalog volumes number well part has ranked =
    let r = some_rank (rank_at Dxe catalog number) ranked in
    let volume = module_volume catalog number in
    in_numbers (a_priori_drivers catalog volumes) number ∙ ap (λ ns. has_number ns number) (priori_numbers catalog volumes)
    ∙ has_flat (ranked_in catalog) volumes volume number has
    (ranked_has (parts_in Dxe catalog volume) (rank_at Dxe catalog) number r.0 r.1 (part_in_volume Dxe catalog number part) (ranked_within Dxe catalog catalog.modules number r.0 well.dxe_ranks r.1))

-- and those that are scheduled by volumes have a rank
scheduled_ranked : (catalog : Catalog) (volumes : List ℕ) (number : ℕ) → is_in (a_priori_drivers catalog volumes) number ≡ true → is_some (rank_at Dxe catalog number) ≡ true
scheduled_ranked catalog volumes number has =
    each_at (λ n. is_some (rank_at Dxe catalog n) ≡ true) (numbers_of (a_priori_drivers catalog volumes)) number
    (subst (Each (λ n. is_some (rank_at Dxe catalog n) ≡ true)) (sym (priori_numbers catalog volumes)) (each_flat_ranked catalog volumes)) (sym (in_numbers (a_priori_drivers catalog volumes) number) ∙ has)

-- a driver of a volume that was known
known_by : (rank : Option ℕ) (added waits : Bool) → waits ≡ is_none rank → (added ≡ true → is_some rank ≡ true) → (not added && waits) ≡ is_none rank
known_by None true waits is ranked = let never : false ≡ true = ranked refl in cc
known_by None false waits is ranked = is
known_by (Some r) true waits is ranked = refl
known_by (Some r) false waits is ranked = is

-- and of one that was not
new_by : (rank : Option ℕ) (added waits : Bool) → waits ≡ true → (added ≡ true → is_some rank ≡ true) → (is_some rank ≡ true → added ≡ true) → (not added && waits) ≡ is_none rank
new_by None true waits is ranked scheduled = let never : false ≡ true = ranked refl in cc
new_by None false waits is ranked scheduled = is
new_by (Some r) true waits is ranked scheduled = refl
new_by (Some r) false waits is ranked scheduled = let never : false ≡ true = scheduled refl in cc

false_true : false ≡ true → ⊥
false_true e = cc

-- a driver of no known volume waits
none_known : (catalog : Catalog) (volumes numbers : List ℕ) (number : ℕ) → Each (IsDriverOf catalog volumes) numbers → has_number volumes (module_volume catalog number) ≡ false → has_number numbers number ≡ false
none_known catalog volumes numbers number known none = by (has_number numbers number) refl
  where
    by : (b : Bool) → has_number numbers number ≡ b → has_number numbers number ≡ false
    by true e = absurd (false_true (sym none ∙ (each_at (IsDriverOf catalog volumes) numbers number known e).1))
    by false e = e

waits_unknown : (catalog : Catalog) (m : DxeMachine) (number : ℕ) → IsUnderWay catalog m → has_number m.discovered (module_volume catalog number) ≡ false → is_waiting m number ≡ true
waits_unknown catalog m number way none =
    let queue : is_in m.scheduled number ≡ false = in_numbers m.scheduled number ∙ none_known catalog m.discovered (numbers_of m.scheduled) number way.queue_known none in
    let started : has_number m.started number ≡ false = none_known catalog m.discovered m.started number way.started_known none in
    ap (λ b. not b && not (has_number m.started number)) queue ∙ ap not started

in_second : (xs ys : List ℕ) (n : ℕ) → has_number xs n ≡ false → has_number (xs ++ ys) n ≡ true → has_number ys n ≡ true
in_second xs ys n none has = by (has_number xs n) (has_number ys n) none (sym (list_any-append (λ x. x == n) xs ys) ∙ has)
  where
    by : (a b : Bool) → a ≡ false → (a || b) ≡ true → b ≡ true
    by true b e h = cc
    by false b e h = h

-- volumes were discovered
volumes_wait : (catalog : Catalog) (m : DxeMachine) (fresh : List ℕ) → IsWellFormed catalog → IsUnderWay catalog m → Waits catalog m → Waits catalog (with_volumes catalog m fresh)
volumes_wait catalog m fresh well way waits number is asks =
    let volume = module_volume catalog number in
    let added = is_in (a_priori_drivers catalog fresh) number in
    waits_more m (with_volumes catalog m fresh) (a_priori_drivers catalog fresh) number refl refl ∙ by (has_number m.discovered volume) refl
  where
    by : (b : Bool) → has_number m.discovered (module_volume catalog number) ≡ b → (not (is_in (a_priori_drivers catalog fresh) number) && is_waiting m number) ≡ is_none (rank_at Dxe catalog number)
    by true e = known_by (rank_at Dxe catalog number) (is_in (a_priori_drivers catalog fresh) number) (is_waiting m number) (waits number (is.0, e) asks) (scheduled_ranked catalog fresh number)
    by false e =
        new_by (rank_at Dxe catalog number) (is_in (a_priori_drivers catalog fresh) number) (is_waiting m number) (waits_unknown catalog m number way e) (scheduled_ranked catalog fresh number)
        (scheduled_by catalog fresh number well is.0 (in_second m.discovered fresh (module_volume catalog number) e is.1))

follows_wait : (catalog : Catalog) (m later : DxeMachine) → IsWellFormed catalog → IsUnderWay catalog m → Follows catalog m later → BeginsWith m.requested later.requested → Waits catalog m → Waits catalog later
follows_wait catalog m later well way (inl h) more waits = same_waits catalog m later h.discovered h.scheduled h.started more waits
follows_wait catalog m later well way (inr h) more waits = subst (Waits catalog) (sym h.1) (volumes_wait catalog m (newcomers catalog m.discovered (Some h.0)) well way waits)

effect_waits : (catalog : Catalog) (m : DxeMachine) (frame : DriverFrame) (below : List DriverFrame) (e : DxeEffect) → IsWellFormed catalog → IsUnderWay catalog m → EffectFollows catalog m e → EffectKeeps m frame e → Waits catalog m
    → Waits catalog (after_dxe_effect m frame below e)
effect_waits catalog m frame below (Wrote registers status) well way f k waits = waits
effect_waits catalog m frame below (Called name reply) well way f k waits = follows_wait catalog m reply.machine well way f k.requested waits
effect_waits catalog m frame below (Logged text) well way f k waits = waits
effect_waits catalog m frame below (Skipped n) well way f k waits = waits
effect_waits catalog m frame below (Returned status) well way f k waits = waits
effect_waits catalog m frame below (Own own) well way f k waits = absurd own

either_waits : (catalog : Catalog) (b : Bool) (one other : DxeMachine) → Waits catalog one → Waits catalog other → Waits catalog (cond b one other)
either_waits catalog true one other h k = h
either_waits catalog false one other h k = k

-- the head of the queue has started
moved : (x r s : Bool) → (not r && not (x || s)) ≡ (not (x || r) && not s)
moved true true s = refl
moved true false s = refl
moved false r s = refl

start_waits : (catalog : Catalog) (m : DxeMachine) (next : Scheduled) (queue : List Scheduled) (part : Option Part) → is_some part ≡ true → m.scheduled ≡ next ∷ queue → Waits catalog m → Waits catalog (driver_started catalog m next queue part)
start_waits catalog m next queue None some is waits number known asks = cc
start_waits catalog m next queue (Some part) some is waits number known asks =
    moved (next.module_number == number) (is_in queue number) (has_number m.started number)
    ∙ ap (λ xs. not (is_in xs number) && not (has_number m.started number)) (sym is) ∙ waits number known asks

queue_is : (catalog : Catalog) (m : DxeMachine) (next : Scheduled) (queue : List Scheduled) → m.scheduled ≢ [] → driver_queue catalog m ≡ next ∷ queue → m.scheduled ≡ next ∷ queue
queue_is catalog m next queue some is = by m.scheduled refl
  where
    by : (xs : List Scheduled) → m.scheduled ≡ xs → m.scheduled ≡ next ∷ queue
    by [] e = absurd (some e)
    by (first ∷ rest) e = e ∙ sym (ap (λ q. q) (kept e)) ∙ is
      where
        kept : m.scheduled ≡ first ∷ rest → driver_queue catalog m ≡ first ∷ rest
        kept e = rw e refl

case_waits : (catalog : Catalog) (fuel : ℕ) (m : DxeMachine) (case : DxeCase) → IsWellFormed catalog → IsUnderWay catalog m → dxe_case_of catalog m ≡ case → IsOwnCase case m.scheduled → Waits catalog m → Waits catalog (in_dxe_case catalog fuel m case)
case_waits catalog fuel m (DxeFires note sweep frame below) well way e own waits =
    either_waits catalog (nat_le 64 (length m.frames)) (record m { ended = Some DxeEnds.Deep }) (protocol_begun catalog m note sweep frame below) waits waits
case_waits catalog fuel m (DxeActs frame below) well way e own waits =
    let acting : DxeMachine = with_action m in
    let does : DxeEffect = dxe_effect catalog acting frame (dxe_action_at catalog frame) in
    either_waits catalog (nat_le fuel m.actions) (record m { ended = Some DxeEnds.Spent }) (after_dxe_effect acting frame below does) waits
    (effect_waits catalog acting frame below does well (still way) (effect_follows catalog acting frame (dxe_action_at catalog frame)) (effect_keeps catalog acting frame (dxe_action_at catalog frame)) waits)
  where
    still : IsUnderWay catalog m → IsUnderWay catalog (with_action m)
    still w = record { sweeps = w.sweeps; volumes_differ = w.volumes_differ; queue_differs = w.queue_differs; started_differ = w.started_differ; apart = w.apart; queue_known = w.queue_known; started_known = w.started_known }
case_waits catalog fuel m (DxeStarts next queue) well way e own waits =
    let is = starts_from catalog m m.frames next queue e in
    let scheduled = queue_is catalog m next queue own is.1 in
    let known = subst (λ xs. Each (IsDriverOf catalog m.discovered) (numbers_of xs)) scheduled way.queue_known in
    start_waits catalog m next queue (part_at Dxe catalog next.module_number) known.0.0 scheduled waits
case_waits catalog fuel m DxeStops well way e own waits = waits

-- a step of the machine itself keeps it
pub step_waits : (catalog : Catalog) (fuel : ℕ) (m : DxeMachine) → IsWellFormed catalog → IsUnderWay catalog m → IsOwnCase (dxe_case_of catalog m) m.scheduled → WaitForRequest catalog m → WaitForRequest catalog (dxe_step catalog fuel m)
step_waits catalog fuel m well way own waits = whole catalog (dxe_step catalog fuel m) (case_waits catalog fuel m (dxe_case_of catalog m) well way refl own waits.wait)

-- an expression that names a driver asks for no request
before_asks_none : (f : Guid → Option ℕ) (o : Option Part) (x : ℕ) → option_and_then f (option_and_then (λ (p : Part). before_of p.expr) o) ≡ Some x → asks_for_request o ≡ false
before_asks_none f None x h = refl
before_asks_none f (Some part) x h = by part.expr h
  where
    by : (expr : PartExpr) → option_and_then f (before_of expr) ≡ Some x → (elim expr as (λ _. Bool) [ E.Absent ↦ false | E.Malformed at ↦ false | E.Held expression ↦ is_sor expression ]) ≡ false
    by E.Absent h = refl
    by (E.Malformed at) h = refl
    by (E.Held (D.Before name)) h = refl
    by (E.Held (D.After name)) h = refl
    by (E.Held (D.Expr sor node)) h = cc

after_asks_none : (f : Guid → Option ℕ) (o : Option Part) (x : ℕ) → option_and_then f (option_and_then (λ (p : Part). after_of p.expr) o) ≡ Some x → asks_for_request o ≡ false
after_asks_none f None x h = refl
after_asks_none f (Some part) x h = by part.expr h
  where
    by : (expr : PartExpr) → option_and_then f (after_of expr) ≡ Some x → (elim expr as (λ _. Bool) [ E.Absent ↦ false | E.Malformed at ↦ false | E.Held expression ↦ is_sor expression ]) ≡ false
    by E.Absent h = refl
    by (E.Malformed at) h = refl
    by (E.Held (D.Before name)) h = refl
    by (E.Held (D.After name)) h = refl
    by (E.Held (D.Expr sor node)) h = cc

named_asks_none : (catalog : Catalog) (m : DxeMachine) (z y : ℕ) → target_of catalog m z ≡ Some y → asks_for_request (part_at Dxe catalog z) ≡ false
named_asks_none catalog m z y named = by (named_by before_of catalog m z) (named_by after_of catalog m z) refl refl named
  where
    by : (before after : Option ℕ) → named_by before_of catalog m z ≡ before → named_by after_of catalog m z ≡ after → first_of before after ≡ Some y → asks_for_request (part_at Dxe catalog z) ≡ false
    by (Some x) after e f h = before_asks_none (driver_named catalog m) (part_at Dxe catalog z) x e
    by None (Some x) e f h = after_asks_none (driver_named catalog m) (part_at Dxe catalog z) x f
    by None None e f h = cc

-- one of a group needs no request
member_asked : (catalog : Catalog) (m : DxeMachine) (root z k : ℕ) → MaySchedule catalog m root → Leads (target_of catalog m) root z k → is_unrequested catalog m z ≡ false
member_asked catalog m root z zero may is = subst (λ n. is_unrequested catalog m n ≡ false) (sym is) (by (is_unrequested catalog m root) refl may.1)
  where
    by : (b : Bool) → is_unrequested catalog m root ≡ b → is_eligible_driver catalog m root ≡ true → is_unrequested catalog m root ≡ false
    by true e h = absurd (false_true (eligible e ∙ h))
      where
        eligible : is_unrequested catalog m root ≡ true → false ≡ is_eligible_driver catalog m root
        eligible e = rw e refl
    by false e h = e
member_asked catalog m root z (suc k) may is = ap (λ b. b && not (has_number m.requested z)) (named_asks_none catalog m z is.0 is.1)

numbers_are : (catalog : Catalog) (numbers : List ℕ) → numbers_of (schedule_of catalog numbers) ≡ numbers
numbers_are catalog [] = refl
numbers_are catalog (n ∷ numbers) = ap (λ ns. n ∷ ns) (numbers_are catalog numbers)

-- the group of a driver is scheduled
pub aim_waits : (catalog : Catalog) (m : DxeMachine) (root : ℕ) → m.scheduled ≡ [] → MaySchedule catalog m root → WaitForRequest catalog m → WaitForRequest catalog (record m { scheduled = group_scheduled catalog m (Some root) })
aim_waits catalog m root none may waits = whole catalog later each
  where
    group : List Scheduled
    group = schedule_of catalog (companion_group catalog m root)

    later : DxeMachine
    later = record m { scheduled = group_scheduled catalog m (Some root) }

    free : (number : ℕ) → is_in group number ≡ true → is_unrequested catalog m number ≡ false
    free number has =
        let known : has_number (companion_group catalog m root) number ≡ true = ap (λ ns. has_number ns number) (sym (numbers_are catalog (companion_group catalog m root))) ∙ sym (in_numbers group number) ∙ has in
        let over = each_at (λ z. (k : ℕ) × Leads (target_of catalog m) root z k) (companion_group catalog m root) number (all_stand catalog m (length (waiting catalog m)) root) known in
        member_asked catalog m root number over.0 may over.1

    by : (number : ℕ) (b : Bool) → is_in group number ≡ b → is_unrequested catalog m number ≡ true → (not b && is_waiting m number) ≡ is_waiting m number
    by number true e asks = absurd (false_true (sym (free number e) ∙ asks))
    by number false e asks = refl

    each : Waits catalog later
    each number is asks =
        waits_more m later group number (ap (λ xs. xs ++ group) (sym none)) refl ∙ by number (is_in group number) refl asks ∙ waits.wait number is asks
