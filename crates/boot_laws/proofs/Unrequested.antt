-- Along a run of DXE each driver that has been scheduled has a place in its volume's a priori list, or needs no request more; and each with such a place has been scheduled.
use Rattle.std.proofs.Common.{◌≡◌, ℕ, zero, suc, ◌==◌, Bool, true, false, not, ◌&&◌, ◌||◌, cond, List, [], ◌∷◌, ◌++◌, length, Option, Some, None, refl, sym, ap, ◌∙◌, subst, inl, inr, is_some, nat_le, find, filter, is_none, option_and_then}
use Rattle.std.specs.List.{list_any}
use Rattle.pi_base.specs.{declared.guid.Guid.Guid, declared.phase.Phase.TheVariants.Dxe, Guids.same_guid, Lists.Each}
use Rattle.depex_code.specs.declared.depex.Depex.TheVariants as D
use Rattle.mod_catalog.specs.{declared.catalogue.Catalog.Catalog, declared.catalogue.Part.Part, declared.catalogue.PartExpr.PartExpr}
use Rattle.mod_catalog.specs.declared.catalogue.PartExpr.TheVariants as E
use Rattle.mod_catalog.specs.Parts.{has_number, part_at, rank_at, module_volume, module_name, parts_in}
use Rattle.mod_catalog.specs.WellFormed.{IsWellFormed}
use Rattle.store_model.specs.{StoreState.StoreState, Service.Reading.fv_bases}
use Rattle.boot_model.specs.{declared.driver.Scheduled.Scheduled, declared.licence.Licence.Licence, Reporting.newcomers}
use Rattle.boot_model.specs.declared.licence.Licence.TheVariants as G
use Rattle.boot_model.specs.declared.phase_end.DxeEnd.TheVariants as DxeEnds
use Rattle.boot_model.specs.{Discovery.discoveries, DxeMachine.DxeMachine, DxeMachine.DriverFrame, DxeRun.dxe_run, DxeRun.dxe_opening}
use Rattle.boot_model.specs.DxeChoice.{driver_named, a_priori_drivers, discovered_order, is_waiting, is_sor, asks_for_request, is_unrequested, before_of, after_of, queue_from, first_eligible, group_scheduled, driver_queue}
use Rattle.boot_model.specs.DxeAction.{DxeEffect, Wrote, Called, Logged, Skipped, Returned, Own, dxe_effect}
use Rattle.boot_model.specs.DxeStep.{DxeCase, DxeFires, DxeActs, DxeStarts, DxeStops, dxe_case_of, in_dxe_case, dxe_step, protocol_begun, after_dxe_effect, with_action, dxe_action_at, driver_started}
use Rattle.boot_model.specs.Licence.{IsPartAmong}
use Rattle.boot_model.specs.DriverLicence.{numbers_of, IsMember, IsDriverLicensed, IsDiscovered}
use Rattle.boot_laws.specs.{DriverSteps.BeginsWith, UnrequestedDrivers.UnrequestedDriversWait}
use Rattle.boot_model.proofs.ListFacts.{each_more, each_append, each_at, has_later, has_here}
use Rattle.boot_laws.proofs.PartLists.{is_equal, ranked_in, each_flat_ranked, known_of, drivers_are}
use Rattle.boot_laws.proofs.PeiOrders.{has_front, has_back, has_flat, part_in_volume, ranked_within, ranked_has}
use Rattle.boot_laws.proofs.DriverActions.{Follows, EffectFollows, effect_follows}
use Rattle.boot_laws.proofs.{DriverCalls.EffectKeeps, DriverCalls.effect_keeps, DxeCases.starts_from, DxeOnce.priori_numbers}
use Rattle.boot_laws.proofs.{Queue.numbers_of_append, GroupLicences.schedules_licensed}

-- what is no longer waiting: scheduled or started
abbrev gone : DxeMachine → List ℕ
gone m = numbers_of m.scheduled ++ m.started

-- a driver that needs no request more, or is in its volume's list
abbrev NeedsNone : Catalog → List ℕ → ℕ → Type 0
NeedsNone catalog requested number = (asks_for_request (part_at Dxe catalog number) && not (has_number requested number)) ≡ true → is_some (rank_at Dxe catalog number) ≡ true

record AreSettled (catalog : Catalog) (discovered requested gone : List ℕ) : Type 0 where
  ranked : (number : ℕ) → IsPartAmong Dxe catalog discovered number → is_some (rank_at Dxe catalog number) ≡ true → has_number gone number ≡ true
  needs : Each (NeedsNone catalog requested) gone

abbrev IsSettled : Catalog → DxeMachine → Type 0
IsSettled catalog m = AreSettled catalog m.discovered m.requested (gone m)

-- more requests
pub still_asks : (a old new : Bool) → (old ≡ true → new ≡ true) → (a && not new) ≡ true → (a && not old) ≡ true
still_asks true true true f h = h
still_asks true true false f h = let yes = f refl in cc
still_asks true false new f h = refl
still_asks false old new f h = h

needs_more : (catalog : Catalog) (old new : List ℕ) (number : ℕ) → BeginsWith old new → NeedsNone catalog old number → NeedsNone catalog new number
needs_more catalog old new number b h asks =
    h (still_asks (asks_for_request (part_at Dxe catalog number)) (has_number old number) (has_number new number) (λ has. subst (λ l. has_number l number ≡ true) (sym b.1) (has_front old b.0 number has)) asks)

-- a rank among the volumes
pub some_rank : (o : Option ℕ) → is_some o ≡ true → (r : ℕ) × (o ≡ Some r)
some_rank None h = cc
some_rank (Some r) h = (r, refl)

-- a driver in the list of one of these volumes is scheduled by them
pub scheduled_by : (catalog : Catalog) (volumes : List ℕ) (number : ℕ) → IsWellFormed catalog → is_some (part_at Dxe catalog number) ≡ true → has_number volumes (module_volume catalog number) ≡ true
    → is_some (rank_at Dxe catalog number) ≡ true → has_number (numbers_of (a_priori_drivers catalog volumes)) number ≡ true
scheduled_by catalog volumes number well part has ranked =
    let r = some_rank (rank_at Dxe catalog number) ranked in
    let volume = module_volume catalog number in
    subst (λ ns. has_number ns number ≡ true) (sym (priori_numbers catalog volumes))
    (has_flat (ranked_in catalog) volumes volume number has
    (ranked_has (parts_in Dxe catalog volume) (rank_at Dxe catalog) number r.0 r.1 (part_in_volume Dxe catalog number part) (ranked_within Dxe catalog catalog.modules number r.0 well.dxe_ranks r.1)))

-- an a priori driver has a rank
ranked_need_none : (catalog : Catalog) (requested xs : List ℕ) → Each (λ n. is_some (rank_at Dxe catalog n) ≡ true) xs → Each (NeedsNone catalog requested) xs
ranked_need_none catalog requested xs e = each_more (λ n. is_some (rank_at Dxe catalog n) ≡ true) (NeedsNone catalog requested) xs (λ n h asks. h) e

-- more requests keep it
requests_settled : (catalog : Catalog) (discovered old new gone : List ℕ) → BeginsWith old new → AreSettled catalog discovered old gone → AreSettled catalog discovered new gone
requests_settled catalog discovered old new gone b s = record { ranked = s.ranked; needs = each_more (NeedsNone catalog old) (NeedsNone catalog new) gone (λ n h. needs_more catalog old new n b h) s.needs }

-- where a number of two lists is
at_head : (here both : Bool) (P : Type 0) → (here ≡ true → P) → (both ≡ true → P) → (here || both) ≡ true → P
at_head true both P f g h = f refl
at_head false both P f g h = g h

split : (P : Type 0) (xs ys : List ℕ) (n : ℕ) → (has_number xs n ≡ true → P) → (has_number ys n ≡ true → P) → has_number (xs ++ ys) n ≡ true → P
split P [] ys n f g h = g h
split P (x ∷ xs) ys n f g h = at_head (x == n) (has_number (xs ++ ys) n) P (λ e. f (has_here (x == n) (has_number xs n) e)) (λ k. split P xs ys n (λ l. f (has_later (x == n) (has_number xs n) l)) g k) h

-- a list in two parts
both_parts : (P : ℕ → Type 0) (xs ys : List ℕ) → Each P (xs ++ ys) → Each P xs × Each P ys
both_parts P [] ys e = (tt, e)
both_parts P (x ∷ xs) ys e = let later = both_parts P xs ys e.1 in ((e.0, later.0), later.1)

-- volumes with the drivers that they schedule
volumes_settled : (catalog : Catalog) (discovered new requested queue started : List ℕ) → IsWellFormed catalog → AreSettled catalog discovered requested (queue ++ started)
    → AreSettled catalog (discovered ++ new) requested ((queue ++ numbers_of (a_priori_drivers catalog new)) ++ started)
volumes_settled catalog discovered new requested queue started well s =
    let added = numbers_of (a_priori_drivers catalog new) in
    let ranked_ones = subst (Each (λ n. is_some (rank_at Dxe catalog n) ≡ true)) (sym (priori_numbers catalog new)) (each_flat_ranked catalog new) in
    let before = both_parts (NeedsNone catalog requested) queue started s.needs in
    record {
      ranked = λ number is rank.
          let volume = module_volume catalog number in
          let goal = has_number ((queue ++ added) ++ started) number ≡ true in
          split goal discovered new volume
          (λ old. split goal queue started number (λ h. has_front (queue ++ added) started number (has_front queue added number h)) (λ h. has_back (queue ++ added) started number h) (s.ranked number (is.0, old) rank))
          (λ fresh. has_front (queue ++ added) started number (has_back queue added number (scheduled_by catalog new number well is.0 fresh rank))) is.1;
      needs = each_append (NeedsNone catalog requested) (queue ++ added) started
          (each_append (NeedsNone catalog requested) queue added before.0 (ranked_need_none catalog requested added ranked_ones)) before.1;
    }

-- what licences tell of requests
abbrev asks_by : PartExpr → Bool
asks_by expr = elim expr [ E.Absent ↦ false | E.Malformed at ↦ false | E.Held expression ↦ is_sor expression ]

before_asks_none : (f : Guid → Option ℕ) (expr : PartExpr) (x : ℕ) → option_and_then f (before_of expr) ≡ Some x → asks_by expr ≡ false
before_asks_none f E.Absent x h = refl
before_asks_none f (E.Malformed at) x h = refl
before_asks_none f (E.Held (D.Before name)) x h = refl
before_asks_none f (E.Held (D.After name)) x h = refl
before_asks_none f (E.Held (D.Expr sor node)) x h = cc

after_asks_none : (f : Guid → Option ℕ) (expr : PartExpr) (x : ℕ) → option_and_then f (after_of expr) ≡ Some x → asks_by expr ≡ false
after_asks_none f E.Absent x h = refl
after_asks_none f (E.Malformed at) x h = refl
after_asks_none f (E.Held (D.Before name)) x h = refl
after_asks_none f (E.Held (D.After name)) x h = refl
after_asks_none f (E.Held (D.Expr sor node)) x h = cc

asks_none : (a b : Bool) {P : Type 0} → a ≡ false → (a && b) ≡ true → P
asks_none a b e h = absurd (never (sym (ap (λ t. t && b) e) ∙ h))
  where
    never : false ≡ true → ⊥
    never e = cc

licensed_needs : (catalog : Catalog) (m : DxeMachine) (queue : List ℕ) (number : ℕ) (part : Part) (licence : Licence) → part_at Dxe catalog number ≡ Some part → IsDriverLicensed catalog m queue number part licence → NeedsNone catalog m.requested number
licensed_needs catalog m queue number part G.Apriori is l asks = ap (λ o. is_some (option_and_then (λ (p : Part). p.rank) o)) is ∙ l
licensed_needs catalog m queue number part G.Absent is l asks = asks_none (asks_for_request (part_at Dxe catalog number)) (not (has_number m.requested number)) (ap asks_for_request is ∙ ap asks_by l.0) asks
licensed_needs catalog m queue number part G.True is l asks = absurd (never (sym l.2 ∙ asks))
  where
    never : false ≡ true → ⊥
    never e = cc
licensed_needs catalog m queue number part G.Shadow is l asks = absurd l
licensed_needs catalog m queue number part G.Before is l asks =
    asks_none (asks_for_request (part_at Dxe catalog number)) (not (has_number m.requested number))
    (ap asks_for_request is ∙ before_asks_none (driver_named catalog m) part.expr l.0 (sym (ap (λ o. option_and_then (driver_named catalog m) (option_and_then (λ (p : Part). before_of p.expr) o)) is) ∙ l.1)) asks
licensed_needs catalog m queue number part G.After is l asks =
    asks_none (asks_for_request (part_at Dxe catalog number)) (not (has_number m.requested number))
    (ap asks_for_request is ∙ after_asks_none (driver_named catalog m) part.expr l.0 (sym (ap (λ o. option_and_then (driver_named catalog m) (option_and_then (λ (p : Part). after_of p.expr) o)) is) ∙ l.1)) asks

members_need : (catalog : Catalog) (m : DxeMachine) (queue group : List Scheduled) → Each (IsMember catalog m queue) group → Each (NeedsNone catalog m.requested) (numbers_of group)
members_need catalog m queue [] e = tt
members_need catalog m queue (next ∷ group) e = (licensed_needs catalog m (numbers_of queue) next.module_number e.0.0 next.licence e.0.1 e.0.2, members_need catalog m queue group e.1)

-- the queue from which a driver starts
group_settled : (catalog : Catalog) (m : DxeMachine) (queue group : List Scheduled) → Each (NeedsNone catalog m.requested) (numbers_of group) → AreSettled catalog m.discovered m.requested (numbers_of queue ++ m.started)
    → AreSettled catalog m.discovered m.requested (numbers_of (queue_from queue group) ++ m.started)
group_settled catalog m [] group needs s = record {
  ranked = λ number is rank. has_back (numbers_of group) m.started number (s.ranked number is rank);
  needs = each_append (NeedsNone catalog m.requested) (numbers_of group) m.started needs s.needs;
}
group_settled catalog m (first ∷ rest) group needs s = s

queue_settled : (catalog : Catalog) (m : DxeMachine) → IsSettled catalog m → AreSettled catalog m.discovered m.requested (numbers_of (driver_queue catalog m) ++ m.started)
queue_settled catalog m s =
    let group = group_scheduled catalog m (first_eligible catalog m) in
    group_settled catalog m m.scheduled group (members_need catalog m group group (schedules_licensed catalog m)) s

-- the first of the queue has started
head_moved : (x n : ℕ) (queue started : List ℕ) → has_number (x ∷ (queue ++ started)) n ≡ true → has_number (queue ++ x ∷ started) n ≡ true
head_moved x n queue started h =
    split (has_number (queue ++ x ∷ started) n ≡ true) (x ∷ []) (queue ++ started) n (λ e. has_back queue (x ∷ started) n (has_front (x ∷ []) started n e))
    (split (has_number (queue ++ x ∷ started) n ≡ true) queue started n (λ e. has_front queue (x ∷ started) n e) (λ e. has_back queue (x ∷ started) n (has_later (x == n) (has_number started n) e))) h

head_settled : (catalog : Catalog) (discovered requested : List ℕ) (x : ℕ) (queue started : List ℕ) → AreSettled catalog discovered requested (x ∷ (queue ++ started)) → AreSettled catalog discovered requested (queue ++ x ∷ started)
head_settled catalog discovered requested x queue started s =
    let parts = both_parts (NeedsNone catalog requested) queue started s.needs.1 in
    record { ranked = λ number is rank. head_moved x number queue started (s.ranked number is rank); needs = each_append (NeedsNone catalog requested) queue (x ∷ started) parts.0 (s.needs.0, parts.1) }

-- a number that is no driver's left it
not_that : (catalog : Catalog) (x number : ℕ) (rest : List ℕ) (here : Bool) → (x == number) ≡ here → part_at Dxe catalog x ≡ None → is_some (part_at Dxe catalog number) ≡ true → (here || has_number rest number) ≡ true → has_number rest number ≡ true
not_that catalog x number rest true e none some h =
    absurd (never (sym (ap is_some (ap (part_at Dxe catalog) (sym (is_equal x number e)) ∙ none)) ∙ some))
  where
    never : false ≡ true → ⊥
    never e = cc
not_that catalog x number rest false e none some h = h

head_left : (catalog : Catalog) (discovered requested : List ℕ) (x : ℕ) (rest : List ℕ) → part_at Dxe catalog x ≡ None → AreSettled catalog discovered requested (x ∷ rest) → AreSettled catalog discovered requested rest
head_left catalog discovered requested x rest none s =
    record { ranked = λ number is rank. not_that catalog x number rest (x == number) refl none is.0 (s.ranked number is rank); needs = s.needs.1 }

start_settled : (catalog : Catalog) (m : DxeMachine) (next : Scheduled) (queue : List Scheduled) (part : Option Part) → part_at Dxe catalog next.module_number ≡ part
    → AreSettled catalog m.discovered m.requested (next.module_number ∷ (numbers_of queue ++ m.started)) → IsSettled catalog (driver_started catalog m next queue part)
start_settled catalog m next queue None e s = head_left catalog m.discovered m.requested next.module_number (numbers_of queue ++ m.started) e s
start_settled catalog m next queue (Some part) e s = head_settled catalog m.discovered m.requested next.module_number (numbers_of queue) m.started s

-- each step keeps it
same_settled : (catalog : Catalog) (old new : DxeMachine) → new.discovered ≡ old.discovered → new.scheduled ≡ old.scheduled → new.started ≡ old.started → BeginsWith old.requested new.requested → IsSettled catalog old → IsSettled catalog new
same_settled catalog old new d q t r s =
    requests_settled catalog new.discovered old.requested new.requested (gone new) r
    (rw d (rw q (rw t s)))

follows_settled : (catalog : Catalog) (old new : DxeMachine) → IsWellFormed catalog → Follows catalog old new → BeginsWith old.requested new.requested → IsSettled catalog old → IsSettled catalog new
follows_settled catalog old new well (inl h) r s = same_settled catalog old new h.discovered h.scheduled h.started r s
follows_settled catalog old new well (inr h) r s =
    let fresh = newcomers catalog old.discovered (Some h.0) in
    subst (IsSettled catalog) (sym h.1)
    (subst (λ queue. AreSettled catalog (old.discovered ++ fresh) old.requested (queue ++ old.started)) (sym (numbers_of_append old.scheduled (a_priori_drivers catalog fresh)))
    (volumes_settled catalog old.discovered fresh old.requested (numbers_of old.scheduled) old.started well s))

effect_settled : (catalog : Catalog) (m : DxeMachine) (frame : DriverFrame) (below : List DriverFrame) (e : DxeEffect) → IsWellFormed catalog → EffectFollows catalog m e → EffectKeeps m frame e → IsSettled catalog m
    → IsSettled catalog (after_dxe_effect m frame below e)
effect_settled catalog m frame below (Wrote registers status) well f k s = s
effect_settled catalog m frame below (Called name reply) well f k s = follows_settled catalog m reply.machine well f k.requested s
effect_settled catalog m frame below (Logged text) well f k s = s
effect_settled catalog m frame below (Skipped n) well f k s = s
effect_settled catalog m frame below (Returned status) well f k s = s
effect_settled catalog m frame below (Own own) well f k s = absurd own

either_settled : (catalog : Catalog) (b : Bool) (one other : DxeMachine) → IsSettled catalog one → IsSettled catalog other → IsSettled catalog (cond b one other)
either_settled catalog true one other h k = h
either_settled catalog false one other h k = k

case_settled : (catalog : Catalog) (fuel : ℕ) (m : DxeMachine) (case : DxeCase) → IsWellFormed catalog → dxe_case_of catalog m ≡ case → IsSettled catalog m → IsSettled catalog (in_dxe_case catalog fuel m case)
case_settled catalog fuel m (DxeFires note sweep frame below) well e s =
    either_settled catalog (nat_le 64 (length m.frames)) (record m { ended = Some DxeEnds.Deep }) (protocol_begun catalog m note sweep frame below) s s
case_settled catalog fuel m (DxeActs frame below) well e s =
    let does : DxeEffect = dxe_effect catalog (with_action m) frame (dxe_action_at catalog frame) in
    either_settled catalog (nat_le fuel m.actions) (record m { ended = Some DxeEnds.Spent }) (after_dxe_effect (with_action m) frame below does) s
    (effect_settled catalog (with_action m) frame below does well (effect_follows catalog (with_action m) frame (dxe_action_at catalog frame)) (effect_keeps catalog (with_action m) frame (dxe_action_at catalog frame)) s)
case_settled catalog fuel m (DxeStarts next queue) well e s =
    let is = starts_from catalog m m.frames next queue e in
    start_settled catalog m next queue (part_at Dxe catalog next.module_number) refl (subst (λ q. AreSettled catalog m.discovered m.requested (numbers_of q ++ m.started)) is.1 (queue_settled catalog m s))
case_settled catalog fuel m DxeStops well e s = s

run_settled : (catalog : Catalog) (fuel n : ℕ) (m : DxeMachine) → IsWellFormed catalog → IsSettled catalog m → IsSettled catalog (dxe_run catalog fuel n m)
run_settled catalog fuel zero m well s = s
run_settled catalog fuel (suc n) m well s =
    elim m.ended as (λ o. IsSettled catalog (elim o as (λ _. DxeMachine) [ Some end ↦ m | None ↦ dxe_run catalog fuel n (dxe_step catalog fuel m) ]))
    [ Some end ↦ s | None ↦ run_settled catalog fuel n (dxe_step catalog fuel m) well (case_settled catalog fuel m (dxe_case_of catalog m) well refl s) ]

none_settled : (catalog : Catalog) → AreSettled catalog [] [] ([] ++ [])
none_settled catalog = record { ranked = λ number is rank. absurd (never is.1); needs = tt }
  where
    never : false ≡ true → ⊥
    never e = cc

opens_settled : (catalog : Catalog) (s : StoreState) (actions : ℕ) → IsWellFormed catalog → IsSettled catalog (dxe_opening catalog s actions)
opens_settled catalog s actions well = volumes_settled catalog [] (discoveries catalog [] (fv_bases s)) [] [] [] well (none_settled catalog)

-- who waits
any_number : (queue : List Scheduled) (n : ℕ) → list_any (λ next. next.module_number == n) queue ≡ has_number (numbers_of queue) n
any_number [] n = refl
any_number (next ∷ queue) n = ap (λ b. (next.module_number == n) || b) (any_number queue n)

has_both : (xs ys : List ℕ) (n : ℕ) → has_number (xs ++ ys) n ≡ (has_number xs n || has_number ys n)
has_both [] ys n = refl
has_both (x ∷ xs) ys n = ap (λ b. (x == n) || b) (has_both xs ys n) ∙ sym (or_assoc (x == n) (has_number xs n) (has_number ys n))
  where
    or_assoc : (a b c : Bool) → ((a || b) || c) ≡ (a || (b || c))
    or_assoc true b c = refl
    or_assoc false b c = refl

not_or : (a b : Bool) → (not a && not b) ≡ not (a || b)
not_or true b = refl
not_or false b = refl

waits_is : (m : DxeMachine) (n : ℕ) → is_waiting m n ≡ not (has_number (gone m) n)
waits_is m n =
    ap (λ b. not b && not (has_number m.started n)) (any_number m.scheduled n) ∙ not_or (has_number (numbers_of m.scheduled) n) (has_number m.started n) ∙ ap not (sym (has_both (numbers_of m.scheduled) m.started n))

wait_by : (rank : Option ℕ) (b : Bool) → (is_some rank ≡ true → b ≡ true) → (b ≡ true → is_some rank ≡ true) → not b ≡ is_none rank
wait_by None true f g = let some = g refl in cc
wait_by None false f g = refl
wait_by (Some r) true f g = refl
wait_by (Some r) false f g = let there = f refl in cc

wait_for : (catalog : Catalog) (m : DxeMachine) → IsSettled catalog m → (number : ℕ) → IsDiscovered catalog m number → is_unrequested catalog m number ≡ true → is_waiting m number ≡ is_none (rank_at Dxe catalog number)
wait_for catalog m s number is asks =
    waits_is m number
    ∙ wait_by (rank_at Dxe catalog number) (has_number (gone m) number) (s.ranked number is) (λ there. each_at (NeedsNone catalog m.requested) (gone m) number s.needs there asks)

-- the first that waits is the first of those without a rank
find_filtered_step : (p : ℕ → Bool) (x : ℕ) (xs : List ℕ) (b : Bool) (found : Option ℕ) → find p xs ≡ found → find p (cond b (x ∷ xs) xs) ≡ cond (b && p x) (Some x) found
find_filtered_step p x xs true found e = ap (λ f. cond (p x) (Some x) f) e
find_filtered_step p x xs false found e = e

pub find_filtered : (p q r : ℕ → Bool) (xs : List ℕ) → Each (λ x. (q x && p x) ≡ (r x && p x)) xs → find p (filter q xs) ≡ find (λ x. r x && p x) xs
find_filtered p q r [] e = refl
find_filtered p q r (x ∷ xs) e =
    find_filtered_step p x (filter q xs) (q x) (find (λ x. r x && p x) xs) (find_filtered p q r xs e.1) ∙ ap (λ b. cond b (Some x) (find (λ x. r x && p x) xs)) e.0

pub alike : (unrequested same waits none : Bool) → (unrequested ≡ true → waits ≡ none) → (waits && (unrequested && same)) ≡ (none && (unrequested && same))
alike true same waits none f = ap (λ b. b && same) (f refl)
alike false same waits none f = both_false waits none
  where
    and_false : (b : Bool) → (b && false) ≡ false
    and_false true = refl
    and_false false = refl

    both_false : (a b : Bool) → (a && false) ≡ (b && false)
    both_false a b = and_false a ∙ sym (and_false b)

pub unrequested_drivers_wait : UnrequestedDriversWait
unrequested_drivers_wait catalog well fuel n s actions =
    let m = dxe_run catalog fuel n (dxe_opening catalog s actions) in
    let settled = run_settled catalog fuel n (dxe_opening catalog s actions) well (opens_settled catalog s actions well) in
    record {
      wait = wait_for catalog m settled;
      named = λ name.
          find_filtered (λ number. is_unrequested catalog m number && same_guid (module_name catalog number) name) (is_waiting m) (λ number. is_none (rank_at Dxe catalog number)) (discovered_order catalog m)
          (each_more (IsDiscovered catalog m) (λ number. (is_waiting m number && (is_unrequested catalog m number && same_guid (module_name catalog number) name)) ≡ (is_none (rank_at Dxe catalog number) && (is_unrequested catalog m number && same_guid (module_name catalog number) name))) (discovered_order catalog m)
          (λ number is. alike (is_unrequested catalog m number) (same_guid (module_name catalog number) name) (is_waiting m number) (is_none (rank_at Dxe catalog number)) (wait_for catalog m settled number is))
          (known_of catalog (parts_in Dxe catalog) (drivers_are catalog) m.discovered));
    }
