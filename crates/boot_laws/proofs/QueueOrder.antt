-- A step puts new drivers behind the queue or starts its head, so what stands in a queue starts in order.
use Rattle.std.proofs.Common.{◌≡◌, ℕ, zero, suc, Bool, true, false, cond, ◌||◌, List, [], ◌∷◌, ◌++◌, length, Option, Some, None, refl, sym, ap, subst, ◌∙◌, inl, inr, ◌⊎◌, is_some, nat_le, append_assoc, arith, ◌≢◌, ◌==◌, reverse}
use Rattle.std.proofs.{lemmas.Bool.Decides.nat_tests, lemmas.Grind.reverse_onto}
use Rattle.pi_base.specs.{declared.phase.Phase.TheVariants.Dxe, Lists.Each}
use Rattle.mod_catalog.specs.{declared.catalogue.Catalog.Catalog, declared.catalogue.Part.Part, Parts.has_number, Parts.part_at}
use Rattle.mod_catalog.specs.WellFormed.{AreNumbered}
use Rattle.boot_model.specs.{declared.driver.Scheduled.Scheduled, declared.phase_end.DxeEnd.DxeEnd, Reporting.newcomers}
use Rattle.boot_model.specs.declared.phase_end.DxeEnd.TheVariants as DxeEnds
use Rattle.boot_model.specs.{DxeMachine.DxeMachine, DxeMachine.DriverFrame, DxeRun.dxe_run, DxeRun.dxe_opening}
use Rattle.boot_model.specs.DxeChoice.{a_priori_drivers, driver_queue, head_of, queue_from}
use Rattle.boot_model.specs.DxeAction.{DxeEffect, Wrote, Called, Logged, Skipped, Returned, Own, dxe_effect}
use Rattle.boot_model.specs.DxeStep.{DxeCase, DxeFires, DxeActs, DxeStarts, DxeStops, dxe_case_in, dxe_case_of, in_dxe_case, dxe_step, protocol_begun, queue_case, after_dxe_effect, with_action, dxe_action_at, driver_started}
use Rattle.boot_model.specs.DriverLicence.{numbers_of, IsCompanionOf, StandBeside}
use Rattle.boot_model.proofs.ListFacts.{each_append}
use Rattle.boot_model.proofs.Distinct.{Apart, Distinct, is_absent}
use Rattle.boot_laws.specs.DriverLicences.{group_of}
use Rattle.boot_laws.specs.QueueOrder.{starts, HasJoined, HasStarted, KeepsOrder, QueuesKeepTheirOrder, PartHasStarted, StartsInOrder, QueuesStartInOrder, CompanionsStartBeside}
use Rattle.boot_laws.proofs.Queue.{AreQueued, IsQueued, next_queued, numbers_of_append}
use Rattle.boot_laws.proofs.DriverActions.{Follows, EffectFollows, effect_follows}
use Rattle.boot_laws.proofs.DxeCases.{starts_from}
use Rattle.boot_laws.proofs.DxeOnce.{queue_is, case_queued, run_queued, opens_queued}

to_end : {A : Type 0} (xs : List A) → xs ≡ xs ++ []
to_end [] = refl
to_end (x ∷ xs) = ap (λ l. x ∷ l) (to_end xs)

-- nothing came, and nothing started
same : (old new : DxeMachine) → new.scheduled ≡ old.scheduled → new.started ≡ old.started → HasJoined old new
same old new queue started = record { more = []; queue = queue ∙ to_end old.scheduled; started = started }

follows_join : (catalog : Catalog) (old new : DxeMachine) → Follows catalog old new → HasJoined old new
follows_join catalog old new (inl h) = same old new h.scheduled h.started
follows_join catalog old new (inr h) =
    record { more = a_priori_drivers catalog (newcomers catalog old.discovered (Some h.0)); queue = ap (λ m. m.scheduled) h.1; started = ap (λ m. m.started) h.1 }

effect_joins : (catalog : Catalog) (m : DxeMachine) (frame : DriverFrame) (below : List DriverFrame) (e : DxeEffect) → EffectFollows catalog m e → HasJoined m (after_dxe_effect m frame below e)
effect_joins catalog m frame below (Wrote registers status) f = same m _ refl refl
effect_joins catalog m frame below (Called name reply) f = let h = follows_join catalog m reply.machine f in record { more = h.more; queue = h.queue; started = h.started }
effect_joins catalog m frame below (Logged text) f = same m _ refl refl
effect_joins catalog m frame below (Skipped n) f = same m _ refl refl
effect_joins catalog m frame below (Returned status) f = same m _ refl refl
effect_joins catalog m frame below (Own own) f = absurd own

either_joins : (m : DxeMachine) (b : Bool) (one other : DxeMachine) → HasJoined m one → HasJoined m other → HasJoined m (cond b one other)
either_joins m true one other h k = h
either_joins m false one other h k = k

start_keeps : (catalog : Catalog) (m : DxeMachine) (next : Scheduled) (queue : List Scheduled) (part : Option Part) → is_some part ≡ true → m.frames ≡ [] → driver_queue catalog m ≡ next ∷ queue
    → HasStarted catalog m (driver_started catalog m next queue part)
start_keeps catalog m next queue None some idle is = cc
start_keeps catalog m next queue (Some part) some idle is = record { next = next; idle = idle; queue = is; started = refl }

starts_keep : (catalog : Catalog) (m : DxeMachine) (next : Scheduled) (queue : List Scheduled) → dxe_case_of catalog m ≡ DxeStarts next queue → IsQueued catalog m
    → HasStarted catalog m (driver_started catalog m next queue (part_at Dxe catalog next.module_number))
starts_keep catalog m next queue e q =
    let is = starts_from catalog m m.frames next queue e in
    start_keeps catalog m next queue (part_at Dxe catalog next.module_number) (queue_is catalog m next queue e q).queue_known.0.0 is.0 is.1

case_keeps : (catalog : Catalog) (fuel : ℕ) (m : DxeMachine) (case : DxeCase) → dxe_case_of catalog m ≡ case → IsQueued catalog m → KeepsOrder catalog m (in_dxe_case catalog fuel m case)
case_keeps catalog fuel m (DxeFires note sweep frame below) e q =
    inl (either_joins m (nat_le 64 (length m.frames)) (record m { ended = Some DxeEnds.Deep }) (protocol_begun catalog m note sweep frame below) (same m _ refl refl) (same m _ refl refl))
case_keeps catalog fuel m (DxeActs frame below) e q =
    let does : DxeEffect = dxe_effect catalog (with_action m) frame (dxe_action_at catalog frame) in
    let h = effect_joins catalog (with_action m) frame below does (effect_follows catalog (with_action m) frame (dxe_action_at catalog frame)) in
    inl (either_joins m (nat_le fuel m.actions) (record m { ended = Some DxeEnds.Spent }) (after_dxe_effect (with_action m) frame below does) (same m _ refl refl)
    (record { more = h.more; queue = h.queue; started = h.started }))
case_keeps catalog fuel m (DxeStarts next queue) e q = inr (starts_keep catalog m next queue e q)
case_keeps catalog fuel m DxeStops e q = inl (same m _ refl refl)

queued : (catalog : Catalog) (fuel steps : ℕ) (s : _) (actions : ℕ) → AreNumbered 0 catalog.volumes → IsQueued catalog (dxe_run catalog fuel steps (dxe_opening catalog s actions))
queued catalog fuel steps s actions numbered = run_queued catalog fuel steps (dxe_opening catalog s actions) numbered (opens_queued catalog s actions numbered)

pub queues_keep_their_order : QueuesKeepTheirOrder
queues_keep_their_order catalog numbered fuel steps s actions =
    let m = dxe_run catalog fuel steps (dxe_opening catalog s actions) in case_keeps catalog fuel m (dxe_case_of catalog m) refl (queued catalog fuel steps s actions numbered)

-- one driver more has started
one_more : (catalog : Catalog) (m new : DxeMachine) (h : HasStarted catalog m new) → starts new ≡ starts m ++ h.next.module_number ∷ []
one_more catalog m new h = ap reverse h.started ∙ reverse_onto m.started h.next.module_number []

joined_on : (queue : List Scheduled) (old m new : DxeMachine) → StartsInOrder queue old m → HasJoined m new → StartsInOrder queue old new
joined_on queue old m new (inl p) j = inl (record {
  begun = p.begun;
  left = p.left;
  more = p.more ++ j.more;
  split = p.split;
  started = ap reverse j.started ∙ p.started;
  queue_is = j.queue ∙ ap (λ q. q ++ j.more) p.queue_is ∙ append_assoc p.left p.more j.more;
})
joined_on queue old m new (inr a) j = inr (record { later = a.later; started = ap reverse j.started ∙ a.started })

heads : (a b : Scheduled) (xs ys : List Scheduled) → a ∷ xs ≡ b ∷ ys → (a ≡ b) × (xs ≡ ys)
heads a b xs ys e = let one : a ≡ b = cc in let rest : xs ≡ ys = cc in (one, rest)

by_left : (catalog : Catalog) (queue : List Scheduled) (old m new : DxeMachine) (begun left more : List Scheduled) → queue ≡ begun ++ left → starts m ≡ starts old ++ numbers_of begun → m.scheduled ≡ left ++ more
    → HasStarted catalog m new → StartsInOrder queue old new
by_left catalog queue old m new begun [] more split started queue_is h =
    let all : begun ≡ queue = to_end begun ∙ sym split in
    inr (record {
      later = h.next.module_number ∷ [];
      started = one_more catalog m new h ∙ ap (λ l. l ++ h.next.module_number ∷ []) (started ∙ ap (λ b. starts old ++ numbers_of b) all)
          ∙ append_assoc (starts old) (numbers_of queue) (h.next.module_number ∷ []);
    })
by_left catalog queue old m new begun (x ∷ left) more split started queue_is h =
    let is : driver_queue catalog m ≡ x ∷ (left ++ more) = ap (λ q. queue_from q (group_of catalog m)) queue_is in
    let both = heads h.next x new.scheduled (left ++ more) (sym h.queue ∙ is) in
    inl (record {
      begun = begun ++ x ∷ [];
      left = left;
      more = more;
      split = split ∙ sym (append_assoc begun (x ∷ []) left);
      started = one_more catalog m new h ∙ ap (λ l. l ++ h.next.module_number ∷ []) started ∙ append_assoc (starts old) (numbers_of begun) (h.next.module_number ∷ [])
          ∙ ap (λ (y : Scheduled). starts old ++ (numbers_of begun ++ y.module_number ∷ [])) both.0 ∙ ap (λ ns. starts old ++ ns) (sym (numbers_of_append begun (x ∷ [])));
      queue_is = both.1;
    })

started_on : (catalog : Catalog) (queue : List Scheduled) (old m new : DxeMachine) → StartsInOrder queue old m → HasStarted catalog m new → StartsInOrder queue old new
started_on catalog queue old m new (inl p) h = by_left catalog queue old m new p.begun p.left p.more p.split p.started p.queue_is h
started_on catalog queue old m new (inr a) h = inr (record {
  later = a.later ++ h.next.module_number ∷ [];
  started = one_more catalog m new h ∙ ap (λ l. l ++ h.next.module_number ∷ []) a.started ∙ append_assoc (starts old) (numbers_of queue ++ a.later) (h.next.module_number ∷ [])
      ∙ ap (λ l. starts old ++ l) (append_assoc (numbers_of queue) a.later (h.next.module_number ∷ []));
})

kept_on : (catalog : Catalog) (queue : List Scheduled) (old m new : DxeMachine) → StartsInOrder queue old m → KeepsOrder catalog m new → StartsInOrder queue old new
kept_on catalog queue old m new t (inl h) = joined_on queue old m new t h
kept_on catalog queue old m new t (inr h) = started_on catalog queue old m new t h

run_on : (catalog : Catalog) (fuel more : ℕ) (queue : List Scheduled) (old m : DxeMachine) → AreNumbered 0 catalog.volumes → IsQueued catalog m → StartsInOrder queue old m → StartsInOrder queue old (dxe_run catalog fuel more m)
run_on catalog fuel zero queue old m numbered q t = t
run_on catalog fuel (suc more) queue old m numbered q t =
    elim m.ended as (λ o. StartsInOrder queue old (elim o as (λ _. DxeMachine) [ Some end ↦ m | None ↦ dxe_run catalog fuel more (dxe_step catalog fuel m) ])) [
      | Some end ↦ t
      | None ↦ run_on catalog fuel more queue old (dxe_step catalog fuel m) numbered (case_queued catalog fuel m (dxe_case_of catalog m) numbered refl q) (kept_on catalog queue old m (dxe_step catalog fuel m) t (case_keeps catalog fuel m (dxe_case_of catalog m) refl q))
    ]

pub queues_start_in_order : QueuesStartInOrder
queues_start_in_order catalog numbered fuel steps more s actions =
    let m = dxe_run catalog fuel steps (dxe_opening catalog s actions) in
    let none : PartHasStarted m.scheduled m m = record { begun = []; left = m.scheduled; more = []; split = refl; started = to_end (starts m); queue_is = to_end m.scheduled } in
    run_on catalog fuel more m.scheduled m m numbered (queued catalog fuel steps s actions numbered) (inl none)

-- where nothing runs and a group is there, its head starts
idle_starts : (catalog : Catalog) (fuel : ℕ) (m : DxeMachine) (x : Scheduled) (rest : List Scheduled) → IsQueued catalog m → m.frames ≡ [] → driver_queue catalog m ≡ x ∷ rest → HasStarted catalog m (dxe_step catalog fuel m)
idle_starts catalog fuel m x rest q idle is =
    let case : dxe_case_of catalog m ≡ DxeStarts x rest = ap (dxe_case_in catalog m) idle ∙ ap (λ q. queue_case (head_of q)) is in
    subst (λ c. HasStarted catalog m (in_dxe_case catalog fuel m c)) (sym case) (starts_keep catalog m x rest case q)

head_on : (catalog : Catalog) (fuel : ℕ) (m : DxeMachine) (queue : List Scheduled) → queue ≡ driver_queue catalog m → HasStarted catalog m (dxe_step catalog fuel m) → StartsInOrder queue m (dxe_step catalog fuel m)
head_on catalog fuel m queue is h =
    inl (record { begun = h.next ∷ []; left = (dxe_step catalog fuel m).scheduled; more = []; split = is ∙ h.queue; started = one_more catalog m (dxe_step catalog fuel m) h; queue_is = to_end _ })

-- a number in lists
either_of : (a b : Bool) → (a || b) ≡ true → (a ≡ true) ⊎ (b ≡ true)
either_of true b h = inl refl
either_of false b h = inr h

among : (xs ys : List ℕ) (n : ℕ) → has_number (xs ++ ys) n ≡ true → (has_number xs n ≡ true) ⊎ (has_number ys n ≡ true)
among [] ys n h = inr h
among (x ∷ xs) ys n h = elim (either_of (x == n) (has_number (xs ++ ys) n) h) [ inl here ↦ inl (ap (λ b. b || has_number xs n) here) | inr later ↦ elim (among xs ys n later) [ inl there ↦ inl (later_true (x == n) (has_number xs n) there) | inr there ↦ inr there ] ]
  where
    later_true : (a b : Bool) → b ≡ true → (a || b) ≡ true
    later_true true b h = refl
    later_true false b h = h

each_reversed : (P : ℕ → Type 0) (xs : List ℕ) → Each P xs → Each P (reverse xs)
each_reversed P [] h = tt
each_reversed P (x ∷ xs) h = subst (Each P) (sym (reverse_onto xs x [])) (each_append P (reverse xs) (x ∷ []) (each_reversed P xs h.1) (h.0, tt))

member : (front back : List ℕ) (P : ℕ → Type 0) (x : ℕ) → Each P (front ++ x ∷ back) → P x
member [] back P x h = h.0
member (y ∷ front) back P x h = member front back P x h.1

-- a front of distinct numbers that has one of them has all those before it
is_other : (x y : ℕ) (later : Bool) → x ≢ y → ((x == y) || later) ≡ true → later ≡ true
is_other x y later other h = elim (either_of (x == y) later h) [ inl here ↦ absurd (other (grind (arith, nat_tests, here))) | inr there ↦ there ]

front_has : (begun left front back : List ℕ) (x : ℕ) → begun ++ left ≡ front ++ x ∷ back → Distinct (front ++ x ∷ back) → has_number begun x ≡ true → (rest : List ℕ) × (begun ≡ front ++ x ∷ rest)
front_has [] left front back x e d h = cc
front_has (y ∷ begun) left [] back x e d h = let same : y ≡ x = cc in (begun, ap (λ z. z ∷ begun) same)
front_has (y ∷ begun) left (z ∷ front) back x e d h =
    let same : y ≡ z = cc in
    let on : begun ++ left ≡ front ++ x ∷ back = cc in
    let other : z ≢ x = member front back (λ w. z ≢ w) x d.0 in
    let there : has_number begun x ≡ true = is_other y x (has_number begun x) (subst (λ w. w ≢ x) (sym same) other) h in
    let found = front_has begun left front back x on d.1 there in (found.0, ap (λ w. w ∷ begun) same ∙ ap (λ l. z ∷ l) found.1)

-- a group in which two stand beside one another is no empty one
no_group : (catalog : Catalog) (m : DxeMachine) (first second : ℕ) → StandBeside catalog m [] first second → ⊥
no_group catalog m first second h = none h.front (h.between ++ second ∷ h.back) h.split
  where
    none : (front rest : List ℕ) → [] ≡ front ++ first ∷ rest → ⊥
    none [] rest e = cc
    none (x ∷ front) rest e = cc

-- where they stand in the starts
placed : (catalog : Catalog) (m : DxeMachine) (whole base front between back : List ℕ) (first second : ℕ) → whole ≡ base ++ ((front ++ first ∷ between) ++ second ∷ back)
    → Each (λ n. IsCompanionOf catalog m first n ⊎ IsCompanionOf catalog m second n) between → StandBeside catalog m whole first second
placed catalog m whole base front between back first second e companions = record {
  front = base ++ front;
  between = between;
  back = back;
  split = e ∙ ap (λ l. base ++ l) (append_assoc front (first ∷ between) (second ∷ back)) ∙ sym (append_assoc base front (first ∷ (between ++ second ∷ back)));
  companions = companions;
}

-- the drivers of a group have not started
never_before : (catalog : Catalog) (m : DxeMachine) (group : List Scheduled) (first second : ℕ) → AreQueued catalog m.discovered (numbers_of group) m.started → StandBeside catalog m (numbers_of group) first second
    → has_number (starts m) second ≡ false
never_before catalog m group first second q h =
    let whole : numbers_of group ≡ (h.front ++ first ∷ h.between) ++ second ∷ h.back = h.split ∙ sym (append_assoc h.front (first ∷ h.between) (second ∷ h.back)) in
    let apart : Apart second m.started = member (h.front ++ first ∷ h.between) h.back (λ x. Apart x m.started) second (subst (λ ns. Each (λ x. Apart x m.started) ns) whole q.apart) in
    is_absent (starts m) second (each_reversed (λ y. second ≢ y) m.started apart)

only_new : (old new : Bool) → old ≡ false → (old ≡ true) ⊎ (new ≡ true) → new ≡ true
only_new old new none (inl h) = cc
only_new old new none (inr h) = h

beside_on : (catalog : Catalog) (m later : DxeMachine) (group : List Scheduled) (first second : ℕ) → AreQueued catalog m.discovered (numbers_of group) m.started → StartsInOrder group m later
    → StandBeside catalog m (numbers_of group) first second → has_number (starts later) second ≡ true → StandBeside catalog m (starts later) first second
beside_on catalog m later group first second q (inl p) h there =
    let front = h.front ++ first ∷ h.between in
    let whole : numbers_of group ≡ front ++ second ∷ h.back = h.split ∙ sym (append_assoc h.front (first ∷ h.between) (second ∷ h.back)) in
    let split : numbers_of p.begun ++ numbers_of p.left ≡ front ++ second ∷ h.back = sym (numbers_of_append p.begun p.left) ∙ ap numbers_of (sym p.split) ∙ whole in
    let either = among (starts m) (numbers_of p.begun) second (subst (λ l. has_number l second ≡ true) p.started there) in
    let begun = only_new (has_number (starts m) second) (has_number (numbers_of p.begun) second) (never_before catalog m group first second q h) either in
    let found = front_has (numbers_of p.begun) (numbers_of p.left) front h.back second split (subst Distinct whole q.queue_differs) begun in
    placed catalog m (starts later) (starts m) h.front h.between found.0 first second (p.started ∙ ap (λ l. starts m ++ l) found.1) h.companions
beside_on catalog m later group first second q (inr a) h there =
    let front = h.front ++ first ∷ h.between in
    let whole : numbers_of group ≡ front ++ second ∷ h.back = h.split ∙ sym (append_assoc h.front (first ∷ h.between) (second ∷ h.back)) in
    placed catalog m (starts later) (starts m) h.front h.between (h.back ++ a.later) first second
    (a.started ∙ ap (λ l. starts m ++ l) (ap (λ l. l ++ a.later) whole ∙ append_assoc front (second ∷ h.back) a.later)) h.companions

group_starts : (catalog : Catalog) (fuel : ℕ) (m : DxeMachine) (group : List Scheduled) (first second : ℕ) → IsQueued catalog m → m.frames ≡ [] → group ≡ driver_queue catalog m
    → StandBeside catalog m (numbers_of group) first second → HasStarted catalog m (dxe_step catalog fuel m)
group_starts catalog fuel m [] first second q idle is h = absurd (no_group catalog m first second h)
group_starts catalog fuel m (x ∷ rest) first second q idle is h = idle_starts catalog fuel m x rest q idle (sym is)

beside_later : (catalog : Catalog) (fuel more : ℕ) (m : DxeMachine) (group : List Scheduled) (first second : ℕ) → AreNumbered 0 catalog.volumes → IsQueued catalog m
    → AreQueued catalog m.discovered (numbers_of group) m.started → m.frames ≡ [] → group ≡ driver_queue catalog m → StandBeside catalog m (numbers_of group) first second
    → has_number (starts (dxe_run catalog fuel more m)) second ≡ true → StandBeside catalog m (starts (dxe_run catalog fuel more m)) first second
beside_later catalog fuel zero m group first second numbered q all idle is h there = let none = never_before catalog m group first second all h in cc
beside_later catalog fuel (suc more) m group first second numbered q all idle is h there =
    let none = never_before catalog m group first second all h in
    let next = dxe_step catalog fuel m in
    let began = head_on catalog fuel m group is (group_starts catalog fuel m group first second q idle is h) in
    let track = run_on catalog fuel more group m next numbered (case_queued catalog fuel m (dxe_case_of catalog m) numbered refl q) began in
    let run : Option DxeEnd → DxeMachine = λ o. elim o as (λ _. DxeMachine) [ Some end ↦ m | None ↦ dxe_run catalog fuel more next ] in
    (elim m.ended as (λ o. has_number (starts (run o)) second ≡ true → StandBeside catalog m (starts (run o)) first second) [
      | Some end ↦ λ already. never_both (has_number (starts m) second) none already
      | None ↦ λ now. beside_on catalog m (dxe_run catalog fuel more next) group first second all track h now
    ])
    there
  where
    never_both : {A : Type 0} (b : Bool) → b ≡ false → b ≡ true → A
    never_both b e f = cc

pub companions_start_beside : CompanionsStartBeside
companions_start_beside catalog numbered fuel steps more s actions first second idle empty h there =
    let m = dxe_run catalog fuel steps (dxe_opening catalog s actions) in
    let q = queued catalog fuel steps s actions numbered in
    let is : group_of catalog m ≡ driver_queue catalog m = ap (λ w. queue_from w (group_of catalog m)) (sym empty) in
    let all : AreQueued catalog m.discovered (numbers_of (group_of catalog m)) m.started = subst (λ w. AreQueued catalog m.discovered (numbers_of w) m.started) (sym is) (next_queued catalog m q) in
    beside_later catalog fuel more m (group_of catalog m) first second numbered q all idle is h there
