-- What is scheduled with a group starts in its order, so a companion starts next to the driver that it names.
use Rattle.std.proofs.Common.{◌≡◌, ◌≢◌, ◌⊎◌, ℕ, Bool, true, false, ◌||◌, ◌==◌, List, [], ◌∷◌, ◌++◌, Option, Some, None, refl, sym, ap, subst, ◌∙◌, inl, inr, is_some, append_assoc, arith, reverse}
use Rattle.std.proofs.{lemmas.Bool.Decides.nat_tests, lemmas.Grind.reverse_onto}
use Rattle.pi_base.specs.{declared.phase.Phase.TheVariants.Dxe, Lists.Each}
use Rattle.mod_catalog.specs.{declared.catalogue.Catalog.Catalog, declared.catalogue.Part.Part, Parts.has_number, Parts.part_at}
use Rattle.mod_catalog.specs.WellFormed.{AreNumbered}
use Rattle.boot_model.specs.{DxeMachine.DxeMachine, declared.driver.Scheduled.Scheduled, DxeRun.dxe_opening}
use Rattle.boot_model.specs.{DxeStep.driver_started, DxeStep.dxe_case_of, DxeChoice.companion_group, DxeChoice.group_scheduled}
use Rattle.boot_model.specs.DriverLicence.{IsCompanionOf, StandBeside, numbers_of}
use Rattle.boot_model.specs.FreeRun.{IsFreeDxeRun, IsStarted}
use Rattle.boot_model.proofs.ListFacts.{each_append}
use Rattle.boot_model.proofs.Distinct.{Apart, Distinct, is_absent}
use Rattle.boot_laws.specs.DxeUnderWay.{DxeOpensUnderWay, DxeStepsRunOut, IsUnderWay}
use Rattle.boot_laws.specs.QueueOrder.{StartsInOrder, starts}
use Rattle.boot_laws.proofs.DxeWays.{aimed_way, queued_to, way_to}
use Rattle.boot_laws.proofs.Queue.{AreQueued, numbers_of_append}
use Rattle.free_laws.specs.FreeDxe.{BeginsGroup, EachWithRest, FreeCompanionsStartBeside, HaveStartedBeside, NeighboursStartBeside}
use Rattle.free_laws.proofs.FreeGroups.{numbers_are}
use Rattle.free_laws.proofs.QueueSteps.{Heads, IsDue, Joins, step_does, to_end}

-- a driver has started, and the rest of what was due is scheduled
record Began (catalog : Catalog) (m later : DxeMachine) : Type 0 where
  next : Scheduled
  due : IsDue catalog m (next ∷ later.scheduled)
  started : later.started ≡ next.module_number ∷ m.started

-- what is due is of the catalogue, each driver once
due_queued : (catalog : Catalog) (m : DxeMachine) (queue : List Scheduled) → IsUnderWay catalog m → IsDue catalog m queue → AreQueued catalog m.discovered (numbers_of queue) m.started
due_queued catalog m queue way (inl same) = subst (λ q. AreQueued catalog m.discovered (numbers_of q) m.started) same (queued_to catalog m way)
due_queued catalog m queue way (inr from) =
    subst (λ q. AreQueued catalog m.discovered (numbers_of q) m.started) from.3 (aimed_way catalog m from.1 from.2 (way_to catalog m way)).queued

part_began : (catalog : Catalog) (m : DxeMachine) (next : Scheduled) (queue : List Scheduled) (part : Option Part) → is_some part ≡ true → IsDue catalog m (next ∷ queue) → Began catalog m (driver_started catalog m next queue part)
part_began catalog m next queue None some due = cc
part_began catalog m next queue (Some part) some due = record { next = next; due = due; started = refl }

heads_began : (catalog : Catalog) (m later : DxeMachine) → IsUnderWay catalog m → Heads catalog m later → Began catalog m later
heads_began catalog m later way h =
    let known = (due_queued catalog m (h.next ∷ h.queue) way h.due).queue_known in
    subst (Began catalog m) (sym h.later_is) (part_began catalog m h.next h.queue (part_at Dxe catalog h.next.module_number) known.0.0 h.due)

-- one driver more has started
one_more : (catalog : Catalog) (m later : DxeMachine) (h : Began catalog m later) → starts later ≡ starts m ++ h.next.module_number ∷ []
one_more catalog m later h = ap reverse h.started ∙ reverse_onto m.started h.next.module_number []

joined_on : (catalog : Catalog) (queue : List Scheduled) (old m later : DxeMachine) → StartsInOrder queue old m → Joins catalog m later → StartsInOrder queue old later
joined_on catalog queue old m later (inl p) j = inl (record {
  begun = p.begun;
  left = p.left;
  more = p.more ++ j.more;
  split = p.split;
  started = ap reverse j.started ∙ p.started;
  queue_is = j.queue ∙ ap (λ q. q ++ j.more) p.queue_is ∙ append_assoc p.left p.more j.more;
})
joined_on catalog queue old m later (inr a) j = inr (record { later = a.later; started = ap reverse j.started ∙ a.started })

-- what is scheduled is due first
first_due : (catalog : Catalog) (m : DxeMachine) (x : Scheduled) (rest due : List Scheduled) → m.scheduled ≡ x ∷ rest → IsDue catalog m due → due ≡ x ∷ rest
first_due catalog m x rest due is (inl same) = sym same ∙ is
first_due catalog m x rest due is (inr from) = let none : [] ≡ x ∷ rest = sym from.0 ∙ is in cc

heads : (a b : Scheduled) (xs ys : List Scheduled) → a ∷ xs ≡ b ∷ ys → (a ≡ b) × (xs ≡ ys)
heads a b xs ys e = let one : a ≡ b = cc in let rest : xs ≡ ys = cc in (one, rest)

by_left : (catalog : Catalog) (queue : List Scheduled) (old m later : DxeMachine) (begun left more : List Scheduled) → queue ≡ begun ++ left → starts m ≡ starts old ++ numbers_of begun → m.scheduled ≡ left ++ more
    → Began catalog m later → StartsInOrder queue old later
by_left catalog queue old m later begun [] more split started queue_is h =
    let all : begun ≡ queue = to_end begun ∙ sym split in
    inr (record {
      later = h.next.module_number ∷ [];
      started = one_more catalog m later h ∙ ap (λ l. l ++ h.next.module_number ∷ []) (started ∙ ap (λ b. starts old ++ numbers_of b) all)
          ∙ append_assoc (starts old) (numbers_of queue) (h.next.module_number ∷ []);
    })
by_left catalog queue old m later begun (x ∷ left) more split started queue_is h =
    let both = heads h.next x later.scheduled (left ++ more) (first_due catalog m x (left ++ more) (h.next ∷ later.scheduled) queue_is h.due) in
    inl (record {
      begun = begun ++ x ∷ [];
      left = left;
      more = more;
      split = split ∙ sym (append_assoc begun (x ∷ []) left);
      started = one_more catalog m later h ∙ ap (λ l. l ++ h.next.module_number ∷ []) started ∙ append_assoc (starts old) (numbers_of begun) (h.next.module_number ∷ [])
          ∙ ap (λ (y : Scheduled). starts old ++ (numbers_of begun ++ y.module_number ∷ [])) both.0 ∙ ap (λ ns. starts old ++ ns) (sym (numbers_of_append begun (x ∷ [])));
      queue_is = both.1;
    })

began_on : (catalog : Catalog) (queue : List Scheduled) (old m later : DxeMachine) → StartsInOrder queue old m → Began catalog m later → StartsInOrder queue old later
began_on catalog queue old m later (inl p) h = by_left catalog queue old m later p.begun p.left p.more p.split p.started p.queue_is h
began_on catalog queue old m later (inr a) h = inr (record {
  later = a.later ++ h.next.module_number ∷ [];
  started = one_more catalog m later h ∙ ap (λ l. l ++ h.next.module_number ∷ []) a.started ∙ append_assoc (starts old) (numbers_of queue ++ a.later) (h.next.module_number ∷ [])
      ∙ ap (λ l. starts old ++ l) (append_assoc (numbers_of queue) a.later (h.next.module_number ∷ []));
})

step_on : (catalog : Catalog) (queue : List Scheduled) (old m later : DxeMachine) → IsUnderWay catalog m → StartsInOrder queue old m → Joins catalog m later ⊎ Heads catalog m later → StartsInOrder queue old later
step_on catalog queue old m later way t (inl h) = joined_on catalog queue old m later t h
step_on catalog queue old m later way t (inr h) = began_on catalog queue old m later t (heads_began catalog m later way h)

-- a number in lists
either_of : (a b : Bool) → (a || b) ≡ true → (a ≡ true) ⊎ (b ≡ true)
either_of true b h = inl refl
either_of false b h = inr h

later_true : (a b : Bool) → b ≡ true → (a || b) ≡ true
later_true true b h = refl
later_true false b h = h

among : (xs ys : List ℕ) (n : ℕ) → has_number (xs ++ ys) n ≡ true → (has_number xs n ≡ true) ⊎ (has_number ys n ≡ true)
among [] ys n h = inr h
among (x ∷ xs) ys n h =
    elim (either_of (x == n) (has_number (xs ++ ys) n) h) [
      | inl here ↦ inl (ap (λ b. b || has_number xs n) here)
      | inr later ↦ elim (among xs ys n later) [ inl there ↦ inl (later_true (x == n) (has_number xs n) there) | inr there ↦ inr there ]
    ]

each_reversed : (P : ℕ → Type 0) (xs : List ℕ) → Each P xs → Each P (reverse xs)
each_reversed P [] h = tt
each_reversed P (x ∷ xs) h = subst (Each P) (sym (reverse_onto xs x [])) (each_append P (reverse xs) (x ∷ []) (each_reversed P xs h.1) (h.0, tt))

member : (front back : List ℕ) (P : ℕ → Type 0) (x : ℕ) → Each P (front ++ x ∷ back) → P x
member [] back P x h = h.0
member (y ∷ front) back P x h = member front back P x h.1

-- a front of distinct numbers that has one of them has all those before it
is_other : (x y : ℕ) (later : Bool) → x ≢ y → ((x == y) || later) ≡ true → later ≡ true
is_other x y later other h = elim (either_of (x == y) later h) [ inl here ↦ absurd (other (grind (arith, nat_tests, here))) | inr there ↦ there ]

front_has : (begun left front back : List ℕ) (x : ℕ) → begun ++ left ≡ front ++ x ∷ back → Distinct (front ++ x ∷ back) → has_number begun x ≡ true → (rest : List ℕ) × (begun ≡ front ++ x ∷ rest)
front_has [] left front back x e d h = cc
front_has (y ∷ begun) left [] back x e d h = let same : y ≡ x = cc in (begun, ap (λ z. z ∷ begun) same)
front_has (y ∷ begun) left (z ∷ front) back x e d h =
    let same : y ≡ z = cc in
    let on : begun ++ left ≡ front ++ x ∷ back = cc in
    let other : z ≢ x = member front back (λ w. z ≢ w) x d.0 in
    let there : has_number begun x ≡ true = is_other y x (has_number begun x) (subst (λ w. w ≢ x) (sym same) other) h in
    let found = front_has begun left front back x on d.1 there in (found.0, ap (λ w. w ∷ begun) same ∙ ap (λ l. z ∷ l) found.1)

-- where they stand in the starts
placed : (catalog : Catalog) (m : DxeMachine) (whole base front between back : List ℕ) (first second : ℕ) → whole ≡ base ++ ((front ++ first ∷ between) ++ second ∷ back)
    → Each (λ n. IsCompanionOf catalog m first n ⊎ IsCompanionOf catalog m second n) between → StandBeside catalog m whole first second
placed catalog m whole base front between back first second e companions = record {
  front = base ++ front;
  between = between;
  back = back;
  split = e ∙ ap (λ l. base ++ l) (append_assoc front (first ∷ between) (second ∷ back)) ∙ sym (append_assoc base front (first ∷ (between ++ second ∷ back)));
  companions = companions;
}

only_new : (old new : Bool) → old ≡ false → (old ≡ true) ⊎ (new ≡ true) → new ≡ true
only_new old new none (inl h) = cc
only_new old new none (inr h) = h

-- the drivers of a group have not started before
never_before : (catalog : Catalog) (m : DxeMachine) (group : List Scheduled) (first second : ℕ) → AreQueued catalog m.discovered (numbers_of group) m.started → StandBeside catalog m (numbers_of group) first second
    → has_number (starts m) second ≡ false
never_before catalog m group first second q h =
    let whole : numbers_of group ≡ (h.front ++ first ∷ h.between) ++ second ∷ h.back = h.split ∙ sym (append_assoc h.front (first ∷ h.between) (second ∷ h.back)) in
    let apart : Apart second m.started = member (h.front ++ first ∷ h.between) h.back (λ x. Apart x m.started) second (subst (λ ns. Each (λ x. Apart x m.started) ns) whole q.apart) in
    is_absent (starts m) second (each_reversed (λ y. second ≢ y) m.started apart)

beside : (catalog : Catalog) (m later : DxeMachine) (group : List Scheduled) (first second : ℕ) → AreQueued catalog m.discovered (numbers_of group) m.started → StandBeside catalog m (numbers_of group) first second
    → StartsInOrder group m later → HaveStartedBeside catalog m first second later
beside catalog m later group first second q h (inl p) there =
    let front = h.front ++ first ∷ h.between in
    let whole : numbers_of group ≡ front ++ second ∷ h.back = h.split ∙ sym (append_assoc h.front (first ∷ h.between) (second ∷ h.back)) in
    let split : numbers_of p.begun ++ numbers_of p.left ≡ front ++ second ∷ h.back = sym (numbers_of_append p.begun p.left) ∙ ap numbers_of (sym p.split) ∙ whole in
    let either = among (starts m) (numbers_of p.begun) second (subst (λ l. has_number l second ≡ true) p.started there) in
    let begun = only_new (has_number (starts m) second) (has_number (numbers_of p.begun) second) (never_before catalog m group first second q h) either in
    let found = front_has (numbers_of p.begun) (numbers_of p.left) front h.back second split (subst Distinct whole q.queue_differs) begun in
    placed catalog m (starts later) (starts m) h.front h.between found.0 first second (p.started ∙ ap (λ l. starts m ++ l) found.1) h.companions
beside catalog m later group first second q h (inr a) there =
    let front = h.front ++ first ∷ h.between in
    let whole : numbers_of group ≡ front ++ second ∷ h.back = h.split ∙ sym (append_assoc h.front (first ∷ h.between) (second ∷ h.back)) in
    placed catalog m (starts later) (starts m) h.front h.between (h.back ++ a.later) first second
    (a.started ∙ ap (λ l. starts m ++ l) (ap (λ l. l ++ a.later) whole ∙ append_assoc front (second ∷ h.back) a.later)) h.companions

-- along the rest of a run
rest_beside : DxeStepsRunOut → (catalog : Catalog) (fuel : ℕ) (old m : DxeMachine) (run : List DxeMachine) (group : List Scheduled) (first second : ℕ) → AreNumbered 0 catalog.volumes → IsUnderWay catalog m → IsFreeDxeRun catalog fuel m run
    → AreQueued catalog old.discovered (numbers_of group) old.started → StandBeside catalog old (numbers_of group) first second → StartsInOrder group old m → Each (HaveStartedBeside catalog old first second) run
rest_beside nearer catalog fuel old m [] group first second numbered way goes q h t = tt
rest_beside nearer catalog fuel old m (later ∷ rest) group first second numbered way goes q h t =
    let next = step_on catalog group old m later way t (step_does catalog fuel m later (dxe_case_of catalog m) refl goes.1) in (
      beside catalog old later group first second q h next,
      rest_beside nearer catalog fuel old later rest group first second numbered (nearer catalog fuel m later numbered goes.0 way goes.1).way goes.2 q h next,
    )

-- the first of a group has started
head_on : (catalog : Catalog) (m later : DxeMachine) (group : List Scheduled) → AreQueued catalog m.discovered (numbers_of group) m.started → IsStarted catalog m group later → StartsInOrder group m later
head_on catalog m later [] q h = absurd h
head_on catalog m later (next ∷ queue) q h = subst (StartsInOrder (next ∷ queue) m) (sym h) (by (part_at Dxe catalog next.module_number) q.queue_known.0.0)
  where
    by : (part : Option Part) → is_some part ≡ true → StartsInOrder (next ∷ queue) m (driver_started catalog m next queue part)
    by None some = cc
    by (Some part) some = inl (record { begun = next ∷ []; left = queue; more = []; split = refl; started = reverse_onto m.started next.module_number []; queue_is = to_end queue })

group_beside : DxeStepsRunOut → (catalog : Catalog) (fuel : ℕ) (m later : DxeMachine) (rest : List DxeMachine) (root first second : ℕ) → AreNumbered 0 catalog.volumes → IsUnderWay catalog m → IsFreeDxeRun catalog fuel m (later ∷ rest)
    → BeginsGroup catalog m later root → StandBeside catalog m (companion_group catalog m root) first second → Each (HaveStartedBeside catalog m first second) (later ∷ rest)
group_beside nearer catalog fuel m later rest root first second numbered way goes begins stand =
    let group = group_scheduled catalog m (Some root) in
    let q : AreQueued catalog m.discovered (numbers_of group) m.started = (aimed_way catalog m root begins.may (way_to catalog m way)).queued in
    let h : StandBeside catalog m (numbers_of group) first second = subst (λ ns. StandBeside catalog m ns first second) (sym (numbers_are catalog m root)) stand in
    let t = head_on catalog m later group q begins.begins in (
      beside catalog m later group first second q h t,
      rest_beside nearer catalog fuel m later rest group first second numbered (nearer catalog fuel m later numbered goes.0 way goes.1).way goes.2 q h t,
    )

run_beside : DxeStepsRunOut → (catalog : Catalog) (fuel : ℕ) (m : DxeMachine) (run : List DxeMachine) → AreNumbered 0 catalog.volumes → IsUnderWay catalog m → IsFreeDxeRun catalog fuel m run → EachWithRest (NeighboursStartBeside catalog) m run
run_beside nearer catalog fuel m [] numbered way goes = tt
run_beside nearer catalog fuel m (later ∷ rest) numbered way goes =
    ((λ root first second. group_beside nearer catalog fuel m later rest root first second numbered way goes), run_beside nearer catalog fuel later rest numbered (nearer catalog fuel m later numbered goes.0 way goes.1).way goes.2)

pub start_beside : DxeOpensUnderWay → DxeStepsRunOut → FreeCompanionsStartBeside
start_beside opens nearer catalog numbered fuel s actions run goes =
    run_beside nearer catalog fuel (dxe_opening catalog s actions) run numbered (opens catalog fuel s actions numbered).way goes
