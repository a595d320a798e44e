-- Where nothing is scheduled, the group of the first eligible driver is, or of the one at which the choice is aimed; and the head of the queue comes next.
use Rattle.std.proofs.Common.{◌≡◌, ℕ, suc, ◌+◌, ◌-◌, ◌<◌, ◌≤◌, ◌==◌, Bool, true, false, true≢false, ◌&&◌, ◌||◌, not, cond, List, [], ◌∷◌, ◌++◌, Option, Some, None, length, drop, reverse, refl, sym, subst, ap, ◌∙◌, arith, length-drop, eqb-true, ◌↔◌, IsTrue, nat_eq, IfSome, Result, Ok, Err, OnOk}
use Rattle.std.proofs.{lemmas.List.reverse-append, lemmas.List.reverse-reverse, Math.ListN.drop_of_length-le, lemmas.Bool.Decides.nat_tests}
use Rattle.std.specs.List.{list_any}
use Rattle.pi_base.specs.{Lists.Each, declared.phase.Phase.TheVariants.Dxe}
use Rattle.mod_catalog.specs.declared.catalogue.Catalog.{Catalog}
use Rattle.mod_catalog.specs.Parts.{has_number, part_at, part_of}
use Rattle.boot_model.specs.{declared.driver.Scheduled.Scheduled, DxeMachine.DxeMachine}
use Rattle.boot_model.specs.DxeChoice.{companion_group, driver_licence, driver_queue, drivers_of, first_eligible, group_scheduled, head_of, is_eligible_driver, is_waiting, queue_from, schedule_of, waiting}
use Rattle.boot_laws.specs.GroupUnfolds.{IsRoot}
use Rattle.boot_model.proofs.ListFacts.{each_append, each_more, within, each_found, each_has, found_passes}
use Rattle.boot_laws.proofs.PartLists.{IsKnown}
use Rattle.dxe_core.specs.Order.{Drivers}
use Rattle.wait_index.specs.{declared.index.WaitIndex.WaitIndex, Dispatch.StandsForDxe, Index.IsIndex}
use Rattle.wait_index.specs.Index as W
use Rattle.dxe_dispatch.specs.Aim.{aimed, is_free, may_be_next}
use Rattle.dxe_dispatch.specs.Choosing.{HaveWaiting, HasFlagFor, IsFilledQueue, IsSeenRoot, Schedules, TakesHead}
use Rattle.dxe_dispatch.specs.Index.{is_scheduled_in}
use Rattle.dxe_dispatch.specs.Queue.{ComesNext, HasStarted, IsDriver, IsQueueFor, IsQueueOf, Queue, owed, waits_at}
use Rattle.dxe_dispatch.proofs.{Machines.stands_scheduled, WaitingDrivers.none_leave, Walks.group_numbers}
use Rattle.dxe_dispatch.proofs.Scheduling.{IsKnownNext, each_map, mapped_drivers, scheduled_row}

pub root_is : (catalog : Catalog) (m : DxeMachine) (root : ℕ) → first_eligible catalog m ≡ Some root → IsRoot catalog m root
root_is catalog m root h = record {
  eligible = found_passes (is_eligible_driver catalog m) (waiting catalog m) root h;
  waits = each_found (λ n. has_number (waiting catalog m) n ≡ true) (is_eligible_driver catalog m) (waiting catalog m) root h (each_has (waiting catalog m));
}

kept : (queue group : List Scheduled) → 0 < length queue → queue_from queue group ≡ queue
kept [] group h = absurd (omega (arith, h))
kept (first ∷ rest) group h = refl

-- the machine with another queue
abbrev pub with_queue : DxeMachine → List Scheduled → DxeMachine
with_queue m scheduled = record m { scheduled = scheduled }

-- a queue that is not empty stays
pub filled_before : (catalog : Catalog) (m : DxeMachine) (queue : Queue) → IsQueueOf catalog m queue → 0 < length queue.scheduled → IsFilledQueue catalog m queue
filled_before catalog m queue q some =
    let same : driver_queue catalog m ≡ m.scheduled = kept m.scheduled (group_scheduled catalog m (first_eligible catalog m)) (subst (λ (xs : List Scheduled). 0 < length xs) (sym q.scheduled) some) in
    subst (λ xs. IsQueueOf catalog (with_queue m xs) queue) (sym same) q

-- an empty one gets the group, or stays empty
pub filled_by : (catalog : Catalog) (m : DxeMachine) (queue later : Queue) (group : List Scheduled) → IsQueueOf catalog m queue → queue.scheduled ≡ [] → group_scheduled catalog m (first_eligible catalog m) ≡ group
    → Each (IsKnownNext catalog m.discovered) group → Schedules queue group later → IsFilledQueue catalog m later
filled_by catalog m queue later group q none is known g =
    let empty : m.scheduled ≡ [] = q.scheduled ∙ none in
    let same : driver_queue catalog m ≡ m.scheduled ++ group = ap (λ xs. queue_from xs (group_scheduled catalog m (first_eligible catalog m))) empty ∙ is ∙ sym (ap (λ xs. xs ++ group) empty) in
    scheduled_row catalog m (with_queue m (driver_queue catalog m)) group queue later q g same refl refl refl refl known

started_or_left : (x r s : Bool) → (not (x || r) && not s) ≡ (not r && not (x || s))
started_or_left true true s = refl
started_or_left true false s = refl
started_or_left false r s = refl

emptied : (queue group : List Scheduled) → queue_from queue group ≡ [] → queue ≡ []
emptied [] group h = refl
emptied (first ∷ rest) group h = h

-- the head of the queue comes next
pub comes_next : (catalog : Catalog) (m : DxeMachine) (queue later : Queue) (next : Option Scheduled) → IsFilledQueue catalog m queue → TakesHead queue next later → ComesNext catalog m next later
comes_next catalog m queue later None q t =
    let none : driver_queue catalog m ≡ [] = q.scheduled ∙ t.0 in
    let empty : m.scheduled ≡ [] = emptied m.scheduled (group_scheduled catalog m (first_eligible catalog m)) none in
    let here : IsQueueOf catalog m queue = subst (λ xs. IsQueueOf catalog (with_queue m xs) queue) (none ∙ sym empty) q in
    (ap head_of none, subst (IsQueueOf catalog m) (sym t.1) here)
comes_next catalog m queue later (Some next) q t =
    let whole : driver_queue catalog m ≡ next ∷ later.scheduled = q.scheduled ∙ t.0 in
    record {
      rest = later.scheduled;
      next_is = ap head_of whole;
      behind = λ new h. started_row catalog (with_queue m (driver_queue catalog m)) new queue later next q whole t.1 t.2 t.3
          (record { scheduled = h.scheduled; started = h.started; discovered = h.discovered; requested = h.requested; handles = h.handles });
    }
  where
    started_row : (catalog : Catalog) (m new : DxeMachine) (queue later : Queue) (next : Scheduled) → IsQueueOf catalog m queue → m.scheduled ≡ next ∷ later.scheduled → later.left ≡ queue.left + 1 → later.waits ≡ queue.waits → later.index ≡ queue.index
        → HasStarted next.module_number later.scheduled m new → IsQueueOf catalog new later
    started_row catalog m new queue later next q whole left flags same h =
        let is : ℕ → Scheduled → Bool = λ n x. x.module_number == n in
        let gone : (n : ℕ) → is_waiting m n ≡ is_waiting new n =
        λ n. ap (λ xs. not (list_any (is n) xs) && not (has_number m.started n)) whole
        ∙ started_or_left (is n next) (is_scheduled_in later.scheduled n) (has_number m.started n)
        ∙ ap (λ xs. not (list_any (is n) xs) && not (has_number (next.module_number ∷ m.started) n)) (sym h.scheduled)
        ∙ ap (λ ns. not (list_any (is n) new.scheduled) && not (has_number ns n)) (sym h.started) in
        let stands : StandsForDxe catalog new queue.index = stands_scheduled catalog m new [] queue.index queue.index q.index (none_leave queue.index) h.discovered h.requested h.handles (λ n. sym (gone n)) in
        record {
          scheduled = h.scheduled;
          left = let begun : length new.started ≡ suc (length m.started) = ap length h.started in let was = q.left in omega (arith, left, begun, was);
          waits = λ n. ap (λ fs. waits_at fs n) flags ∙ q.waits n ∙ gone n;
          index = subst (StandsForDxe catalog new) (sym same) stands;
          others = λ n none.
              let was = q.others n (ap (λ volumes. has_number (drivers_of catalog volumes) n) (sym h.discovered) ∙ none) in
              (sym (gone n) ∙ was.0, ap (λ ns. has_number ns n) h.requested ∙ was.1);
        }

-- the group of an eligible driver that waits
pub record IsFound (catalog : Catalog) (m : DxeMachine) (root : ℕ) (drivers : List ℕ) : Type 0 where
  pub group : reverse drivers ≡ companion_group catalog m root
  pub known : Each (IsKnown catalog m.discovered) (companion_group catalog m root)

pub found_group : (catalog : Catalog) (m : DxeMachine) (queue : Queue) (order : Drivers) (flags : List Bool) (root : ℕ) (group : List ℕ) → IsSeenRoot catalog m queue order root → flags ≡ queue.waits
    → ((m : DxeMachine) → HaveWaiting catalog m order flags → IsRoot catalog m root → reverse group ≡ companion_group catalog m root) → IsFound catalog m root group
found_group catalog m queue order flags root group is are walked =
    let root_of = is.is_root in
    let have : HaveWaiting catalog m order flags = record { order = is.seen.order; waits = λ n. ap (λ fs. waits_at fs n) are ∙ is.seen.queue.waits n } in
    record { group = walked m have root_of; known = group_numbers catalog m order flags root have root_of }

-- a queue all of which has left is empty, and else it is not
-- the queue is empty where its head stands at the end of the items
pub at_end : (queue view : Queue) (items : List Scheduled) (head count : ℕ) → view ≡ queue → view.scheduled ≡ drop head items → count ≡ length items → head ≤ length items → IsTrue (nat_eq head count) ↔ (queue.scheduled ≡ [])
at_end queue view items head count is drops whole within =
    let left : queue.scheduled ≡ drop head items = ap (λ (q : Queue). q.scheduled) (sym is) ∙ drops in
    let long : length queue.scheduled ≡ length items - head = ap (λ (xs : List Scheduled). length xs) left ∙ length-drop head items in (
      λ t. let out : length items ≤ head = omega (arith, eqb-true head count t, whole) in left ∙ drop_of_length-le items out,
      λ none. let empty : length queue.scheduled ≡ 0 = ap (λ (xs : List Scheduled). length xs) none in grind (arith, nat_tests, long, empty, whole, within),
    )

pub has_some : (none : Bool) (xs : List Scheduled) → IsTrue none ↔ (xs ≡ []) → none ≡ false → 0 < length xs
has_some none [] empty some = absurd (true≢false (sym (empty.1 refl) ∙ some))
has_some none (x ∷ xs) empty some = omega arith

each_turned : (P : ℕ → Type 0) (xs : List ℕ) → Each P xs → Each P (reverse xs)
each_turned P [] e = tt
each_turned P (x ∷ xs) e = subst (Each P) (sym (reverse-append (x ∷ []) xs)) (each_append P (reverse xs) (x ∷ []) (each_turned P xs e.1) (e.0, tt))

-- there is a flag for each driver of the group
pub group_flags : (catalog : Catalog) (m : DxeMachine) (queue : Queue) (root : ℕ) (group : List ℕ) → IsFound catalog m root group → length queue.waits ≡ length catalog.modules → Each (HasFlagFor queue) group
group_flags catalog m queue root group found flags =
    let Known : ℕ → Type 0 = IsKnown catalog m.discovered in
    let turned : Each Known (reverse group) = subst (Each Known) (sym found.group) found.known in
    let all : Each Known group = subst (Each Known) (reverse-reverse group) (each_turned Known (reverse group) turned) in
    each_more Known (HasFlagFor queue) group (λ n k. let below : n < length catalog.modules = within (part_of Dxe) catalog.modules n k.0 in omega (arith, below, flags)) all

pub group_drivers : (catalog : Catalog) (m : DxeMachine) (root : ℕ) (group : List ℕ) → IsFound catalog m root group → Each (IsDriver catalog) (schedule_of catalog (reverse group))
group_drivers catalog m root group found =
    mapped_drivers catalog m.discovered (λ n. record { module_number = n; licence = driver_licence (part_at Dxe catalog n) }) (λ n. refl) (reverse group)
    (subst (Each (IsKnown catalog m.discovered)) (sym found.group) found.known)

-- its drivers are of discovered volumes
pub group_known : (catalog : Catalog) (m : DxeMachine) (root : ℕ) (order : Drivers) (queue : Queue) → IsSeenRoot catalog m queue order root → Each (IsKnownNext catalog m.discovered) (schedule_of catalog (companion_group catalog m root))
group_known catalog m root order queue is =
    let root_of = is.is_root in
    let have : HaveWaiting catalog m order queue.waits = record { order = is.seen.order; waits = is.seen.queue.waits } in
    each_map (IsKnownNext catalog m.discovered) (λ n. record { module_number = n; licence = driver_licence (part_at Dxe catalog n) }) (companion_group catalog m root) (group_numbers catalog m order queue.waits root have root_of)

pub on_ok : {E P Q : Type 0} (result : Result (Unit {0}) E) → (P → Q) → OnOk result P → OnOk result Q
on_ok (Ok done) f p = f p
on_ok (Err fault) f p = tt

-- a queue whose head has left
pub takes_for : (catalog : Catalog) (queue later : Queue) (next : Option Scheduled) → IsQueueFor catalog queue → TakesHead queue next later → IsQueueFor catalog later
takes_for catalog queue later None q t = subst (IsQueueFor catalog) (sym t.1) q
takes_for catalog queue later (Some next) q t =
    let drivers : Each (IsDriver catalog) (next ∷ later.scheduled) = subst (λ xs. Each (IsDriver catalog) xs) t.0 q.drivers in
    record {
      flags = ap length t.2 ∙ q.flags;
      drivers = drivers.1;
      index = subst (IsIndex catalog) (sym t.3) q.index;
      phase = ap (λ (i : WaitIndex). i.phase) t.3 ∙ q.phase;
    }

pub takes_driver : (catalog : Catalog) (queue later : Queue) (next : Option Scheduled) → IsQueueFor catalog queue → TakesHead queue next later → IfSome next (IsDriver catalog)
takes_driver catalog queue later None q t = tt
takes_driver catalog queue later (Some next) q t = let drivers : Each (IsDriver catalog) (next ∷ later.scheduled) = subst (λ xs. Each (IsDriver catalog) xs) t.0 q.drivers in drivers.0

pub takes_owes : (queue later : Queue) (next : Option Scheduled) → TakesHead queue next later → owed later ≡ owed queue
takes_owes queue later None t = ap (λ q. owed q) t.1
takes_owes queue later (Some next) t = ap (λ (i : WaitIndex). W.owed i) t.3

-- where the choice is aimed
aim_by : (catalog : Catalog) (m : DxeMachine) (root : ℕ) (b : Bool) → (is_free m.scheduled && may_be_next catalog m root) ≡ b → aimed catalog m root ≡ cond b (with_queue m (group_scheduled catalog m (Some root))) m
aim_by catalog m root b e = ap (λ t. cond t (with_queue m (group_scheduled catalog m (Some root))) m) e

not_free : (scheduled : List Scheduled) (b : Bool) → 0 < length scheduled → (is_free scheduled && b) ≡ false
not_free [] b some = absurd (omega (arith, some))
not_free (first ∷ rest) b some = refl

-- where something is scheduled, nothing more is
pub aimed_before : (catalog : Catalog) (m : DxeMachine) (queue : Queue) (root : ℕ) → IsQueueOf catalog m queue → 0 < length queue.scheduled → IsQueueOf catalog (aimed catalog m root) queue
aimed_before catalog m queue root q some =
    let none = not_free m.scheduled (may_be_next catalog m root) (subst (λ (xs : List Scheduled). 0 < length xs) (sym q.scheduled) some) in
    subst (λ n. IsQueueOf catalog n queue) (sym (aim_by catalog m root false none)) q

-- nor where the driver may not be next
pub aimed_past : (catalog : Catalog) (m : DxeMachine) (queue : Queue) (root : ℕ) → IsQueueOf catalog m queue → may_be_next catalog m root ≡ false → IsQueueOf catalog (aimed catalog m root) queue
aimed_past catalog m queue root q none = subst (λ n. IsQueueOf catalog n queue) (sym (aim_by catalog m root false (both (is_free m.scheduled) (may_be_next catalog m root) none))) q
  where
    both : (a b : Bool) → b ≡ false → (a && b) ≡ false
    both true b e = e
    both false b e = refl

-- else its group is
pub aimed_at : (catalog : Catalog) (m : DxeMachine) (queue later : Queue) (root : ℕ) → IsQueueOf catalog m queue → queue.scheduled ≡ [] → may_be_next catalog m root ≡ true
    → Each (IsKnownNext catalog m.discovered) (schedule_of catalog (companion_group catalog m root)) → Schedules queue (schedule_of catalog (companion_group catalog m root)) later → IsQueueOf catalog (aimed catalog m root) later
aimed_at catalog m queue later root q none may known g =
    let group = schedule_of catalog (companion_group catalog m root) in
    let empty : m.scheduled ≡ [] = q.scheduled ∙ none in
    let same : group ≡ m.scheduled ++ group = ap (λ xs. xs ++ group) (sym empty) in
    let is = ap (λ xs. is_free xs && may_be_next catalog m root) empty ∙ may in
    subst (λ n. IsQueueOf catalog n later) (sym (aim_by catalog m root true is)) (scheduled_row catalog m (with_queue m group) group queue later q g same refl refl refl refl known)

-- a driver that may be next is a root
pub may_be_root : (catalog : Catalog) (m : DxeMachine) (root : ℕ) → may_be_next catalog m root ≡ true → IsRoot catalog m root
may_be_root catalog m root may = record { eligible = second (has_number (waiting catalog m) root) (is_eligible_driver catalog m root) may; waits = first (has_number (waiting catalog m) root) (is_eligible_driver catalog m root) may }
  where
    first : (a b : Bool) → (a && b) ≡ true → a ≡ true
    first true b h = refl
    first false b h = h

    second : (a b : Bool) → (a && b) ≡ true → b ≡ true
    second true b h = h
    second false b h = cc
