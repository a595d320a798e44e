-- What a run of DXE keeps of its queue: no driver stands twice among those scheduled and started, and each is of a discovered volume.
use Rattle.std.proofs.Common.{◌≡◌, ℕ, Bool, true, false, not, ◌||◌, List, [], ◌∷◌, ◌++◌, Option, Some, None, refl, sym, subst, ap, ◌∙◌, map, length, ◌≢◌, flat_map}
use Rattle.pi_base.specs.{declared.phase.Phase.TheVariants.Dxe, Lists.Each}
use Rattle.mod_catalog.specs.declared.catalogue.Catalog.{Catalog}
use Rattle.boot_model.specs.{declared.driver.Scheduled.Scheduled, DxeMachine.DxeMachine, DriverLicence.numbers_of}
use Rattle.mod_catalog.specs.Parts.{has_number, parts_in, module_volume}
use Rattle.boot_model.specs.DxeChoice.{discovered_order, is_waiting, is_scheduled, waiting, is_eligible_driver, companion_group, queue_from, first_eligible, group_scheduled, driver_queue}
use Rattle.boot_model.proofs.ListFacts.{each_more, each_append, each_filter, each_both, each_cross, each_at, each_found, found_passes, has_later}
use Rattle.boot_model.proofs.Distinct.{Apart, AllApart, Distinct, absent, distinct_append, distinct_filter}
use Rattle.boot_laws.proofs.PartLists.{IsKnown, both_of, passed, distinct_of, known_of, drivers_are, ranked_in, ranked_are}
use Rattle.boot_laws.proofs.Volumes.{IsNew, new_apart, not_true}
use Rattle.boot_laws.proofs.Groups.{distinct_group, each_of_group}

-- the volumes that were discovered, the drivers that are scheduled, and those that have started
pub record AreQueued (catalog : Catalog) (volumes queue started : List ℕ) : Type 0 where
  pub volumes_differ : Distinct volumes
  pub queue_differs : Distinct queue
  pub started_differ : Distinct started
  pub apart : AllApart queue started
  pub queue_known : Each (IsKnown catalog volumes) queue
  pub started_known : Each (IsKnown catalog volumes) started

abbrev pub IsQueued : Catalog → DxeMachine → Type 0
IsQueued catalog m = AreQueued catalog m.discovered (numbers_of m.scheduled) m.started

more_on : (here later more : Bool) → (later ≡ true → more ≡ true) → (here || later) ≡ true → (here || more) ≡ true
more_on true later more f h = refl
more_on false later more f h = f h

pub has_more : (xs ys : List ℕ) (v : ℕ) → has_number xs v ≡ true → has_number (xs ++ ys) v ≡ true
has_more [] ys v h = cc
has_more (x ∷ xs) ys v h = more_on _ (has_number xs v) (has_number (xs ++ ys) v) (has_more xs ys v) h

pub has_behind : (xs ys : List ℕ) (v : ℕ) → has_number ys v ≡ true → has_number (xs ++ ys) v ≡ true
has_behind [] ys v h = h
has_behind (x ∷ xs) ys v h = has_later _ (has_number (xs ++ ys) v) (has_behind xs ys v h)

-- one of a volume that was known is none of a new volume
of_other : (catalog : Catalog) (volumes new : List ℕ) → Each (IsNew volumes) new → (x y : ℕ) → IsKnown catalog volumes x → IsKnown catalog new y → x ≢ y
of_other catalog volumes new are x y h k same =
    let here : IsKnown catalog new x = subst (IsKnown catalog new) (sym same) k in
    let not_there : has_number volumes (module_volume catalog x) ≡ false = each_at (IsNew volumes) new (module_volume catalog x) are here.1 in
    let there = h.1 in cc

-- volumes more, with the drivers that they schedule
pub discovered_more : (catalog : Catalog) (volumes queue started new : List ℕ) → Each (IsNew volumes) new → Distinct new → AreQueued catalog volumes queue started
    → AreQueued catalog (volumes ++ new) (queue ++ flat_map (ranked_in catalog) new) started
discovered_more catalog volumes queue started new are d q =
    let added = flat_map (ranked_in catalog) new in
    let known : Each (IsKnown catalog new) added = known_of catalog (ranked_in catalog) (ranked_are catalog) new in
    let more : (n : ℕ) → IsKnown catalog volumes n → IsKnown catalog (volumes ++ new) n = λ n h. (h.0, has_more volumes new (module_volume catalog n) h.1) in
    record {
      volumes_differ = distinct_append volumes new q.volumes_differ d (new_apart volumes new are);
      queue_differs = distinct_append queue added q.queue_differs (distinct_of catalog (ranked_in catalog) (ranked_are catalog) new d)
          (each_cross (IsKnown catalog volumes) (IsKnown catalog new) (λ x y. x ≢ y) queue added (of_other catalog volumes new are) q.queue_known known);
      started_differ = q.started_differ;
      apart = each_append (λ x. Apart x started) queue added q.apart
          (each_cross (IsKnown catalog new) (IsKnown catalog volumes) (λ x y. x ≢ y) added started (λ x y k h same. of_other catalog volumes new are y x h k (sym same)) known q.started_known);
      queue_known = each_append (IsKnown catalog (volumes ++ new)) queue added (each_more (IsKnown catalog volumes) (IsKnown catalog (volumes ++ new)) queue more q.queue_known)
          (each_more (IsKnown catalog new) (IsKnown catalog (volumes ++ new)) added (λ n h. (h.0, has_behind volumes new (module_volume catalog n) h.1)) known);
      started_known = each_more (IsKnown catalog volumes) (IsKnown catalog (volumes ++ new)) started more q.started_known;
    }

-- the head of the queue leaves it, and starts
pub head_dropped : (catalog : Catalog) (volumes : List ℕ) (x : ℕ) (queue started : List ℕ) → AreQueued catalog volumes (x ∷ queue) started → AreQueued catalog volumes queue started
head_dropped catalog volumes x queue started q = record {
  volumes_differ = q.volumes_differ;
  queue_differs = q.queue_differs.1;
  started_differ = q.started_differ;
  apart = q.apart.1;
  queue_known = q.queue_known.1;
  started_known = q.started_known;
}

pub head_started : (catalog : Catalog) (volumes : List ℕ) (x : ℕ) (queue started : List ℕ) → AreQueued catalog volumes (x ∷ queue) started → AreQueued catalog volumes queue (x ∷ started)
head_started catalog volumes x queue started q = record {
  volumes_differ = q.volumes_differ;
  queue_differs = q.queue_differs.1;
  started_differ = (q.apart.0, q.started_differ);
  apart = each_both (λ y. y ≢ x) (λ y. Apart y started) queue (each_more (λ y. x ≢ y) (λ y. y ≢ x) queue (λ y h same. h (sym same)) q.queue_differs.0) q.apart.1;
  queue_known = q.queue_known.1;
  started_known = (q.queue_known.0, q.started_known);
}

-- the drivers that wait
waiting_new : (m : DxeMachine) (n : ℕ) → is_waiting m n ≡ true → Apart n m.started
waiting_new m n h = absent m.started n (not_true (has_number m.started n) (both_of (not (is_scheduled m n)) (not (has_number m.started n)) h).1)

pub waiting_known : (catalog : Catalog) (m : DxeMachine) → Each (IsKnown catalog m.discovered) (waiting catalog m)
waiting_known catalog m = each_filter (IsKnown catalog m.discovered) (is_waiting m) (discovered_order catalog m) (known_of catalog (parts_in Dxe catalog) (drivers_are catalog) m.discovered)

waiting_apart : (catalog : Catalog) (m : DxeMachine) → AllApart (waiting catalog m) m.started
waiting_apart catalog m = passed (λ n. Apart n m.started) (is_waiting m) (discovered_order catalog m) (waiting_new m)

-- the group of a driver that waits and may start, in the place of an empty queue
pub group_queued : (catalog : Catalog) (m : DxeMachine) (number : ℕ) → is_eligible_driver catalog m number ≡ true → ((P : ℕ → Type 0) → Each P (waiting catalog m) → P number) → IsQueued catalog m
    → AreQueued catalog m.discovered (companion_group catalog m number) m.started
group_queued catalog m number eligible waits q =
    let deep = length (waiting catalog m) in
    let differ : Distinct (waiting catalog m) = distinct_filter (is_waiting m) (discovered_order catalog m) (distinct_of catalog (parts_in Dxe catalog) (drivers_are catalog) m.discovered q.volumes_differ) in
    let apart = waiting_apart catalog m in
    let known = waiting_known catalog m in
    record {
      volumes_differ = q.volumes_differ;
      queue_differs = distinct_group catalog m deep number differ eligible;
      started_differ = q.started_differ;
      apart = each_of_group (λ n. Apart n m.started) catalog m deep number apart (waits (λ n. Apart n m.started) apart);
      queue_known = each_of_group (IsKnown catalog m.discovered) catalog m deep number known (waits (IsKnown catalog m.discovered) known);
      started_known = q.started_known;
    }

-- the numbers of drivers that are scheduled one by one
pub numbers_of_map : (f : ℕ → Scheduled) → ((n : ℕ) → (f n).module_number ≡ n) → (xs : List ℕ) → numbers_of (map f xs) ≡ xs
numbers_of_map f h [] = refl
numbers_of_map f h (x ∷ xs) = ap (λ n. n ∷ numbers_of (map f xs)) (h x) ∙ ap (λ ns. x ∷ ns) (numbers_of_map f h xs)

pub numbers_of_append : (xs ys : List Scheduled) → numbers_of (xs ++ ys) ≡ numbers_of xs ++ numbers_of ys
numbers_of_append [] ys = refl
numbers_of_append (x ∷ xs) ys = ap (λ ns. x.module_number ∷ ns) (numbers_of_append xs ys)

group_or_none : (catalog : Catalog) (m : DxeMachine) (found : Option ℕ) → first_eligible catalog m ≡ found → IsQueued catalog m → AreQueued catalog m.discovered (numbers_of (group_scheduled catalog m found)) m.started
group_or_none catalog m None e q = record {
  volumes_differ = q.volumes_differ;
  queue_differs = tt;
  started_differ = q.started_differ;
  apart = tt;
  queue_known = tt;
  started_known = q.started_known;
}
group_or_none catalog m (Some number) e q =
    subst (λ ns. AreQueued catalog m.discovered ns m.started) (sym (numbers_of_map _ (λ n. refl) (companion_group catalog m number)))
    (group_queued catalog m number (found_passes (is_eligible_driver catalog m) (waiting catalog m) number e) (λ P h. each_found P (is_eligible_driver catalog m) (waiting catalog m) number e h) q)

queue_or_group : (P : List Scheduled → Type 0) (queue group : List Scheduled) → P queue → P group → P (queue_from queue group)
queue_or_group P [] group p g = g
queue_or_group P (first ∷ rest) group p g = p

pub next_queued : (catalog : Catalog) (m : DxeMachine) → IsQueued catalog m → AreQueued catalog m.discovered (numbers_of (driver_queue catalog m)) m.started
next_queued catalog m q =
    queue_or_group (λ queue. AreQueued catalog m.discovered (numbers_of queue) m.started) m.scheduled (group_scheduled catalog m (first_eligible catalog m)) q (group_or_none catalog m (first_eligible catalog m) refl q)
