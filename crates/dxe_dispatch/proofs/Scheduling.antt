-- Drivers are scheduled one after the other.
use Rattle.std.proofs.Common.{◌≡◌, ℕ, zero, suc, ◌+◌, ◌<◌, ◌≤◌, ◌==◌, Bool, true, false, ◌&&◌, ◌||◌, not, List, [], ◌∷◌, ◌++◌, length, drop, get_or, map, reverse, refl, sym, subst, ap, ◌∙◌, arith, append_assoc, append-nil, drop_at, length-set, slice_set, flat_map}
use Rattle.std.proofs.lemmas.List.{drop-append-le, drop_more, map-append, reverse-append}
use Rattle.std.proofs.{lemmas.List.Folds.list_any-append, Math.Dec.eqb-zero-suc, Math.Dec.eqb-suc-zero, lemmas.Bool.Decides.nat_tests}
use Rattle.std.specs.List.{list_any}
use Rattle.pi_base.specs.{declared.guid.Guid.Guid, Lists.Each, declared.phase.Phase.TheVariants.Dxe}
use Rattle.mod_catalog.specs.declared.catalogue.Catalog.{Catalog}
use Rattle.mod_catalog.specs.Parts.{has_number, module_volume, part_at, part_of, parts_in}
use Rattle.boot_model.specs.{declared.licence.Licence.Licence, declared.driver.Scheduled.Scheduled, DxeMachine.DxeMachine}
use Rattle.boot_model.specs.DxeChoice.{a_priori_drivers, discovered_order, driver_licence, drivers_of, is_waiting, schedule_of}
use Rattle.boot_model.specs.{EvaluationBound.dxe_asked, Licence.AllDiffer}
use Rattle.boot_model.proofs.ListFacts.{each_more, each_append, within}
use Rattle.boot_model.proofs.Distinct.{all_differ, few_below}
use Rattle.boot_laws.proofs.{EachDriver.order_has, Queue.has_behind}
use Rattle.boot_laws.proofs.PartLists.{IsKnown, IsPartOfVolume, drivers_are, is_equal, known_of, ranked_in, ranked_are}
use Rattle.wait_index.specs.declared.index.WaitIndex.{WaitIndex}
use Rattle.dxe_core.specs.Order.{Drivers}
use Rattle.wait_index.specs.Index.{IsIndex, IsSet, asked, order_in}
use Rattle.dxe_dispatch.specs.Choosing.{Come, HasFlagFor, Schedules, as_apriori}
use Rattle.dxe_dispatch.specs.Index.{IsRequested, WaitsNoMore, is_scheduled_in}
use Rattle.dxe_dispatch.specs.Queue.{AreNew, HasProtocol, HasRequest, Queue, HasVolumes, IsDriver, IsQueueFor, IsQueueOf, owed, waits_at}
use Rattle.dxe_dispatch.proofs.Machines.{none_before, stands_changed, stands_come, stands_requested, stands_scheduled, untouched_changed, untouched_requested, waiting_same}
use Rattle.dxe_dispatch.proofs.WaitingDrivers.{leave_then, neither}

pub scheduled_then : (queue mid later : Queue) (a b : List Scheduled) → Schedules queue a mid → Schedules mid b later → Schedules queue (a ++ b) later
scheduled_then queue mid later a b f g = record {
  scheduled = g.scheduled ∙ ap (λ xs. xs ++ b) f.scheduled ∙ append_assoc queue.scheduled a b;
  left = g.left ∙ f.left;
  waits = λ n. g.waits n ∙ ap (λ w. not (is_scheduled_in b n) && w) (f.waits n) ∙ neither (is_scheduled_in a n) (is_scheduled_in b n) (waits_at queue.waits n)
      ∙ ap (λ t. not t && waits_at queue.waits n) (sym (list_any-append (λ (next : Scheduled). next.module_number == n) a b));
  flags = g.flags ∙ f.flags;
  index = leave_then a b queue.index mid.index later.index f.index g.index;
}

same_next : (k n : ℕ) (b c : Bool) → (k == n) ≡ b → (suc k == suc n) ≡ c → (k == n) ≡ (suc k == suc n)
same_next k n true true e f = e ∙ sym f
same_next k n true false e f = absurd (grind (arith, nat_tests))
same_next k n false true e f = absurd (grind (arith, nat_tests))
same_next k n false false e f = e ∙ sym f

-- the flag of one number is taken down
clear_at : (flags : List Bool) (k n : ℕ) → k < length flags → waits_at (slice_set flags k false) n ≡ (not ((k == n) || false) && waits_at flags n)
clear_at [] k n h = absurd (omega (arith, h))
clear_at (flag ∷ flags) zero zero h = refl
clear_at (flag ∷ flags) zero (suc n) h = ap (λ b. not (b || false) && waits_at flags n) (sym (eqb-zero-suc n))
clear_at (flag ∷ flags) (suc k) zero h = ap (λ b. not (b || false) && flag) (sym (eqb-suc-zero k))
clear_at (flag ∷ flags) (suc k) (suc n) h =
    clear_at flags k n (omega (arith, h)) ∙ ap (λ b. not (b || false) && waits_at flags n) (same_next k n (k == n) (suc k == suc n) refl refl)

-- one driver behind all that were ever scheduled
pub one_scheduled : (items new : List Scheduled) (head : ℕ) (flags later : List Bool) (index left : WaitIndex) (x : Scheduled) → head ≤ length items → x.module_number < length flags → new ≡ items ++ x ∷ []
    → later ≡ slice_set flags x.module_number false → WaitsNoMore x.module_number index left
    → Schedules (record { scheduled = drop head items; left = head; waits = flags; index = index }) (x ∷ []) (record { scheduled = drop head new; left = head; waits = later; index = left })
one_scheduled items new head flags later index left x within number more cleared leaves = record {
  scheduled = ap (drop head) more ∙ drop-append-le head items (x ∷ []) within;
  left = refl;
  waits = λ n. ap (λ fs. waits_at fs n) cleared ∙ clear_at flags x.module_number n number;
  flags = ap length cleared ∙ length-set flags x.module_number false;
  index = leaves;
}

-- a driver of a discovered volume, as it is scheduled
abbrev pub IsKnownNext : Catalog → List ℕ → Scheduled → Type 0
IsKnownNext catalog volumes next = IsKnown catalog volumes next.module_number

not_among_by : (catalog : Catalog) (m : DxeMachine) (n number : ℕ) (later b : Bool) → (number == n) ≡ b → has_number (discovered_order catalog m) n ≡ false → IsKnown catalog m.discovered number → later ≡ false → (b || later) ≡ false
not_among_by catalog m n number later true same none known on =
    let there : has_number (discovered_order catalog m) n ≡ true = ap (has_number (discovered_order catalog m)) (sym (is_equal number n same)) ∙ order_has catalog m number known in
    absurd (cc)
not_among_by catalog m n number later false same none known on = on

not_among : (catalog : Catalog) (m : DxeMachine) (n : ℕ) (added : List Scheduled) → has_number (discovered_order catalog m) n ≡ false → Each (IsKnownNext catalog m.discovered) added → is_scheduled_in added n ≡ false
not_among catalog m n [] none e = refl
not_among catalog m n (next ∷ added) none e = not_among_by catalog m n next.module_number (is_scheduled_in added n) (next.module_number == n) refl none e.0 (not_among catalog m n added none e.1)

-- a machine that has so many drivers more in its queue
pub scheduled_row : (catalog : Catalog) (m new : DxeMachine) (added : List Scheduled) (queue later : Queue) → IsQueueOf catalog m queue → Schedules queue added later → new.scheduled ≡ m.scheduled ++ added → new.started ≡ m.started
    → new.discovered ≡ m.discovered → new.requested ≡ m.requested → new.handles ≡ m.handles → Each (IsKnownNext catalog m.discovered) added → IsQueueOf catalog new later
scheduled_row catalog m new added queue later q g s t discovered requested handles known =
    let is : ℕ → Scheduled → Bool = λ n next. next.module_number == n in
    let gone : (n : ℕ) → (not (is_scheduled_in added n) && is_waiting m n) ≡ is_waiting new n =
    λ n. neither (list_any (is n) m.scheduled) (is_scheduled_in added n) (not (has_number m.started n))
    ∙ ap (λ b. not b && not (has_number m.started n)) (sym (list_any-append (is n) m.scheduled added))
    ∙ ap (λ xs. not (list_any (is n) xs) && not (has_number m.started n)) (sym s)
    ∙ ap (λ ns. not (list_any (is n) new.scheduled) && not (has_number ns n)) (sym t) in
    let before : (n : ℕ) → has_number (discovered_order catalog new) n ≡ false → has_number (discovered_order catalog m) n ≡ false = λ n h. ap (λ volumes. has_number (drivers_of catalog volumes) n) (sym discovered) ∙ h in
    record {
      scheduled = s ∙ ap (λ xs. xs ++ added) q.scheduled ∙ sym g.scheduled;
      left = g.left ∙ q.left ∙ ap length (sym t);
      waits = λ n. g.waits n ∙ ap (λ w. not (is_scheduled_in added n) && w) (q.waits n) ∙ gone n;
      index = stands_scheduled catalog m new added queue.index later.index q.index g.index discovered requested handles (λ n. sym (gone n));
      others = λ n h. (
        sym (gone n) ∙ ap (λ b. not b && is_waiting m n) (not_among catalog m n added (before n h) known) ∙ (q.others n (before n h)).0,
        ap (λ ns. has_number ns n) requested ∙ (q.others n (before n h)).1,
      );
    }

pub each_map : (P : Scheduled → Type 0) (f : ℕ → Scheduled) (xs : List ℕ) → Each (λ x. P (f x)) xs → Each P (map f xs)
each_map P f [] e = tt
each_map P f (x ∷ xs) e = (e.0, each_map P f xs e.1)

-- what is scheduled of drivers are drivers
pub mapped_drivers : (catalog : Catalog) (volumes : List ℕ) (f : ℕ → Scheduled) → ((n : ℕ) → (f n).module_number ≡ n) → (xs : List ℕ) → Each (IsKnown catalog volumes) xs → Each (IsDriver catalog) (map f xs)
mapped_drivers catalog volumes f same xs e =
    each_map (IsDriver catalog) f xs
    (each_more (IsKnown catalog volumes) (λ x. IsDriver catalog (f x)) xs (λ x is. subst (λ n. IsDriver catalog (record { module_number = n; licence = (f x).licence })) (sym (same x)) is.0) e)

pub ranked_drivers : (catalog : Catalog) (volumes : List ℕ) → Each (IsDriver catalog) (a_priori_drivers catalog volumes)
ranked_drivers catalog volumes =
    mapped_drivers catalog volumes as_apriori (λ n. refl) (flat_map (ranked_in catalog) volumes) (known_of catalog (ranked_in catalog) (ranked_are catalog) volumes)

-- and of the volumes that were discovered with them
ranked_known : (catalog : Catalog) (before volumes : List ℕ) → Each (IsKnownNext catalog (before ++ volumes)) (a_priori_drivers catalog volumes)
ranked_known catalog before volumes =
    each_map (IsKnownNext catalog (before ++ volumes)) as_apriori (flat_map (ranked_in catalog) volumes)
    (each_more (IsKnown catalog volumes) (IsKnown catalog (before ++ volumes)) (flat_map (ranked_in catalog) volumes) (λ n h. (h.0, has_behind before volumes (module_volume catalog n) h.1))
    (known_of catalog (ranked_in catalog) (ranked_are catalog) volumes))

-- volumes were discovered
pub discovers_row : (catalog : Catalog) (m new : DxeMachine) (volumes drivers : List ℕ) (queue mid later : Queue) → IsQueueOf catalog m queue → Come catalog drivers queue mid → Schedules mid (a_priori_drivers catalog volumes) later
    → drivers ≡ drivers_of catalog volumes → AllDiffer (order_in queue.index ++ drivers) → HasVolumes catalog volumes m new → IsQueueOf catalog new later
discovers_row catalog m new volumes drivers queue mid later q come g are differ has =
    let between : DxeMachine = record m { discovered = m.discovered ++ volumes } in
    let here : IsQueueOf catalog between mid = record {
      scheduled = q.scheduled ∙ sym come.scheduled;
      left = come.left ∙ q.left;
      waits = λ n. ap (λ fs. waits_at fs n) come.waits ∙ q.waits n;
      index = stands_come catalog m between volumes drivers queue.index mid.index q.index q.others come.phase come.installed come.come are differ refl refl refl (λ n. refl);
      others = λ n h. q.others n (none_before catalog m.discovered volumes n h).0;
    } in
    scheduled_row catalog between new (a_priori_drivers catalog volumes) mid later here g has.scheduled has.started has.discovered has.requested has.handles (ranked_known catalog m.discovered volumes)

pub still_for : (catalog : Catalog) (queue later : Queue) (added : List Scheduled) → IsQueueFor catalog queue → Each (IsDriver catalog) added → Schedules queue added later → IsQueueFor catalog later
still_for catalog queue later added q e g = record {
  flags = g.flags ∙ q.flags;
  drivers = subst (λ xs. Each (IsDriver catalog) xs) (sym g.scheduled) (each_append (IsDriver catalog) queue.scheduled added q.drivers e);
  index = g.index.kept catalog q.index;
  phase = g.index.phase ∙ q.phase;
}

-- one number more of those that are left
pub ranked_left : (P : ℕ → Type 0) (numbers : List ℕ) (i : ℕ) → i < length numbers → Each P (drop i numbers) → Each P (drop (i + 1) numbers)
ranked_left P numbers i below e = (subst (Each P) (drop_more numbers i 0 below) e).1

pub ranked_on : (old now next : Queue) (numbers : List ℕ) (i : ℕ) → i < length numbers → Schedules now (as_apriori (get_or numbers i 0) ∷ []) next
    → ((later : Queue) → Schedules now (map as_apriori (drop i numbers)) later → Schedules old (map as_apriori numbers) later)
    → (later : Queue) → Schedules next (map as_apriori (drop (i + 1) numbers)) later → Schedules old (map as_apriori numbers) later
ranked_on old now next numbers i below one on later rest =
    on later (subst (λ xs. Schedules now (map as_apriori xs) later) (sym (drop_more numbers i 0 below))
    (scheduled_then now next later (as_apriori (get_or numbers i 0) ∷ []) (map as_apriori (drop (i + 1) numbers)) one rest))

ranked_volumes : (catalog : Catalog) (volume : ℕ) (volumes : List ℕ) → a_priori_drivers catalog (volume ∷ []) ++ a_priori_drivers catalog volumes ≡ a_priori_drivers catalog (volume ∷ volumes)
ranked_volumes catalog volume volumes =
    let here = ranked_in catalog volume in
    let rest = flat_map (ranked_in catalog) volumes in
    sym (map-append as_apriori (here ++ []) rest) ∙ ap (λ xs. map as_apriori (xs ++ rest)) (append-nil here)

-- one volume more of those that are left
pub volumes_on : (catalog : Catalog) (old now next : Queue) (volumes : List ℕ) (i : ℕ) → i < length volumes → Schedules now (a_priori_drivers catalog (get_or volumes i 0 ∷ [])) next
    → ((later : Queue) → Schedules now (a_priori_drivers catalog (drop i volumes)) later → Schedules old (a_priori_drivers catalog volumes) later)
    → (later : Queue) → Schedules next (a_priori_drivers catalog (drop (i + 1) volumes)) later → Schedules old (a_priori_drivers catalog volumes) later
volumes_on catalog old now next volumes i below one on later rest =
    let volume = get_or volumes i 0 in
    on later (subst (λ xs. Schedules now xs later) (ranked_volumes catalog volume (drop (i + 1) volumes) ∙ ap (a_priori_drivers catalog) (sym (drop_more volumes i 0 below)))
    (scheduled_then now next later (a_priori_drivers catalog (volume ∷ [])) (a_priori_drivers catalog (drop (i + 1) volumes)) one rest))

pub each_front : {A : Type 0} (P : A → Type 0) (xs ys : List A) → Each P (xs ++ ys) → Each P xs
each_front P [] ys e = tt
each_front P (x ∷ xs) ys e = (e.0, each_front P xs ys e.1)

-- one driver more of a group, which is given last driver first
pub group_on : (catalog : Catalog) (old now next : Queue) (group rest whole : List ℕ) (number : ℕ) (licence : Licence) → group ≡ rest ++ number ∷ [] → licence ≡ driver_licence (part_at Dxe catalog number)
    → Schedules now (record { module_number = number; licence = licence } ∷ []) next
    → ((later : Queue) → Schedules now (schedule_of catalog (reverse group)) later → Schedules old (schedule_of catalog whole) later)
    → (later : Queue) → Schedules next (schedule_of catalog (reverse rest)) later → Schedules old (schedule_of catalog whole) later
group_on catalog old now next group rest whole number licence split is one on later more =
    let turned : reverse group ≡ number ∷ reverse rest = ap (λ (xs : List ℕ). reverse xs) split ∙ reverse-append rest (number ∷ []) in
    let first = subst (λ l. Schedules now (record { module_number = number; licence = l } ∷ []) next) is one in
    on later (subst (λ xs. Schedules now (schedule_of catalog xs) later) (sym turned)
    (scheduled_then now next later (record { module_number = number; licence = driver_licence (part_at Dxe catalog number) } ∷ []) (schedule_of catalog (reverse rest)) first more))

-- the a priori drivers of a volume are modules of the catalogue, and no more than there are
ranked_below : (catalog : Catalog) (volume : ℕ) → Each (λ n. n < length catalog.modules) (ranked_in catalog volume)
ranked_below catalog volume =
    each_more (IsPartOfVolume Dxe catalog volume) (λ n. n < length catalog.modules) (ranked_in catalog volume) (λ n is. within (part_of Dxe) catalog.modules n is.0) (ranked_are catalog volume).1

pub ranked_room : (catalog : Catalog) (volume most : ℕ) (none : List ℕ) → none ≡ [] → length catalog.modules ≤ most → length (none ++ ranked_in catalog volume) ≤ most
ranked_room catalog volume most none empty few =
    let fits = few_below (ranked_in catalog volume) (length catalog.modules) (all_differ (ranked_in catalog volume) (ranked_are catalog volume).0) (ranked_below catalog volume) in
    let same : length (none ++ ranked_in catalog volume) ≡ length (ranked_in catalog volume) = ap (λ xs. length (xs ++ ranked_in catalog volume)) empty in
    omega (arith, fits, few, same)

pub ranked_numbers : (catalog : Catalog) (volume : ℕ) (queue : Queue) (none parts numbers : List ℕ) → none ≡ [] → parts ≡ none ++ ranked_in catalog volume → numbers ≡ parts → length queue.waits ≡ length catalog.modules
    → Each (HasFlagFor queue) numbers
ranked_numbers catalog volume queue none parts numbers empty pushed are flags =
    subst (Each (HasFlagFor queue)) (sym (are ∙ pushed ∙ ap (λ xs. xs ++ ranked_in catalog volume) empty))
    (subst (λ (n : ℕ). Each (λ k. k < n) (ranked_in catalog volume)) (sym flags) (ranked_below catalog volume))

-- a driver was requested
pub request_row : (catalog : Catalog) (m new : DxeMachine) (number : ℕ) (queue later : Queue) → later.scheduled ≡ queue.scheduled → later.left ≡ queue.left → later.waits ≡ queue.waits → IsRequested number queue.index later.index
    → IsQueueOf catalog m queue → HasRequest catalog number m new → IsQueueOf catalog new later
request_row catalog m new number queue later scheduled left flags is q has = record {
  scheduled = has.scheduled ∙ q.scheduled ∙ sym scheduled;
  left = left ∙ q.left ∙ ap length (sym has.started);
  waits = λ n. ap (λ fs. waits_at fs n) flags ∙ q.waits n ∙ sym (waiting_same m new has.scheduled has.started n);
  index = stands_requested catalog m new number queue.index later.index q.index is has;
  others = untouched_requested catalog m new number q.others has;
}

-- a protocol is on a handle now, or on none
pub change_row : (catalog : Catalog) (m new : DxeMachine) (guid : Guid) (there : Bool) (queue later : Queue) → later.scheduled ≡ queue.scheduled → later.left ≡ queue.left → later.waits ≡ queue.waits → IsSet catalog guid there queue.index later.index
    → IsQueueOf catalog m queue → HasProtocol guid there m new → IsQueueOf catalog new later
change_row catalog m new guid there queue later scheduled left flags is q has = record {
  scheduled = has.scheduled ∙ q.scheduled ∙ sym scheduled;
  left = left ∙ q.left ∙ ap length (sym has.started);
  waits = λ n. ap (λ fs. waits_at fs n) flags ∙ q.waits n ∙ sym (waiting_same m new has.scheduled has.started n);
  index = stands_changed catalog m new guid there queue.index later.index q.index is has;
  others = untouched_changed catalog m new guid there q.others has;
}

-- the drivers of volumes are modules
pub drivers_below : (catalog : Catalog) (volumes : List ℕ) → Each (λ n. n < length catalog.modules) (drivers_of catalog volumes)
drivers_below catalog volumes =
    each_more (IsKnown catalog volumes) (λ n. n < length catalog.modules) (drivers_of catalog volumes) (λ n known. within (part_of Dxe) catalog.modules n known.0) (known_of catalog (parts_in Dxe catalog) (drivers_are catalog) volumes)

-- the new drivers stand behind those of the index
pub new_are : (catalog : Catalog) (queue : Queue) (order : Drivers) (volumes : List ℕ) (place : ℕ) (all drivers : List ℕ) → AreNew catalog queue order volumes → all ≡ order.drivers → place ≡ length (order_in queue.index) → drivers ≡ drop place all
    → drivers ≡ drivers_of catalog volumes
new_are catalog queue order volumes place all drivers new is at behind =
    behind ∙ ap (λ n. drop n all) at ∙ ap (drop (length (order_in queue.index))) (is ∙ new.drivers) ∙ drop_at (order_in queue.index) (drivers_of catalog volumes) (length (order_in queue.index)) refl

pub new_differ : (catalog : Catalog) (queue : Queue) (order : Drivers) (volumes drivers : List ℕ) → AreNew catalog queue order volumes → drivers ≡ drivers_of catalog volumes → AllDiffer (order_in queue.index ++ drivers)
new_differ catalog queue order volumes drivers new are = subst AllDiffer (new.drivers ∙ ap (λ xs. order_in queue.index ++ xs) (sym are)) new.differ

-- what is kept for a catalogue, with another index of it
pub still_made : (catalog : Catalog) (queue later : Queue) → later.scheduled ≡ queue.scheduled → later.waits ≡ queue.waits → later.index.phase ≡ queue.index.phase → IsIndex catalog later.index → IsQueueFor catalog queue → IsQueueFor catalog later
still_made catalog queue later scheduled flags phase index q = record {
  flags = ap length flags ∙ q.flags;
  drivers = subst (λ xs. Each (IsDriver catalog) xs) (sym scheduled) q.drivers;
  index = index;
  phase = phase ∙ q.phase;
}

-- the drivers that wait and push a protocol have to be evaluated
pub changed_owes : (catalog : Catalog) (m : DxeMachine) (guid : Guid) (view queue later : Queue) → queue ≡ view → owed later ≤ owed queue + asked catalog queue.index guid → asked catalog queue.index guid ≡ dxe_asked catalog m guid
    → owed later ≤ owed view + dxe_asked catalog m guid
changed_owes catalog m guid view queue later is few same =
    let before : owed queue ≡ owed view = ap (λ q. owed q) is in
    sums (owed later) (owed queue) (owed view) _ _ before few same
  where
    sums : (now queue view asks bound : ℕ) → queue ≡ view → now ≤ queue + asks → asks ≡ bound → now ≤ view + bound
    sums now queue view asks bound before few same = omega (arith, before, few, same)
