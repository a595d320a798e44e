-- The machine for which the index of the waiting drivers stands, where something of it changes.
use Rattle.std.proofs.Common.{◌≡◌, ℕ, ◌==◌, Bool, true, false, ◌&&◌, ◌||◌, not, cond, List, [], ◌∷◌, ◌++◌, Some, refl, sym, ap, ◌∙◌, slice_get, unwrap_or}
use Rattle.std.specs.List.{list_any}
use Rattle.std.proofs.{lemmas.Grind.flat_map-append, lemmas.List.Folds.list_any-append, lemmas.Slice.Eq.bytes_eq-Decides}
use Rattle.pi_base.specs.{GuidMap.value_of, declared.guid.Guid.Guid, declared.phase.Phase.TheVariants.Dxe, Guids.same_guid}
use Rattle.mod_catalog.specs.declared.catalogue.Catalog.{Catalog}
use Rattle.mod_catalog.specs.Parts.{has_number, part_at, parts_in}
use Rattle.store_model.specs.HandleState.{has_protocol}
use Rattle.boot_model.specs.{declared.driver.Scheduled.Scheduled, DxeMachine.DxeMachine, Licence.AllDiffer}
use Rattle.boot_model.specs.DxeChoice.{asks_for_request, discovered_order, drivers_of, is_waiting}
use Rattle.boot_laws.proofs.PartLists.{is_equal}
use Rattle.wait_index.specs.{declared.index.WaitIndex.WaitIndex, declared.installed.Installed.Installed}
use Rattle.wait_index.specs.{declared.standing.Standing.Standing, Discovery.HaveCome, Dispatch.StandsForDxe, Installed.is_there}
use Rattle.wait_index.specs.Index.{IsSame, IsSet, again_in, has_in, is_open_in, order_in, waits_in}
use Rattle.wait_index.specs.Places.{standing_of, unknown}
use Rattle.dxe_dispatch.specs.Index.{IsRequested, WaitNoMore, is_scheduled_in}
use Rattle.dxe_dispatch.specs.Queue.{AreUntouched, HasProtocol, HasRequest}

-- which protocols are there, for the same slots
same_there : (catalog : Catalog) (m later : DxeMachine) (old new : WaitIndex) → new.installed ≡ old.installed → later.handles ≡ m.handles → StandsForDxe catalog m old
    → (guid : Guid) (slot : ℕ) → value_of new.installed.slots guid ≡ Some slot → has_in new guid ≡ has_protocol later.handles guid
same_there catalog m later old new same handles s guid slot at =
    ap (λ (i : Installed). is_there i guid) same
    ∙ s.installed guid slot (ap (λ (i : Installed). value_of i.slots guid) (sym same) ∙ at)
    ∙ ap (λ h. has_protocol h guid) (sym handles)

-- which drivers wait, where the queue and the starts stay
pub waiting_same : (m later : DxeMachine) → later.scheduled ≡ m.scheduled → later.started ≡ m.started → (n : ℕ) → is_waiting later n ≡ is_waiting m n
waiting_same m later scheduled started n =
    ap (λ xs. not (list_any (λ (next : Scheduled). next.module_number == n) xs) && not (has_number later.started n)) scheduled
    ∙ ap (λ ns. not (list_any (λ (next : Scheduled). next.module_number == n) m.scheduled) && not (has_number ns n)) started

-- drivers are scheduled
pub stands_scheduled : (catalog : Catalog) (m later : DxeMachine) (added : List Scheduled) (old new : WaitIndex) → StandsForDxe catalog m old → WaitNoMore (is_scheduled_in added) old new
    → later.discovered ≡ m.discovered → later.requested ≡ m.requested → later.handles ≡ m.handles → ((n : ℕ) → is_waiting later n ≡ (not (is_scheduled_in added n) && is_waiting m n)) → StandsForDxe catalog later new
stands_scheduled catalog m later added old new s w discovered requested handles waits =
    let known : (n : ℕ) → has_number (order_in new) n ≡ true → has_number (order_in old) n ≡ true = λ n h. ap (λ xs. has_number xs n) (sym w.order) ∙ h in
    record {
      phase = w.phase ∙ s.phase;
      order = w.order ∙ s.order ∙ ap (drivers_of catalog) (sym discovered);
      waits = λ n h. w.waits n (known n h) ∙ ap (λ b. not (is_scheduled_in added n) && b) (s.waits n (known n h)) ∙ sym (waits n);
      opens = λ n h. w.opens n ∙ s.opens n (known n h) ∙ ap (λ ns. not (asks_for_request (part_at Dxe catalog n) && not (has_number ns n))) (sym requested);
      again = λ n h. w.again n (s.again n (known n h));
      installed = same_there catalog m later old new w.installed handles s;
    }

-- expressions are evaluated
pub stands_settled : (catalog : Catalog) (m : DxeMachine) (old new : WaitIndex) → StandsForDxe catalog m old → IsSame old new → StandsForDxe catalog m new
stands_settled catalog m old new s same =
    let known : (n : ℕ) → has_number (order_in new) n ≡ true → has_number (order_in old) n ≡ true = λ n h. ap (λ xs. has_number xs n) (sym same.kept.order) ∙ h in
    record {
      phase = same.phase ∙ s.phase;
      order = same.kept.order ∙ s.order;
      waits = λ n h. (same.kept.alike n).waits ∙ s.waits n (known n h);
      opens = λ n h. (same.kept.alike n).«open» ∙ s.opens n (known n h);
      again = λ n h. (same.kept.alike n).again ∙ s.again n (known n h);
      installed = same_there catalog m m old new same.installed refl s;
    }

same_is : (a b : Guid) → same_guid a b ≡ true → a ≡ b
same_is a b h = ap (λ bytes. record { 0 = bytes }) ((bytes_eq-Decides a.0 b.0).0 h)

there_by : (catalog : Catalog) (m later : DxeMachine) (guid other : Guid) (there before : Bool) (b : Bool) → same_guid guid other ≡ b → HasProtocol guid there m later → before ≡ has_protocol m.handles other
    → cond b there before ≡ has_protocol later.handles other
there_by catalog m later guid other there before true e has was = sym has.here ∙ ap (has_protocol later.handles) (same_is guid other e)
there_by catalog m later guid other there before false e has was = was ∙ sym (has.others other e)

-- a protocol is there now, or is not
pub stands_changed : (catalog : Catalog) (m later : DxeMachine) (guid : Guid) (there : Bool) (old new : WaitIndex) → StandsForDxe catalog m old → IsSet catalog guid there old new → HasProtocol guid there m later → StandsForDxe catalog later new
stands_changed catalog m later guid there old new s set has =
    let order : order_in new ≡ order_in old = ap (λ xs. xs.items) set.order in
    let known : (n : ℕ) → has_number (order_in new) n ≡ true → has_number (order_in old) n ≡ true = λ n h. ap (λ xs. has_number xs n) (sym order) ∙ h in
    let stands : (n : ℕ) → standing_of new.places n ≡ standing_of old.places n = λ n. ap (λ (ss : List Standing). unwrap_or (slice_get ss n) unknown) set.standings in
    let waiting = waiting_same m later has.scheduled has.started in
    record {
      phase = set.phase ∙ s.phase;
      order = order ∙ s.order ∙ ap (drivers_of catalog) (sym has.discovered);
      waits = λ n h. ap (λ (t : Standing). t.waits) (stands n) ∙ s.waits n (known n h) ∙ sym (waiting n);
      opens = λ n h. ap (λ (t : Standing). t.«open») (stands n) ∙ s.opens n (known n h) ∙ ap (λ ns. not (asks_for_request (part_at Dxe catalog n) && not (has_number ns n))) (sym has.requested);
      again = λ n h. ap (λ (t : Standing). t.again) (stands n) ∙ s.again n (known n h);
      installed = λ other slot at.
          let before = ap (λ slots. value_of slots other) (sym set.slots) ∙ at in
          set.has other slot before ∙ there_by catalog m later guid other there (has_in old other) (same_guid guid other) refl has (s.installed other slot before);
    }

-- whether one of two lists has a number
has_either : (xs ys : List ℕ) (n : ℕ) → has_number (xs ++ ys) n ≡ (has_number xs n || has_number ys n)
has_either xs ys n = list_any-append (λ x. x == n) xs ys

in_first : (a b : Bool) → (a || b) ≡ true → b ≡ false → a ≡ true
in_first true b h e = refl
in_first false b h e = cc

pub in_neither : (a b : Bool) → (a || b) ≡ false → (a ≡ false) × (b ≡ false)
in_neither true b h = cc
in_neither false b h = (refl, h)

later_has : (a b : Bool) → b ≡ true → (a || b) ≡ true
later_has true b h = refl
later_has false b h = h

lacks_by : (x : ℕ) (xs ys : List ℕ) (n : ℕ) (b : Bool) → (x == n) ≡ b → has_number (xs ++ ys) x ≡ false → has_number ys n ≡ true → has_number xs n ≡ false → (b || has_number xs n) ≡ false
lacks_by x xs ys n true e d h on =
    let there : has_number (xs ++ ys) n ≡ true = has_either xs ys n ∙ later_has (has_number xs n) (has_number ys n) h in
    let never : has_number (xs ++ ys) n ≡ false = ap (has_number (xs ++ ys)) (sym (is_equal x n e)) ∙ d in
    absurd (cc)
lacks_by x xs ys n false e d h on = on

-- a number behind the others is none of them
pub first_lacks : (xs ys : List ℕ) (n : ℕ) → AllDiffer (xs ++ ys) → has_number ys n ≡ true → has_number xs n ≡ false
first_lacks [] ys n d h = refl
first_lacks (x ∷ xs) ys n d h = lacks_by x xs ys n (x == n) refl d.0 h (first_lacks xs ys n d.1 h)

and_true : (b : Bool) → (b && true) ≡ b
and_true true = refl
and_true false = refl

-- volumes are discovered
pub stands_come : (catalog : Catalog) (m later : DxeMachine) (volumes drivers : List ℕ) (old new : WaitIndex) → StandsForDxe catalog m old → AreUntouched catalog m
    → new.phase ≡ old.phase → new.installed ≡ old.installed → HaveCome Dxe catalog drivers old.places new.places → drivers ≡ drivers_of catalog volumes → AllDiffer (order_in old ++ drivers)
    → later.discovered ≡ m.discovered ++ volumes → later.requested ≡ m.requested → later.handles ≡ m.handles → ((n : ℕ) → is_waiting later n ≡ is_waiting m n) → StandsForDxe catalog later new
stands_come catalog m later volumes drivers old new s others phase installed come are differ discovered requested handles waiting =
    let first : (n : ℕ) → has_number drivers n ≡ true → has_number (discovered_order catalog m) n ≡ false = λ n h. ap (λ xs. has_number xs n) (sym s.order) ∙ first_lacks (order_in old) drivers n differ h in
    let before : (n : ℕ) → has_number (order_in new) n ≡ true → has_number drivers n ≡ false → has_number (order_in old) n ≡ true =
    λ n h e. in_first (has_number (order_in old) n) (has_number drivers n) (sym (has_either (order_in old) drivers n) ∙ ap (λ xs. has_number xs n) (sym come.order) ∙ h) e in
    record {
      phase = phase ∙ s.phase;
      order = come.order ∙ ap (λ xs. xs ++ drivers) s.order ∙ ap (λ xs. discovered_order catalog m ++ xs) are ∙ sym (flat_map-append (parts_in Dxe catalog) m.discovered volumes) ∙ ap (drivers_of catalog) (sym discovered);
      waits = λ n h. waits_by n h (has_number drivers n) refl first before ∙ sym (waiting n);
      opens = λ n h. opens_by n h (has_number drivers n) refl first before ∙ ap (λ ns. not (asks_for_request (part_at Dxe catalog n) && not (has_number ns n))) (sym requested);
      again = λ n h. again_by n h (has_number drivers n) refl before;
      installed = same_there catalog m later old new installed handles s;
    }
  where
    waits_by : (n : ℕ) → has_number (order_in new) n ≡ true → (b : Bool) → has_number drivers n ≡ b → ((n : ℕ) → has_number drivers n ≡ true → has_number (discovered_order catalog m) n ≡ false)
        → ((n : ℕ) → has_number (order_in new) n ≡ true → has_number drivers n ≡ false → has_number (order_in old) n ≡ true) → waits_in new n ≡ is_waiting m n
    waits_by n h true e first before = (come.new_ones n e).waits ∙ sym ((others n (first n e)).0)
    waits_by n h false e first before = ap (λ (t : Standing). t.waits) (come.others n e) ∙ s.waits n (before n h e)

    opens_by : (n : ℕ) → has_number (order_in new) n ≡ true → (b : Bool) → has_number drivers n ≡ b → ((n : ℕ) → has_number drivers n ≡ true → has_number (discovered_order catalog m) n ≡ false)
        → ((n : ℕ) → has_number (order_in new) n ≡ true → has_number drivers n ≡ false → has_number (order_in old) n ≡ true)
        → is_open_in new n ≡ not (asks_for_request (part_at Dxe catalog n) && not (has_number m.requested n))
    opens_by n h true e first before =
        (come.new_ones n e).«open»
        ∙ sym (ap (λ b. not (asks_for_request (part_at Dxe catalog n) && not b)) ((others n (first n e)).1) ∙ ap not (and_true (asks_for_request (part_at Dxe catalog n))))
    opens_by n h false e first before = ap (λ (t : Standing). t.«open») (come.others n e) ∙ s.opens n (before n h e)

    again_by : (n : ℕ) → has_number (order_in new) n ≡ true → (b : Bool) → has_number drivers n ≡ b
        → ((n : ℕ) → has_number (order_in new) n ≡ true → has_number drivers n ≡ false → has_number (order_in old) n ≡ true) → again_in new n ≡ false
    again_by n h true e before = (come.new_ones n e).again
    again_by n h false e before = ap (λ (t : Standing). t.again) (come.others n e) ∙ s.again n (before n h e)

asked_too : (e a r : Bool) → (e || not (a && not r)) ≡ not (a && not (r || (e || false)))
asked_too true true true = refl
asked_too true true false = refl
asked_too true false r = refl
asked_too false true true = refl
asked_too false true false = refl
asked_too false false r = refl

-- a driver is requested
pub stands_requested : (catalog : Catalog) (m later : DxeMachine) (number : ℕ) (old new : WaitIndex) → StandsForDxe catalog m old → IsRequested number old new → HasRequest catalog number m later → StandsForDxe catalog later new
stands_requested catalog m later number old new s is has =
    let known : (n : ℕ) → has_number (order_in new) n ≡ true → has_number (order_in old) n ≡ true = λ n h. ap (λ xs. has_number xs n) (sym is.order) ∙ h in
    let waiting = waiting_same m later has.scheduled has.started in
    record {
      phase = is.phase ∙ s.phase;
      order = is.order ∙ s.order ∙ ap (drivers_of catalog) (sym has.discovered);
      waits = λ n h. is.waits n ∙ s.waits n (known n h) ∙ sym (waiting n);
      opens = λ n h.
          is.opens n (known n h)
          ∙ ap (λ b. (number == n) || b) (s.opens n (known n h))
          ∙ asked_too (number == n) (asks_for_request (part_at Dxe catalog n)) (has_number m.requested n)
          ∙ ap (λ b. not (asks_for_request (part_at Dxe catalog n) && not b)) (sym (has_either m.requested (number ∷ []) n) ∙ ap (λ ns. has_number ns n) (sym has.requested));
      again = λ n h. is.again n ∙ s.again n (known n h);
      installed = same_there catalog m later old new is.installed has.handles s;
    }

lacks_one : (number n : ℕ) (order : List ℕ) (b : Bool) → (number == n) ≡ b → has_number order number ≡ true → has_number order n ≡ false → (b || false) ≡ false
lacks_one number n order true e has none = let there : has_number order n ≡ true = ap (has_number order) (sym (is_equal number n e)) ∙ has in absurd (cc)
lacks_one number n order false e has none = refl

either_none : (a b : Bool) → a ≡ false → b ≡ false → (a || b) ≡ false
either_none a b h k = cc

-- the others are untouched still
pub untouched_requested : (catalog : Catalog) (m later : DxeMachine) (number : ℕ) → AreUntouched catalog m → HasRequest catalog number m later → AreUntouched catalog later
untouched_requested catalog m later number others has n h =
    let none : has_number (discovered_order catalog m) n ≡ false = ap (λ volumes. has_number (drivers_of catalog volumes) n) (sym has.discovered) ∙ h in
    let was = others n none in (
      waiting_same m later has.scheduled has.started n ∙ was.0,
      ap (λ ns. has_number ns n) has.requested ∙ has_either m.requested (number ∷ []) n
          ∙ either_none (has_number m.requested n) ((number == n) || false) was.1 (lacks_one number n (discovered_order catalog m) (number == n) refl has.known none),
    )

pub untouched_changed : (catalog : Catalog) (m later : DxeMachine) (guid : Guid) (there : Bool) → AreUntouched catalog m → HasProtocol guid there m later → AreUntouched catalog later
untouched_changed catalog m later guid there others has n h =
    let was = others n (ap (λ volumes. has_number (drivers_of catalog volumes) n) (sym has.discovered) ∙ h) in (
      waiting_same m later has.scheduled has.started n ∙ was.0,
      ap (λ ns. has_number ns n) has.requested ∙ was.1,
    )

-- where a number is among none of two
pub none_before : (catalog : Catalog) (old more : List ℕ) (n : ℕ) → has_number (drivers_of catalog (old ++ more)) n ≡ false → (has_number (drivers_of catalog old) n ≡ false) × (has_number (drivers_of catalog more) n ≡ false)
none_before catalog old more n h =
    in_neither (has_number (drivers_of catalog old) n) (has_number (drivers_of catalog more) n)
    (sym (has_either (drivers_of catalog old) (drivers_of catalog more) n) ∙ ap (λ xs. has_number xs n) (sym (flat_map-append (parts_in Dxe catalog) old more)) ∙ h)
