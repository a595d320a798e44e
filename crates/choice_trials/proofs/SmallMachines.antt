-- Machines of DXE for the tests: some volumes are discovered, protocols are installed, the first driver is requested or none, and each start leaves the queue.
use Rattle.std.proofs.Common.{◌≡◌, ℕ, ◌<◌, get_or, length, Bool, true, false, cond, ◌&&◌, ◌||◌, List, [], ◌∷◌, ◌++◌, Some, None, Result, Ok, Err, refl, sym, ap, subst, ◌∙◌, arith, OnOk}
use Rattle.std.proofs.{lemmas.List.Folds.list_any-append, lemmas.Slice.Eq.bytes_eq-Decides}
use Rattle.pi_base.specs.{declared.guid.Guid.Guid, Guids.same_guid}
use Rattle.mod_catalog.specs.{declared.catalogue.Catalog.Catalog, Parts.has_number}
use Rattle.store_model.specs.{StoreState.Range, StoreState.StoreState, declared.interface.Interface.Interface}
use Rattle.store_model.specs.HandleState.{has_protocol, no_handles}
use Rattle.boot_model.specs.{declared.driver.Scheduled.Scheduled, DxeMachine.DxeMachine, Licence.AllDiffer}
use Rattle.boot_model.specs.DxeChoice.{a_priori_drivers, drivers_of, group_scheduled}
use Rattle.boot_laws.proofs.EachDriver.{has_each_once}
use Rattle.boot_model.proofs.{Distinct.all_distinct, ListFacts.has_first}
use Rattle.dxe_core.specs.Order.{Drivers, IsOrderOf}
use Rattle.dxe_dispatch.specs.Aim.{aimed, is_free, may_be_next}
use Rattle.dxe_dispatch.specs.Queue.{AreNew, Changes, Discovers, HasProtocol, IsNewQueue, IsNext, IsQueueOf, IsSeen, Queue, Requests}

nowhere : Range
nowhere = record { base = 0; len = 0 }

pub empty_store : StoreState
empty_store = record {
  board = record { temp = nowhere; pages = 0; ram = nowhere; roms = [] };
  hobs = [];
  ppis = [];
  callbacks = [];
  dispatches = [];
  pendings = [];
  base = 0;
  len = 0;
  page_end = 0;
  taken = 0;
  boot_mode = 0;
  planned = None;
  moved = false;
}

abbrev machine_of : List ℕ → List Scheduled → DxeMachine
machine_of discovered scheduled = record {
  store = empty_store;
  discovered = discovered;
  requested = [];
  scheduled = scheduled;
  started = [];
  handles = no_handles;
  notes = [];
  frames = [];
  actions = 0;
  lines = [];
  ended = None;
}

-- the drivers are those of the volumes, each once
pub new_drivers : (catalog : Catalog) (volumes : List ℕ) (order : Drivers) (new : Queue) (told : List ℕ) → IsOrderOf catalog volumes order → IsNewQueue catalog new → told ≡ order.volumes → AreNew catalog new order told
new_drivers catalog volumes order new told o is all =
    let are : order.drivers ≡ drivers_of catalog told = o.drivers_are ∙ ap (drivers_of catalog) (sym (all ∙ o.volumes_are)) in
    record {
      drivers = are ∙ ap (λ xs. xs ++ drivers_of catalog told) (sym is.order);
      differ = subst AllDiffer (sym o.drivers_are) (has_each_once catalog (machine_of volumes []) (all_distinct volumes o.known.differ)).once;
    }

-- the opening, once the a priori drivers are scheduled
pub seen_first : (catalog : Catalog) (volumes : List ℕ) (order : Drivers) (new queue : Queue) → IsOrderOf catalog volumes order → IsNewQueue catalog new → (told : List ℕ) → told ≡ order.volumes → Discovers catalog new told queue
    → (m : DxeMachine) × IsSeen catalog m queue order
seen_first catalog volumes order new queue o is told all discovers =
    let before = machine_of [] [] in
    let m = machine_of told (a_priori_drivers catalog told) in (
      m,
      record {
        queue = discovers before m (is.of before (record { discovered = refl; requested = refl; scheduled = refl; started = refl; handles = refl }))
            (record { discovered = refl; scheduled = refl; started = refl; requested = refl; handles = refl });
        order = subst (λ found. IsOrderOf catalog found order) (sym (all ∙ o.volumes_are)) o;
      },
    )

-- a protocol more
abbrev with_protocol : DxeMachine → Guid → DxeMachine
with_protocol m guid = record m { handles = record m.handles { interfaces = m.handles.interfaces ++ record { handle = 1; guid = guid; value = 1 } ∷ [] } }

has_more : (m : DxeMachine) (guid other : Guid) → has_protocol (with_protocol m guid).handles other ≡ (has_protocol m.handles other || (same_guid guid other || false))
has_more m guid other = list_any-append (λ (i : Interface). same_guid i.guid other) m.handles.interfaces (record { handle = 1; guid = guid; value = 1 } ∷ [])

or_true : (a b : Bool) → b ≡ true → (a || (b || false)) ≡ true
or_true true b h = refl
or_true false true h = refl
or_true false false h = h

or_false : (a b : Bool) → b ≡ false → (a || (b || false)) ≡ a
or_false true b h = refl
or_false false true h = h
or_false false false h = refl

has_now : (m : DxeMachine) (guid : Guid) → HasProtocol guid true m (with_protocol m guid)
has_now m guid = record {
  here = has_more m guid guid ∙ or_true (has_protocol m.handles guid) (same_guid guid guid) ((bytes_eq-Decides guid.0 guid.0).1 refl);
  others = λ other apart. has_more m guid other ∙ or_false (has_protocol m.handles other) (same_guid guid other) apart;
  discovered = refl;
  requested = refl;
  scheduled = refl;
  started = refl;
}

pub seen_changed : (catalog : Catalog) (queue later : Queue) (order : Drivers) (guid : Guid) → ((m : DxeMachine) × IsSeen catalog m queue order) → Changes catalog queue guid true later → (m : DxeMachine) × IsSeen catalog m later order
seen_changed catalog queue later order guid seen changes =
    let m = seen.0 in (with_protocol m guid, record { queue = changes m (with_protocol m guid) seen.1.queue (has_now m guid); order = seen.1.order })

-- the first driver is requested
first_known : (xs : List ℕ) (n : ℕ) → 0 < length xs → n ≡ get_or xs 0 n → has_number xs n ≡ true
first_known [] n some e = absurd (omega (arith, some))
first_known (x ∷ xs) n some e = subst (λ k. has_number (x ∷ xs) k ≡ true) (sym e) (has_first x xs)

pub seen_requested : (catalog : Catalog) (queue later : Queue) (order : Drivers) (drivers : List ℕ) (number : ℕ) → ((m : DxeMachine) × IsSeen catalog m queue order) → drivers ≡ order.drivers → 0 < length drivers → number ≡ get_or drivers 0 number
    → Requests catalog queue number later → (m : DxeMachine) × IsSeen catalog m later order
seen_requested catalog queue later order drivers number seen are some first requests =
    let m = seen.0 in
    let asked : DxeMachine = record m { requested = m.requested ++ number ∷ [] } in
    let known = subst (λ xs. has_number xs number ≡ true) (are ∙ seen.1.order.drivers_are) (first_known drivers number some first) in
    (asked, record { queue = requests m asked seen.1.queue (record { known = known; requested = refl; discovered = refl; scheduled = refl; started = refl; handles = refl }); order = seen.1.order })

-- one start later
pub seen_on : (catalog : Catalog) (queue later : Queue) (order : Drivers) (next : Scheduled) → ((m : DxeMachine) × IsSeen catalog m queue order) → ((m : DxeMachine) → IsSeen catalog m queue order → IsNext catalog m next later)
    → (m : DxeMachine) × IsSeen catalog m later order
seen_on catalog queue later order next seen row =
    let m = seen.0 in
    let n = row m seen.1 in
    let begun : DxeMachine = record m { scheduled = n.rest; started = next.module_number ∷ m.started } in
    (begun, record { queue = n.behind begun (record { scheduled = refl; started = refl; discovered = refl; requested = refl; handles = refl }); order = seen.1.order })

-- the machine at which a choice is aimed
aimed_discovered : (catalog : Catalog) (m : DxeMachine) (root : ℕ) → (aimed catalog m root).discovered ≡ m.discovered
aimed_discovered catalog m root = by (is_free m.scheduled && may_be_next catalog m root)
  where
    by : (b : Bool) → (cond b (record m { scheduled = group_scheduled catalog m (Some root) }) m).discovered ≡ m.discovered
    by true = refl
    by false = refl

pub seen_aimed : (catalog : Catalog) (root : ℕ) (old new : Queue) (order : Drivers) → ((m : DxeMachine) × IsSeen catalog m old order) → ((m : DxeMachine) → IsSeen catalog m old order → IsQueueOf catalog (aimed catalog m root) new)
    → (m : DxeMachine) × IsSeen catalog m new order
seen_aimed catalog root old new order seen row =
    let m = seen.0 in
    (aimed catalog m root, record { queue = row m seen.1; order = subst (λ volumes. IsOrderOf catalog volumes order) (sym (aimed_discovered catalog m root)) seen.1.order })

pub on_ok : {E P Q : Type 0} (result : Result (Unit {0}) E) → (P → Q) → OnOk result P → OnOk result Q
on_ok (Ok done) f p = f p
on_ok (Err fault) f p = tt
