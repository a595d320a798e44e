-- The machine for which the core and the queue stand, seen by what chooses the next driver, and with other lines.
use Rattle.std.proofs.Common.{◌≡◌, ℕ, ◌==◌, ◌&&◌, not, List, length, None, refl, sym, ap, ◌∙◌, subst}
use Rattle.std.specs.List.{list_any}
use Rattle.pi_base.specs.{declared.guid.Guid.Guid, declared.phase.Phase.TheVariants.Dxe}
use Rattle.mod_catalog.specs.{declared.catalogue.Catalog.Catalog, Parts.has_number, Parts.part_at}
use Rattle.store_model.specs.{HandleState.has_protocol, StoreState.StoreState}
use Rattle.boot_model.specs.{declared.driver.Scheduled.Scheduled, declared.line.Line.Line, DxeMachine.DxeMachine}
use Rattle.boot_model.specs.DxeChoice.{asks_for_request, drivers_of, is_waiting}
use Rattle.dxe_core.specs.{Order.Drivers, Order.IsOrderOf, Standing.DxeCore, Standing.IsCoreOf}
use Rattle.dxe_dispatch.specs.Queue.{Queue, IsQueueOf, IsSeen}
use Rattle.dxe_dispatch.specs.{Ends.IsNow, Turns.AreKeptFor}

-- by what the core keeps
pub seen_so : (catalog : Catalog) (core : DxeCore) (queue : Queue) (m : DxeMachine) (order : Drivers) → order ≡ core.services.order → AreKeptFor catalog core queue m → IsSeen catalog m queue order
seen_so catalog core queue m order order_is are =
    let P : Drivers → Type 0 = λ drivers. IsOrderOf catalog m.discovered drivers in
    record { queue = are.queue; order = subst P (sym order_is) are.core.services.order }

-- a machine with the same lists of drivers and the same protocols
pub queue_same : (catalog : Catalog) (queue : Queue) (m later : DxeMachine) → IsQueueOf catalog m queue → later.discovered ≡ m.discovered → later.requested ≡ m.requested → later.scheduled ≡ m.scheduled → later.started ≡ m.started
    → ((guid : Guid) → has_protocol later.handles guid ≡ has_protocol m.handles guid) → IsQueueOf catalog later queue
queue_same catalog queue m later is discovered requested scheduled started protocols =
    let stands = is.index in
    let waiting : (n : ℕ) → is_waiting later n ≡ is_waiting m n =
    λ n. ap (λ xs. not (list_any (λ (next : Scheduled). next.module_number == n) xs) && not (has_number later.started n)) scheduled
    ∙ ap (λ ns. not (list_any (λ (next : Scheduled). next.module_number == n) m.scheduled) && not (has_number ns n)) started in
    record {
      scheduled = scheduled ∙ is.scheduled;
      left = is.left ∙ ap length (sym started);
      waits = λ n. is.waits n ∙ sym (waiting n);
      index = record {
        phase = stands.phase;
        order = stands.order ∙ ap (drivers_of catalog) (sym discovered);
        waits = λ n known. stands.waits n known ∙ sym (waiting n);
        opens = λ n known. stands.opens n known ∙ ap (λ ns. not (asks_for_request (part_at Dxe catalog n) && not (has_number ns n))) (sym requested);
        again = stands.again;
        installed = λ guid slot at. stands.installed guid slot at ∙ sym (protocols guid);
      };
      others = λ n none.
          let was = is.others n (ap (λ volumes. has_number (drivers_of catalog volumes) n) (sym discovered) ∙ none) in
          (waiting n ∙ was.0, ap (λ ns. has_number ns n) requested ∙ was.1);
    }

-- lines that were put change nothing that the core keeps
core_still : (catalog : Catalog) (core : DxeCore) (m : DxeMachine) (lines : List Line) → IsCoreOf catalog core m → IsCoreOf catalog core (record m { lines = lines; ended = None })
core_still catalog core m lines is = record {
  frames = is.frames;
  services = record { handles = is.services.handles; notes = is.services.notes; order = is.services.order; requested = is.services.requested };
  actions = is.actions;
  running = refl;
}

queue_still : (catalog : Catalog) (queue : Queue) (m : DxeMachine) (lines : List Line) → IsQueueOf catalog m queue → IsQueueOf catalog (record m { lines = lines; ended = None }) queue
queue_still catalog queue m lines is = queue_same catalog queue m (record m { lines = lines; ended = None }) is refl refl refl refl (λ guid. refl)

pub now_still : {M : Type 0} (stands : M → StoreState → Type 0) (store : M) (catalog : Catalog) (core : DxeCore) (queue : Queue) (m : DxeMachine) (lines : List Line) → IsNow stands store catalog core queue m
    → IsNow stands store catalog core queue (record m { lines = lines; ended = None })
now_still stands store catalog core queue m lines now = record {
  machine = record { store = now.machine.store; core = core_still catalog core m lines now.machine.core };
  queue = queue_still catalog queue m lines now.queue;
}
