-- A turn, from what its parts leave.
use Rattle.std.proofs.Common.{◌≡◌, ◌≤◌, ℕ, ◌+◌, Bool, true, false, List, [], ◌++◌, Option, Some, None, Ok, Err, Result, refl, sym, ap, ◌∙◌, subst, length, arith, inl, inr, IsErr, OnOk, sum_by, option_to_list, append-nil, length-append}
use Rattle.std.proofs.lemmas.Grind.{flat_map-append}
use Rattle.std.specs.Io.KnownBytes.{Appends}
use Rattle.boot_io.proofs.PutsLaws.{appends_none}
use Rattle.boot_io.specs.{Sink.AppendsPart, declared.halt.Halt.Halt}
use Rattle.pi_base.specs.declared.phase.Phase.TheVariants.{Dxe}
use Rattle.mod_catalog.specs.{declared.catalogue.Catalog.Catalog, Parts.part_at, Parts.parts_in}
use Rattle.store_model.specs.{HandleState.HandleState, StoreState.StoreState}
use Rattle.boot_model.specs.{declared.driver.Scheduled.Scheduled, declared.phase_end.DxeEnd.DxeEnd}
use Rattle.boot_model.specs.{declared.phase_end.DxeEnd.TheVariants.Done, DxeMachine.DxeMachine, Text.text_of}
use Rattle.boot_model.specs.DxeChoice.{a_priori_drivers, discovered_order, drivers_of}
use Rattle.boot_model.specs.DxeStep.{dxe_step, dxe_stopped, driver_started}
use Rattle.boot_laws.proofs.DriverGrowth.{driver_steps_grow}
use Rattle.boot_model.specs.{EvaluationBound.dxe_asked, EvaluationBound.dxe_guids, Licence.AllDiffer}
use Rattle.dxe_core.specs.{Order.Drivers, Order.IsOrderOf, declared.event.Event.Event, Standing.DxeCore, Standing.StandsFor}
use Rattle.wait_index.specs.Index.{order_in}
use Rattle.dxe_dispatch.specs.Queue.{AreNew, Discovers, HasVolumes, Queue, IsQueueOf, IsDriver, IsNext, ComesNext}
use Rattle.dxe_core.specs.Steps.{IsIdle, IsEvent, HasOver, HasStepped, IsCutOff}
use Rattle.dxe_core.specs.Turn.{Printed, PrintedPart}
use Rattle.boot_trace.specs.Printing.{Texts}
use Rattle.boot_laws.specs.declared.choice.Reached.TheVariants as R
use Rattle.dxe_dispatch.specs.{declared.answer.Turn.Turn, declared.answer.Turn.TheVariants.Took, declared.answer.Turn.TheVariants.Reached}
use Rattle.dxe_dispatch.specs.{Ends.IsNow, Events.HasEvent}
use Rattle.dxe_dispatch.specs.Turns.{AreLeft, AreKeptFor, HasTurned, IsGivenUp, IsHeldBack, IsLeft, HasTurnedToEnd, EvaluatesWithin, TurnsDxeTo, stop_lines}
use Rattle.dxe_dispatch.proofs.Idle.{left_queue, step_starts, step_stops, started_queue}
use Rattle.dxe_dispatch.proofs.Passing.{busy_passes, busy_starts_none, passes, starting, stop_passes, stop_starts_none}
use Rattle.boot_trace.proofs.Lines.{part_whole}
use Rattle.dxe_dispatch.proofs.{Runs.discovered_more, Standing.now_still}

-- the start of the driver that comes next, which is let
pub starts_so : (lets : ℕ → Bool) (catalog : Catalog) (fuel : ℕ) (later : DxeCore) (grown : Queue) (m : DxeMachine) (next : Scheduled) (t : Texts) (chosen : IsNext catalog m next grown) → IsIdle m → IsDriver catalog next → lets next.module_number ≡ true
    → HasStepped (HasOver catalog later m) m (driver_started catalog m next chosen.rest (part_at Dxe catalog next.module_number)) t
    → HasTurned lets (AreKeptFor catalog later grown) catalog m (dxe_step catalog fuel m) t
starts_so lets catalog fuel later grown m next t chosen idle driver may stepped =
    let P : DxeMachine → Type 0 = λ x. HasTurned lets (AreKeptFor catalog later grown) catalog m x t in
    let turned : P (driver_started catalog m next chosen.rest (part_at Dxe catalog next.module_number)) = record {
      passes = passes lets catalog m next chosen.rest idle chosen.next_is may;
      printed = stepped.printed;
      now = record { core = stepped.machine.core; queue = started_queue catalog m next grown chosen driver };
    } in
    subst P (sym (step_starts catalog fuel m next chosen.rest idle chosen.next_is)) turned

-- it is not let, and has left the queue
pub stays_so : (lets : ℕ → Bool) (catalog : Catalog) (core : DxeCore) (queue grown : Queue) (m : DxeMachine) (next : Scheduled) (text : Option (List ℕ)) (chosen : IsNext catalog m next grown) → IsIdle m → AreKeptFor catalog core queue m → lets next.module_number ≡ false
    → IsHeldBack lets (AreLeft catalog core grown) catalog m next.module_number (record { old = text; new = text })
stays_so lets catalog core queue grown m next text chosen idle are barred = record {
  starting = starting catalog m next chosen.rest idle chosen.next_is;
  barred = barred;
  text = appends_none text;
  left = record { core = are.core; left = left_queue catalog m next grown chosen };
}

-- where no driver comes next, DXE stops
pub stops_so : (lets : ℕ → Bool) (catalog : Catalog) (fuel : ℕ) (core : DxeCore) (queue grown : Queue) (m : DxeMachine) (t : Texts) → IsIdle m → AreKeptFor catalog core queue m → ComesNext catalog m None grown
    → Appends t.old t.new (text_of (stop_lines catalog m)) → HasTurnedToEnd lets (AreKeptFor catalog core grown) catalog m (dxe_step catalog fuel m) Done t
stops_so lets catalog fuel core queue grown m t idle are none put =
    let P : DxeMachine → Type 0 = λ x. HasTurnedToEnd lets (AreKeptFor catalog core grown) catalog m x Done t in
    let services = are.core.services in
    let index = none.1.index in
    let over : P (dxe_stopped catalog m) = record {
      passes = stop_passes lets catalog m idle none.0;
      none = stop_starts_none catalog m idle none.0;
      handles = refl;
      still = refl;
      ended = refl;
      printed = record { told = stop_lines catalog m; lines = refl; text = put };
      now = record {
        core = record { frames = are.core.frames; services = record { handles = services.handles; notes = services.notes; order = services.order; requested = services.requested }; actions = are.core.actions; running = refl };
        queue = record { scheduled = none.1.scheduled; left = none.1.left; waits = none.1.waits; index = record { phase = index.phase; order = index.order; waits = index.waits; opens = index.opens; again = index.again; installed = index.installed }; others = none.1.others };
      };
    } in
    subst P (sym (step_stops catalog fuel m idle none.0)) over

-- the machine behind what an event did, before volumes are discovered
abbrev pub told : DxeMachine → DxeMachine → DxeMachine
told m later = record m { handles = later.handles; requested = later.requested }

pub has_event : (catalog : Catalog) (fuel : ℕ) (m : DxeMachine) (event : Event) (handles : HandleState) → IsEvent catalog fuel m event → (dxe_step catalog fuel m).handles ≡ handles → HasEvent handles catalog event m (told m (dxe_step catalog fuel m))
has_event catalog fuel m event handles is same =
    record { same = same; others = is.others; requested = is.left.requested; in_order = is.left.in_order; discovered = refl; scheduled = refl; started = refl }

-- the drivers of the volumes that it discovered stand behind those of the index
pub new_drivers : (catalog : Catalog) (fuel : ℕ) (m : DxeMachine) (event : Event) (queue : Queue) (order : Drivers) (volumes : List ℕ) → (is : IsEvent catalog fuel m event) → IsOrderOf catalog (dxe_step catalog fuel m).discovered order
    → volumes ≡ is.left.volumes → order_in queue.index ≡ discovered_order catalog m → AllDiffer (discovered_order catalog (dxe_step catalog fuel m)) → AreNew catalog queue order volumes
new_drivers catalog fuel m event queue order volumes is o new here once = record {
  drivers = o.drivers_are ∙ ap (drivers_of catalog) is.left.discovered ∙ flat_map-append (parts_in Dxe catalog) m.discovered is.left.volumes
      ∙ ap (λ xs. xs ++ drivers_of catalog is.left.volumes) (sym here) ∙ ap (λ xs. order_in queue.index ++ drivers_of catalog xs) (sym new);
  differ = subst AllDiffer (sym o.drivers_are) once;
}

-- the event behind which the core stands for the later machine, with the queue that was told of it
pub event_so : {M : Type 0} (lets : ℕ → Bool) (stands : M → StoreState → Type 0) (store : M) (catalog : Catalog) (fuel : ℕ) (later : DxeCore) (mid grown : Queue) (m : DxeMachine) (event : Event) (volumes : List ℕ) (t : Texts)
    → (IsIdle m → ⊥) → (is : IsEvent catalog fuel m event) → volumes ≡ is.left.volumes → HasStepped (StandsFor stands store catalog later) m (dxe_step catalog fuel m) t → IsQueueOf catalog (told m (dxe_step catalog fuel m)) mid
    → Discovers catalog mid volumes grown → HasTurned lets (IsNow stands store catalog later grown) catalog m (dxe_step catalog fuel m) t
event_so lets stands store catalog fuel later mid grown m event volumes t busy is new stepped here discovers =
    let step : DxeMachine = dxe_step catalog fuel m in
    let has : HasVolumes catalog volumes (told m step) step = record {
      discovered = is.left.discovered ∙ ap (λ xs. m.discovered ++ xs) (sym new);
      scheduled = is.left.scheduled ∙ ap (λ xs. m.scheduled ++ a_priori_drivers catalog xs) (sym new);
      started = is.left.started;
      requested = refl;
      handles = refl;
    } in
    record { passes = busy_passes lets catalog m busy; printed = stepped.printed; now = record { machine = stepped.machine; queue = discovers (told m step) step here has } }

-- what has to be evaluated behind it
pub event_owes : (catalog : Catalog) (fuel : ℕ) (m : DxeMachine) (event : Event) (volumes : List ℕ) (steps before told_owes now : ℕ) → (is : IsEvent catalog fuel m event) → volumes ≡ is.left.volumes
    → told_owes ≤ before + sum_by (dxe_asked catalog m) (option_to_list event.changed) → now ≤ told_owes + length (drivers_of catalog volumes) → EvaluatesWithin catalog fuel m (steps + before) (steps + now)
event_owes catalog fuel m event volumes steps before told_owes now is new first second =
    let step : DxeMachine = dxe_step catalog fuel m in
    let all : length (discovered_order catalog step) ≡ length (discovered_order catalog m) + length (drivers_of catalog is.left.volumes) =
    ap (λ xs. length (drivers_of catalog xs)) is.left.discovered ∙ ap length (flat_map-append (parts_in Dxe catalog) m.discovered is.left.volumes) ∙ length-append (discovered_order catalog m) (drivers_of catalog is.left.volumes) in
    let asked : sum_by (dxe_asked catalog m) (option_to_list event.changed) ≡ sum_by (dxe_asked catalog m) (dxe_guids catalog fuel m) = ap (sum_by (dxe_asked catalog m)) is.changed in
    let more : length (drivers_of catalog volumes) ≡ length (drivers_of catalog is.left.volumes) = ap (λ xs. length (drivers_of catalog xs)) new in
    sums steps before told_owes now _ _ _ _ _ _ first second all asked more
  where
    sums : (steps before told_owes now by_event by_step here there new seen : ℕ) → told_owes ≤ before + by_event → now ≤ told_owes + seen → there ≡ here + new → by_event ≡ by_step → seen ≡ new
        → (steps + now) + here ≤ (steps + before) + (there + by_step)
    sums steps before told_owes now by_event by_step here there new seen first second all asked more = omega (arith, first, second, all, asked, more)

-- where nothing more has to be evaluated
pub owes_still : (catalog : Catalog) (fuel : ℕ) (m : DxeMachine) (before now : ℕ) → now ≤ before → EvaluatesWithin catalog fuel m before now
owes_still catalog fuel m before now few =
    let grown = driver_steps_grow catalog fuel m in
    let more = discovered_more catalog m.discovered grown.discovered.0 (dxe_step catalog fuel m).discovered grown.discovered.1 in
    sums before now _ _ _ few more
  where
    sums : (before now here there by_step : ℕ) → now ≤ before → here ≤ there → now + here ≤ before + (there + by_step)
    sums before now here there by_step few more = omega (arith, few, more)

-- all of a step of a script was put, which is a part
pub whole_part : (lets : ℕ → Bool) (catalog : Catalog) (m later : DxeMachine) (t : Texts) → (IsIdle m → ⊥) → Printed m later t → IsGivenUp lets catalog m later t
whole_part lets catalog m later t busy printed =
    inr (busy_passes lets catalog m busy, record { told = printed.told; lines = printed.lines; text = part_whole t.old t.new (text_of printed.told) printed.text })

-- the machine ends and nothing else changes
pub ends_so : {M : Type 0} (lets : ℕ → Bool) (stands : M → StoreState → Type 0) (store : M) (catalog : Catalog) (fuel : ℕ) (later : DxeCore) (queue : Queue) (m : DxeMachine) (end : DxeEnd) (t : Texts)
    → (IsIdle m → ⊥) → IsCutOff (StandsFor stands store catalog later) catalog fuel m end t → IsQueueOf catalog m queue
    → HasTurnedToEnd lets (IsNow stands store catalog later queue) catalog m (dxe_step catalog fuel m) end t
ends_so lets stands store catalog fuel later queue m end t busy ended was =
    let P : DxeMachine → Type 0 = λ x. HasTurnedToEnd lets (IsNow stands store catalog later queue) catalog m x end t in
    let over : P (record m { ended = Some end }) = record {
      passes = busy_passes lets catalog m busy;
      none = busy_starts_none catalog m busy;
      handles = refl;
      still = refl;
      ended = refl;
      printed = record { told = []; lines = sym (append-nil m.lines); text = ended.stayed.text };
      now = now_still stands store catalog later queue m m.lines (record { machine = ended.stayed.machine; queue = was });
    } in
    subst P (sym ended.ended) over

-- over the store, which stays
now_over : {M : Type 0} (stands : M → StoreState → Type 0) (store : M) (catalog : Catalog) (core : DxeCore) (queue : Queue) (m later : DxeMachine) → stands store m.store → later.store ≡ m.store
    → AreKeptFor catalog core queue later → IsNow stands store catalog core queue later
now_over stands store catalog core queue m later here same are =
    record { machine = record { store = let P : StoreState → Type 0 = λ s. stands store s in subst P (sym same) here; core = are.core }; queue = are.queue }

left_over : {M : Type 0} (stands : M → StoreState → Type 0) (store : M) (catalog : Catalog) (core : DxeCore) (queue : Queue) (m : DxeMachine) → stands store m.store → AreLeft catalog core queue m → IsLeft stands store catalog core queue m
left_over stands store catalog core queue m here are = record { machine = record { store = here; core = are.core }; left = are.left }

-- a start or the stop leaves the store
pub turns_over : {M : Type 0} (lets : ℕ → Bool) (stands : M → StoreState → Type 0) (store : M) (catalog : Catalog) (fuel : ℕ) (m : DxeMachine) (later : DxeCore) (queue : Queue) (t : Texts) (r : Result Turn Halt)
    → stands store m.store → TurnsDxeTo lets (AreKeptFor catalog later queue) (AreLeft catalog later queue) catalog fuel m t r
    → TurnsDxeTo lets (IsNow stands store catalog later queue) (IsLeft stands store catalog later queue) catalog fuel m t r
turns_over lets stands store catalog fuel m later queue t (Ok (Took step)) here turned =
    let now = now_over stands store catalog later queue m (dxe_step catalog fuel m) here (driver_steps_grow catalog fuel m).store turned.0.now in
    (record { passes = turned.0.passes; printed = turned.0.printed; now = now }, turned.1)
turns_over lets stands store catalog fuel m later queue t (Ok (Reached (R.End how))) here over = record {
  passes = over.passes;
  none = over.none;
  handles = over.handles;
  still = over.still;
  ended = over.ended;
  printed = over.printed;
  now = now_over stands store catalog later queue m (record (dxe_step catalog fuel m) { ended = None }) here (driver_steps_grow catalog fuel m).store over.now;
}
turns_over lets stands store catalog fuel m later queue t (Ok (Reached (R.Barred number))) here held = record {
  starting = held.starting;
  barred = held.barred;
  text = held.text;
  left = left_over stands store catalog later queue m here held.left;
}
turns_over lets stands store catalog fuel m later queue t (Err halt) here up = up

pub on_ok : {A E P Q : Type 0} (result : Result A E) → (P → Q) → OnOk result P → OnOk result Q
on_ok (Ok done) f p = f p
on_ok (Err fault) f p = tt

-- what is left where a call went well is owed by no refusal
pub not_ok : {A E : Type 0} (P : Type 0) (result : Result A E) → IsErr result → OnOk result P
not_ok P (Ok done) e = cc
not_ok P (Err fault) e = tt

-- a start that is let was put in part
pub part_started : (lets : ℕ → Bool) (catalog : Catalog) (fuel : ℕ) (m : DxeMachine) (next : Scheduled) (grown : Queue) (t : Texts) (chosen : IsNext catalog m next grown) → IsIdle m → lets next.module_number ≡ true
    → PrintedPart m (driver_started catalog m next chosen.rest (part_at Dxe catalog next.module_number)) t → IsGivenUp lets catalog m (dxe_step catalog fuel m) t
part_started lets catalog fuel m next grown t chosen idle may part =
    let P : DxeMachine → Type 0 = λ x. PrintedPart m x t in
    inr (passes lets catalog m next chosen.rest idle chosen.next_is may, subst P (sym (step_starts catalog fuel m next chosen.rest idle chosen.next_is)) part)

-- the stop was put in part
pub part_stopped : (lets : ℕ → Bool) (catalog : Catalog) (fuel : ℕ) (m : DxeMachine) (grown : Queue) (t : Texts) → IsIdle m → ComesNext catalog m None grown → AppendsPart t.old t.new (text_of (stop_lines catalog m)) → IsGivenUp lets catalog m (dxe_step catalog fuel m) t
part_stopped lets catalog fuel m grown t idle none put =
    let P : DxeMachine → Type 0 = λ x. PrintedPart m x t in
    let part : P (dxe_stopped catalog m) = record { told = stop_lines catalog m; lines = refl; text = put } in
    inr (stop_passes lets catalog m idle none.0, subst P (sym (step_stops catalog fuel m idle none.0)) part)

-- a step of a script that runs was put in part
pub part_acted : (lets : ℕ → Bool) (catalog : Catalog) (fuel : ℕ) (m : DxeMachine) (t : Texts) → (IsIdle m → ⊥) → PrintedPart m (dxe_step catalog fuel m) t → IsGivenUp lets catalog m (dxe_step catalog fuel m) t
part_acted lets catalog fuel m t busy part = inr (busy_passes lets catalog m busy, part)

-- nothing was put
pub none_put : (lets : ℕ → Bool) (catalog : Catalog) (m later : DxeMachine) (text : Option (List ℕ)) → IsGivenUp lets catalog m later (record { old = text; new = text })
none_put lets catalog m later text = inl (appends_none text)
