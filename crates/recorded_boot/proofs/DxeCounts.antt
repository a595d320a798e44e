-- A step of DXE that starts no driver tells of no start; a start tells of one.
use Rattle.std.proofs.Common.{◌≡◌, ℕ, ◌+◌, Bool, true, false, cond, List, [], ◌∷◌, ◌++◌, length, nat_le, Option, Some, None, inl, inr, refl, sym, ap, ◌∙◌, subst, arith, append-nil, length-append, option_to_list}
use Rattle.pi_base.specs.declared.phase.Phase.TheVariants.{Dxe}
use Rattle.act_code.specs.declared.action.Action.{Action}
use Rattle.mod_catalog.specs.{declared.catalogue.Catalog.Catalog, declared.catalogue.Part.Part, Parts.part_at}
use Rattle.store_model.specs.StoreState.{StoreState}
use Rattle.boot_model.specs.{declared.driver.Scheduled.Scheduled, declared.line.Line.Line, Discovery.discovery_lines}
use Rattle.boot_model.specs.declared.line.Line.TheVariants as L
use Rattle.boot_model.specs.declared.phase_end.DxeEnd.TheVariants as DxeEnds
use Rattle.boot_model.specs.DxeAction.{DxeEffect, Wrote, Called, Logged, Skipped, Returned, Own, dxe_effect}
use Rattle.boot_model.specs.{DxeChoice.group_scheduled, DxeChoice.waiting, DxeMachine.DriverFrame, DxeMachine.DxeMachine}
use Rattle.boot_model.specs.{DxeRun.dxe_opening, PeiStep.start_lines}
use Rattle.boot_model.specs.DxeStep.{DxeCase, DxeFires, DxeActs, DxeStarts, DxeStops, after_dxe_effect, driver_started, driver_waiting_line, driver_waiting_lines, dxe_action_at, dxe_case_of, dxe_start_line, dxe_stopped, in_dxe_case, protocol_begun, protocol_line, with_action}
use Rattle.boot_model.specs.FreeRun.{IsFreeInDxe, IsFreeStart, IsStarted}
use Rattle.boot_laws.proofs.DriverActions.{EffectFollows, Follows, effect_follows}
use Rattle.boot_laws.proofs.DriverCalls.{EffectKeeps, effect_keeps}
use Rattle.recorded_boot.specs.{declared.order.line.Start.Start, Counted.DxeStartsCount}
use Rattle.recorded_boot.specs.Starts.{module_start, start_of, starts}
use Rattle.recorded_boot.proofs.{Fronts.starts-append, QuietLines.quiet_map, QuietLines.quiet_then}

-- the starts that a machine has more than another, by its lines and as it counts them
pub record Adds (m later : DxeMachine) (more : List Start) : Type 0 where
  pub lines : starts later.lines ≡ starts m.lines ++ more
  pub count : length later.started ≡ length m.started + length more

-- lines more that tell of none
says : (m later : DxeMachine) (more : List Line) → later.lines ≡ m.lines ++ more → starts more ≡ [] → later.started ≡ m.started → Adds m later []
says m later more l quiet s = record {
  lines = ap starts l ∙ starts-append m.lines more ∙ ap (λ x. starts m.lines ++ x) quiet;
  count = let same = ap length s in omega (arith, same);
}

-- no line more
stays : (m later : DxeMachine) → later.lines ≡ m.lines → later.started ≡ m.started → Adds m later []
stays m later l s = says m later [] (l ∙ sym (append-nil m.lines)) refl s

either_adds : (m : DxeMachine) (b : Bool) (one other : DxeMachine) → Adds m one [] → Adds m other [] → Adds m (cond b one other) []
either_adds m true one other h k = h
either_adds m false one other h k = k

discoveries_quiet : (line : Line) (volumes : List ℕ) → start_of line ≡ None → starts (line ∷ discovery_lines volumes) ≡ []
discoveries_quiet line volumes is = quiet_then line (discovery_lines volumes) is (quiet_map (λ volume. L.DxeVolume volume) volumes (λ volume. refl))

started_same : (catalog : Catalog) (old new : DxeMachine) → Follows catalog old new → new.started ≡ old.started
started_same catalog old new (inl h) = h.started
started_same catalog old new (inr h) = ap (λ (m : DxeMachine). m.started) h.1

effect_adds : (catalog : Catalog) (m : DxeMachine) (frame : DriverFrame) (below : List DriverFrame) (e : DxeEffect) → EffectKeeps m frame e → EffectFollows catalog m e → Adds m (after_dxe_effect m frame below e) []
effect_adds catalog m frame below (Wrote registers status) k f = stays m (after_dxe_effect m frame below (Wrote registers status)) refl refl
effect_adds catalog m frame below (Called name reply) k f =
    let line = L.Call name reply.status reply.extra in
    let told : List Line = line ∷ discovery_lines reply.volumes in
    says m (after_dxe_effect m frame below (Called name reply)) told (ap (λ lines. lines ++ told) k.lines) (discoveries_quiet line reply.volumes refl) (started_same catalog m reply.machine f)
effect_adds catalog m frame below (Logged text) k f = says m (after_dxe_effect m frame below (Logged text)) (L.Log (record { items = text }) ∷ []) refl refl refl
effect_adds catalog m frame below (Skipped n) k f = stays m (after_dxe_effect m frame below (Skipped n)) refl refl
effect_adds catalog m frame below (Returned status) k f = says m (after_dxe_effect m frame below (Returned status)) (L.End status ∷ []) refl refl refl
effect_adds catalog m frame below (Own own) k f = absurd own

stop_quiet : (catalog : Catalog) (m : DxeMachine) → starts (L.DxeStop ∷ driver_waiting_lines catalog m) ≡ []
stop_quiet catalog m = quiet_then L.DxeStop (driver_waiting_lines catalog m) refl (quiet_map (driver_waiting_line catalog m) (waiting catalog m) (λ number. refl))

-- a start tells of one, and is one more; a number without a driver leaves the queue alone
abbrev adds_of : Catalog → ℕ → Option Part → List Start
adds_of catalog number None = []
adds_of catalog number (Some part) = module_start Dxe catalog number ∷ []

one_more : (catalog : Catalog) (number : ℕ) (line : Line) (blocks : List (List Action)) → start_of line ≡ Some (module_start Dxe catalog number) → starts (start_lines line blocks) ≡ module_start Dxe catalog number ∷ []
one_more catalog number line [] is = ap (λ o. option_to_list o ++ []) is
one_more catalog number line (block ∷ blocks) is = ap (λ o. option_to_list o ++ []) is

pub started_adds : (catalog : Catalog) (m : DxeMachine) (next : Scheduled) (queue : List Scheduled) (part : Option Part) → Adds m (driver_started catalog m next queue part) (adds_of catalog next.module_number part)
started_adds catalog m next queue None = stays m (driver_started catalog m next queue None) refl refl
started_adds catalog m next queue (Some part) =
    let line = dxe_start_line catalog next.module_number next.licence in
    record {
      lines = starts-append m.lines (start_lines line part.script.blocks) ∙ ap (λ x. starts m.lines ++ x) (one_more catalog next.module_number line part.script.blocks refl);
      count = omega arith;
    }

-- the starts that a free step adds
pub data Added (m later : DxeMachine) : Type 0 where
  AddsSome : (more : List Start) → Adds m later more → Added m later

own_adds : (catalog : Catalog) (fuel : ℕ) (m later : DxeMachine) (case : DxeCase) → Adds m (in_dxe_case catalog fuel m case) [] → later ≡ in_dxe_case catalog fuel m case → Added m later
own_adds catalog fuel m later case adds is = AddsSome [] (subst (λ x. Adds m x []) (sym is) adds)

queue_adds : (catalog : Catalog) (m later : DxeMachine) (queue : List Scheduled) → IsStarted catalog m queue later → Added m later
queue_adds catalog m later [] h = absurd h
queue_adds catalog m later (next ∷ queue) h =
    let part = part_at Dxe catalog next.module_number in
    AddsSome (adds_of catalog next.module_number part) (subst (λ x. Adds m x (adds_of catalog next.module_number part)) (sym h) (started_adds catalog m next queue part))

start_adds : (catalog : Catalog) (m later : DxeMachine) (scheduled : List Scheduled) → IsFreeStart catalog m scheduled later → Added m later
start_adds catalog m later [] h = queue_adds catalog m later (group_scheduled catalog m (Some h.0)) h.2
start_adds catalog m later (next ∷ queue) h = queue_adds catalog m later (next ∷ queue) h

-- a case that starts no driver
abbrev StartsNone : DxeCase → Type 0
StartsNone (DxeFires note sweep frame below) = Unit {0}
StartsNone (DxeActs frame below) = Unit {0}
StartsNone (DxeStarts next queue) = ⊥
StartsNone DxeStops = Unit {0}

pub case_adds : (catalog : Catalog) (fuel : ℕ) (m : DxeMachine) (case : DxeCase) → StartsNone case → Adds m (in_dxe_case catalog fuel m case) []
case_adds catalog fuel m (DxeFires note sweep frame below) none =
    either_adds m (nat_le 64 (length m.frames)) (record m { ended = Some DxeEnds.Deep }) (protocol_begun catalog m note sweep frame below) (stays m (record m { ended = Some DxeEnds.Deep }) refl refl)
    (says m (protocol_begun catalog m note sweep frame below) (protocol_line catalog sweep note ∷ []) refl refl refl)
case_adds catalog fuel m (DxeActs frame below) none =
    let does : DxeEffect = dxe_effect catalog (with_action m) frame (dxe_action_at catalog frame) in
    let acts = effect_adds catalog (with_action m) frame below does (effect_keeps catalog (with_action m) frame (dxe_action_at catalog frame)) (effect_follows catalog (with_action m) frame (dxe_action_at catalog frame)) in
    either_adds m (nat_le fuel m.actions) (record m { ended = Some DxeEnds.Spent }) (after_dxe_effect (with_action m) frame below does) (stays m (record m { ended = Some DxeEnds.Spent }) refl refl) (record { lines = acts.lines; count = acts.count })
case_adds catalog fuel m (DxeStarts next queue) none = absurd none
case_adds catalog fuel m DxeStops none = says m (dxe_stopped catalog m) (L.DxeStop ∷ driver_waiting_lines catalog m) refl (stop_quiet catalog m) refl

pub free_adds : (catalog : Catalog) (fuel : ℕ) (m later : DxeMachine) (case : DxeCase) → IsFreeInDxe catalog fuel m case later → Added m later
free_adds catalog fuel m later (DxeFires note sweep frame below) h = own_adds catalog fuel m later (DxeFires note sweep frame below) (case_adds catalog fuel m (DxeFires note sweep frame below) tt) h
free_adds catalog fuel m later (DxeActs frame below) h = own_adds catalog fuel m later (DxeActs frame below) (case_adds catalog fuel m (DxeActs frame below) tt) h
free_adds catalog fuel m later (DxeStarts next queue) h = start_adds catalog m later m.scheduled h
free_adds catalog fuel m later DxeStops h = own_adds catalog fuel m later DxeStops (case_adds catalog fuel m DxeStops tt) h

counted_by : (m later : DxeMachine) (more : List Start) → Adds m later more → length (starts m.lines) ≡ length m.started → length (starts later.lines) ≡ length later.started
counted_by m later more adds is =
    let l = ap length adds.lines ∙ length-append (starts m.lines) more in
    let c = adds.count in
    omega (arith, l, c, is)

-- the opening tells of no start
pub opening_quiet : (catalog : Catalog) (s : StoreState) (actions : ℕ) → starts (dxe_opening catalog s actions).lines ≡ []
opening_quiet catalog s actions = quiet_map (λ volume. L.DxeVolume volume) (dxe_opening catalog s actions).discovered (λ volume. refl)

-- a step keeps the count
added_counts : (m later : DxeMachine) → Added m later → length (starts m.lines) ≡ length m.started → length (starts later.lines) ≡ length later.started
added_counts m later (AddsSome more adds) told = counted_by m later more adds told

pub starts_count : DxeStartsCount
starts_count catalog fuel s actions [] m comes = subst (λ (x : DxeMachine). length (starts x.lines) ≡ length x.started) (sym comes) (ap length (opening_quiet catalog s actions))
starts_count catalog fuel s actions (before ∷ earlier) m comes =
    added_counts before m (free_adds catalog fuel before m (dxe_case_of catalog before) comes.1) (starts_count catalog fuel s actions earlier before comes.2)
