-- A step of PEI that starts no module tells of no start; a start tells of one.
use Rattle.std.proofs.Common.{◌≡◌, ℕ, ◌+◌, Bool, true, false, cond, List, [], ◌∷◌, ◌++◌, length, Some, None, Ok, Err, nat_le, refl, sym, ap, ◌∙◌, subst, append_assoc, arith, append-nil, length-append, option_to_list}
use Rattle.pi_base.specs.declared.phase.Phase.TheVariants.{Pei}
use Rattle.pi_base.specs.declared.word.Word.TheVariants.{Success, AlreadyStarted}
use Rattle.act_code.specs.declared.action.Action.{Action}
use Rattle.mod_catalog.specs.{declared.catalogue.Catalog.Catalog, declared.catalogue.Part.Part}
use Rattle.mod_catalog.specs.Parts.{has_number, module_name, module_volume}
use Rattle.store_model.specs.{declared.store_handle.Sweep.Sweep, Service.Service, Service.Install.core_install}
use Rattle.store_model.specs.StoreState.{Board, StoreState}
use Rattle.boot_model.specs.declared.line.CallName.TheVariants as C
use Rattle.boot_model.specs.declared.line.Extra.TheVariants as X
use Rattle.boot_model.specs.{declared.line.Line.Line, declared.line.Reason.Reason, declared.phase_end.PeiEnd.PeiEnd, Eligible.licence_at}
use Rattle.boot_model.specs.declared.line.Line.TheVariants as L
use Rattle.boot_model.specs.declared.phase_end.PeiEnd.TheVariants.{Handoff, NoMemory, NoIpl, Spent, Deep}
use Rattle.boot_model.specs.{FreeRun.IsFreeIn, FreeRun.MayStart, Reporting.reports, PeiChoice.pei_order, PeiRun.pei_opening}
use Rattle.boot_model.specs.PeiAction.{status_of, Effect, Wrote, Called, Own, Shadowed, Logged, Skipped, Returned, effect}
use Rattle.boot_model.specs.PeiMachine.{PeiMachine, Frame, printed}
use Rattle.boot_model.specs.PeiStep.{PeiCase, Fires, Acts, Moves, Pops, Starts, Stops, action_at, after_effect, callback_begun, callback_line, case_of, core_called, dispatch_line, handoff_lines, in_case, outcome_of, past, reason_of, popped_to, report_lines, start_line, start_lines, started, started_part, stopped, waiting_line, waiting_lines}
use Rattle.boot_laws.specs.PeiFree.{IsOwnCase}
use Rattle.boot_laws.proofs.Starts.{pei_prints}
use Rattle.recorded_boot.specs.{declared.order.line.Start.Start, Counted.PeiStartsCount}
use Rattle.recorded_boot.specs.Starts.{module_start, start_of, starts}
use Rattle.recorded_boot.proofs.Fronts.{starts-append}
use Rattle.recorded_boot.proofs.QuietLines.{quiet_flat, quiet_map, quiet_option, quiet_then}

-- the starts that a machine has more than another, by its lines and as it counts them
pub record Adds (m later : PeiMachine) (more : List Start) : Type 0 where
  pub lines : starts later.lines ≡ starts m.lines ++ more
  pub count : length later.started + length later.again ≡ length m.started + length m.again + length more

same_count : (a b c d : ℕ) → a ≡ c → b ≡ d → a + b ≡ c + d + 0
same_count a b c d e f = omega (arith, e, f)

-- lines more that tell of none
says : (m later : PeiMachine) (more : List Line) → later.lines ≡ m.lines ++ more → starts more ≡ [] → later.started ≡ m.started → later.again ≡ m.again → Adds m later []
says m later more l quiet s a = record {
  lines = ap starts l ∙ starts-append m.lines more ∙ ap (λ x. starts m.lines ++ x) quiet;
  count = same_count (length later.started) (length later.again) (length m.started) (length m.again) (ap length s) (ap length a);
}

-- no line more
stays : (m later : PeiMachine) → later.lines ≡ m.lines → later.started ≡ m.started → later.again ≡ m.again → Adds m later []
stays m later l s a = says m later [] (l ∙ sym (append-nil m.lines)) refl s a

either_adds : (m : PeiMachine) (b : Bool) (one other : PeiMachine) → Adds m one [] → Adds m other [] → Adds m (cond b one other) []
either_adds m true one other h k = h
either_adds m false one other h k = k

reports_quiet : (line : Line) (volumes : List ℕ) → start_of line ≡ None → starts (line ∷ report_lines volumes) ≡ []
reports_quiet line volumes is = quiet_then line (report_lines volumes) is (quiet_map (λ volume. L.Report volume) volumes (λ volume. refl))

effect_adds : (catalog : Catalog) (m : PeiMachine) (frame : Frame) (below : List Frame) (e : Effect) → Adds m (after_effect catalog m frame below e) []
effect_adds catalog m frame below (Wrote registers status) = stays m (after_effect catalog m frame below (Wrote registers status)) refl refl refl
effect_adds catalog m frame below (Called name reply) =
    let line = L.Call name reply.status reply.extra in
    let volumes = reports catalog reply.store m.reported reply.installs in
    says m (after_effect catalog m frame below (Called name reply)) (line ∷ report_lines volumes) refl (reports_quiet line volumes refl) refl refl
effect_adds catalog m frame below (Own Shadowed) =
    let refused = L.Call C.Shadow AlreadyStarted X.Nothing in
    let done = L.Call C.Shadow Success X.Nothing in
    let one : PeiMachine = record (printed m (refused ∷ [])) { frames = record (past frame 0) { last = AlreadyStarted } ∷ below } in
    let other : PeiMachine = record (printed m (done ∷ [])) { frames = record (past frame 0) { last = Success } ∷ below; shadows = m.shadows ++ frame.module_number ∷ [] } in
    either_adds m (has_number m.shadows frame.module_number) one other (says m one (refused ∷ []) refl refl refl refl) (says m other (done ∷ []) refl refl refl refl)
effect_adds catalog m frame below (Logged text) = says m (after_effect catalog m frame below (Logged text)) (L.Log (record { items = text }) ∷ []) refl refl refl refl
effect_adds catalog m frame below (Skipped n) = stays m (after_effect catalog m frame below (Skipped n)) refl refl refl
effect_adds catalog m frame below (Returned status) = says m (after_effect catalog m frame below (Returned status)) (L.End status ∷ []) refl refl refl refl

core_adds : (m : PeiMachine) (line : Line) (new : StoreState) (service : Service Sweep) → start_of line ≡ None → Adds m (core_called (record (printed m (line ∷ [])) { store = new }) service) []
core_adds m line new (Ok pair) is =
    says m (core_called (record (printed m (line ∷ [])) { store = new }) (Ok pair)) (line ∷ L.CoreInstall Success ∷ []) (append_assoc m.lines (line ∷ []) (L.CoreInstall Success ∷ [])) (quiet_then line (L.CoreInstall Success ∷ []) is refl) refl refl
core_adds m line new (Err fault) is =
    let last = L.CoreInstall (status_of fault) in
    says m (core_called (record (printed m (line ∷ [])) { store = new }) (Err fault)) (line ∷ last ∷ []) (append_assoc m.lines (line ∷ []) (last ∷ [])) (quiet_then line (last ∷ []) is refl) refl refl

handoff_quiet : (s : StoreState) (end : PeiEnd) → starts (handoff_lines s end) ≡ []
handoff_quiet s Handoff = refl
handoff_quiet s NoMemory = refl
handoff_quiet s NoIpl = refl
handoff_quiet s Spent = refl
handoff_quiet s Deep = refl

waiting_quiet : (catalog : Catalog) (m : PeiMachine) (number : ℕ) → starts (option_to_list (waiting_line catalog m number)) ≡ []
waiting_quiet catalog m number = quiet_option (λ (why : Reason). L.Waiting (module_volume catalog number) (module_name catalog number) why) (reason_of catalog m number) (λ reason. refl)

stop_quiet : (catalog : Catalog) (m : PeiMachine) → starts (L.PeiStop ∷ (waiting_lines catalog m ++ handoff_lines m.store (outcome_of m.store))) ≡ []
stop_quiet catalog m =
    let waits : starts (waiting_lines catalog m) ≡ [] = quiet_flat (λ number. option_to_list (waiting_line catalog m number)) (pei_order catalog m.reported) (waiting_quiet catalog m) in
    let last = handoff_lines m.store (outcome_of m.store) in
    quiet_then L.PeiStop (waiting_lines catalog m ++ last) refl (starts-append (waiting_lines catalog m) last ∙ ap (λ x. x ++ starts last) waits ∙ handoff_quiet m.store (outcome_of m.store))

abbrev counted : PeiMachine → PeiMachine
counted m = record m { actions = m.actions + 1 }

-- a start tells of one, and is one more
one_more : (catalog : Catalog) (m : PeiMachine) (number : ℕ) (part : Part) (line : Line) → start_of line ≡ Some (module_start Pei catalog number) → starts (start_lines line part.script.blocks) ≡ module_start Pei catalog number ∷ []
one_more catalog m number part line is = by part.script.blocks
  where
    by : (blocks : List (List Action)) → starts (start_lines line blocks) ≡ module_start Pei catalog number ∷ []
    by [] = ap (λ o. option_to_list o ++ []) is
    by (block ∷ blocks) = ap (λ o. option_to_list o ++ []) is

counts_one : (started again : List ℕ) (number : ℕ) (b : Bool) → length (cond b started (number ∷ started)) + length (cond b (number ∷ again) again) ≡ length started + length again + 1
counts_one started again number true = omega arith
counts_one started again number false = omega arith

pub started_adds : (catalog : Catalog) (m : PeiMachine) (number : ℕ) → MayStart catalog m number → Adds m (started catalog m number) (module_start Pei catalog number ∷ [])
started_adds catalog m number may =
    let prints = pei_prints catalog m number may in
    subst (λ o. Adds m (started_part catalog m number o) (module_start Pei catalog number ∷ [])) (sym prints.part_is) (by prints.part)
  where
    by : (part : Part) → Adds m (started_part catalog m number (Some part)) (module_start Pei catalog number ∷ [])
    by part = record {
      lines = starts-append m.lines (start_lines (start_line catalog m number (licence_at m number part)) part.script.blocks)
          ∙ ap (λ x. starts m.lines ++ x) (one_more catalog m number part (start_line catalog m number (licence_at m number part)) refl);
      count = counts_one m.started m.again number (has_number m.started number);
    }

-- the starts that a free step adds
pub data Added (catalog : Catalog) (m later : PeiMachine) : Type 0 where
  AddsNone : Adds m later [] → Added catalog m later
  AddsOne : (number : ℕ) → Adds m later (module_start Pei catalog number ∷ []) → Added catalog m later

-- a step that leaves no choice adds none
pub case_adds : (catalog : Catalog) (fuel : ℕ) (m : PeiMachine) (case : PeiCase) → IsOwnCase case → Adds m (in_case catalog fuel m case) []
case_adds catalog fuel m (Fires firing sweep) own =
    either_adds m (nat_le 64 (length m.frames)) (record m { ended = Some Deep }) (callback_begun catalog m firing sweep) (stays m (record m { ended = Some Deep }) refl refl refl)
    (says m (callback_begun catalog m firing sweep) (callback_line catalog firing ∷ []) refl refl refl refl)
case_adds catalog fuel m (Acts frame below) own =
    let does : Effect = effect m.store frame (action_at catalog frame) in
    let acts = effect_adds catalog (counted m) frame below does in
    either_adds m (nat_le fuel m.actions) (record m { ended = Some Spent }) (after_effect catalog (counted m) frame below does) (stays m (record m { ended = Some Spent }) refl refl refl) (record { lines = acts.lines; count = acts.count })
case_adds catalog fuel m (Moves new) own = core_adds m (L.Migrate m.store.base new.base) new (core_install new) refl
case_adds catalog fuel m (Pops firing new) own = says m (popped_to catalog m firing new) (dispatch_line catalog firing ∷ []) refl refl refl refl
case_adds catalog fuel m (Starts first) own = absurd own
case_adds catalog fuel m Stops own = says m (stopped catalog m) (L.PeiStop ∷ (waiting_lines catalog m ++ handoff_lines m.store (outcome_of m.store))) refl (stop_quiet catalog m) refl refl

own_adds : (catalog : Catalog) (fuel : ℕ) (m later : PeiMachine) (case : PeiCase) → IsOwnCase case → later ≡ in_case catalog fuel m case → Added catalog m later
own_adds catalog fuel m later case own is = AddsNone (subst (λ x. Adds m x []) (sym is) (case_adds catalog fuel m case own))

pub free_adds : (catalog : Catalog) (fuel : ℕ) (m later : PeiMachine) (case : PeiCase) → IsFreeIn catalog fuel m case later → Added catalog m later
free_adds catalog fuel m later (Fires firing sweep) h = own_adds catalog fuel m later (Fires firing sweep) tt h
free_adds catalog fuel m later (Acts frame below) h = own_adds catalog fuel m later (Acts frame below) tt h
free_adds catalog fuel m later (Moves new) h = own_adds catalog fuel m later (Moves new) tt h
free_adds catalog fuel m later (Pops firing new) h = own_adds catalog fuel m later (Pops firing new) tt h
free_adds catalog fuel m later (Starts first) h = AddsOne h.0 (subst (λ x. Adds m x (module_start Pei catalog h.0 ∷ [])) (sym h.2) (started_adds catalog m h.0 h.1))
free_adds catalog fuel m later Stops h = own_adds catalog fuel m later Stops tt h

pub counted_by : (m later : PeiMachine) (more : List Start) → Adds m later more → length (starts m.lines) ≡ length m.started + length m.again → length (starts later.lines) ≡ length later.started + length later.again
counted_by m later more adds is =
    let l = ap length adds.lines ∙ length-append (starts m.lines) more in
    let c = adds.count in
    omega (arith, l, c, is)

-- the opening tells of no start
pub opening_quiet : (board : Board) (catalog : Catalog) → starts (pei_opening board catalog).lines ≡ []
opening_quiet board catalog = quiet_map (λ volume. L.Report volume) (pei_opening board catalog).reported (λ volume. refl)

opening_counts : (board : Board) (catalog : Catalog) → length (starts (pei_opening board catalog).lines) ≡ 0
opening_counts board catalog = ap length (opening_quiet board catalog)

-- a step keeps the count
added_counts : (catalog : Catalog) (m later : PeiMachine) → Added catalog m later → length (starts m.lines) ≡ length m.started + length m.again → length (starts later.lines) ≡ length later.started + length later.again
added_counts catalog m later (AddsNone adds) told = counted_by m later [] adds told
added_counts catalog m later (AddsOne number adds) told = counted_by m later (module_start Pei catalog number ∷ []) adds told

pub starts_count : PeiStartsCount
starts_count board catalog fuel [] m comes = subst (λ (x : PeiMachine). length (starts x.lines) ≡ length x.started + length x.again) (sym comes) (opening_counts board catalog)
starts_count board catalog fuel (before ∷ earlier) m comes =
    added_counts catalog before m (free_adds catalog fuel before m (case_of catalog before) comes.1) (starts_count board catalog fuel earlier before comes.2)
