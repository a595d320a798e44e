-- Each line that a step prints tells no start but the line of a start, so the lines of a run tell its starts.
use Rattle.std.proofs.Common.{◌≡◌, ℕ, zero, suc, ◌+◌, Bool, true, false, cond, List, [], ◌∷◌, ◌++◌, length, Option, Some, None, Ok, Err, inl, inr, refl, sym, ap, ◌∙◌, map, nat_le, flat_map, reverse, option_to_list, option_map}
use Rattle.std.proofs.{lemmas.Grind.flat_map-append, lemmas.Grind.reverse_onto, lemmas.List.map-append}
use Rattle.pi_base.specs.{declared.guid.Guid.Guid, declared.phase.Phase.TheVariants.Pei, declared.phase.Phase.TheVariants.Dxe}
use Rattle.pi_base.specs.declared.word.Word.TheVariants.{Success, AlreadyStarted}
use Rattle.act_code.specs.declared.action.Action.{Action}
use Rattle.mod_catalog.specs.{declared.catalogue.Catalog.Catalog, declared.catalogue.Part.Part, declared.catalogue.PartExpr.PartExpr}
use Rattle.mod_catalog.specs.declared.catalogue.PartExpr.TheVariants as E
use Rattle.mod_catalog.specs.Parts.{has_number, part_at, module_name, module_volume}
use Rattle.store_model.specs.{declared.state.HobEntry.HobEntry, declared.store_handle.Sweep.Sweep, Service.Service}
use Rattle.store_model.specs.{Service.Install.core_install, HandleState.HandleState, HandleState.no_handles}
use Rattle.store_model.specs.StoreState.{StoreState, handoff_len, hob_len}
use Rattle.boot_model.specs.{declared.driver.Scheduled.Scheduled, declared.line.Line.Line, declared.line.RunEnd.RunEnd}
use Rattle.boot_model.specs.declared.line.CallName.TheVariants as C
use Rattle.boot_model.specs.declared.line.Extra.TheVariants as X
use Rattle.boot_model.specs.declared.line.Line.TheVariants as L
use Rattle.boot_model.specs.declared.line.RunEnd.TheVariants as R
use Rattle.boot_model.specs.declared.licence.Licence.TheVariants as G
use Rattle.boot_model.specs.{declared.phase_end.PeiEnd.PeiEnd, declared.phase_end.DxeEnd.DxeEnd, Eligible.licence_by, Reporting.reports}
use Rattle.boot_model.specs.declared.phase_end.PeiEnd.TheVariants.{Handoff, NoMemory, NoIpl, Spent, Deep}
use Rattle.boot_model.specs.declared.phase_end.DxeEnd.TheVariants as DxeEnds
use Rattle.boot_model.specs.PeiMachine.{PeiMachine, Frame, printed}
use Rattle.boot_model.specs.PeiAction.{status_of, Effect, Wrote, Called, Own, Shadowed, Logged, Skipped, Returned, effect}
use Rattle.boot_model.specs.PeiStep.{callback_line, dispatch_line, stopped, PeiCase, Fires, Acts, Moves, Pops, Starts, Stops, case_of, in_case, pei_step, callback_begun, report_lines, after_effect, action_at, core_called, popped_to, start_lines, started_part, waiting_line, waiting_lines, outcome_of, handoff_lines, past}
use Rattle.boot_model.specs.PeiRun.{pei_run, pei_opening, pei_bound, pei_end}
use Rattle.boot_model.specs.{DxeMachine.DxeMachine, DxeMachine.DriverFrame, DxeChoice.waiting, DxeAction.DxeEffect, DxeAction.dxe_effect}
use Rattle.boot_model.specs.DxeAction as D
use Rattle.boot_model.specs.DxeStep.{protocol_line, dxe_stopped, DxeCase, DxeFires, DxeActs, DxeStarts, DxeStops, dxe_case_of, in_dxe_case, dxe_step, protocol_begun, after_dxe_effect, with_action, dxe_action_at, driver_started, driver_waiting_line}
use Rattle.boot_model.specs.DxeRun.{dxe_run, dxe_opening, dxe_bound, dxe_end}
use Rattle.boot_model.specs.Discovery.{discovery_lines}
use Rattle.boot_model.specs.Listing as Listing
use Rattle.boot_model.specs.Listing.{ppi_line, pending_line, ppi_lines, callback_lines, dispatch_lines, pending_lines, hob_lines_from, hob_lines, store_lines}
use Rattle.boot_model.specs.BootRun.{handle_lines, dxe_result, closing_lines, pei_lines, both_lines, lines_after}
use Rattle.boot_laws.proofs.DriverActions.{Follows, EffectFollows, effect_follows}
use Rattle.boot_laws.proofs.DriverCalls.{EffectKeeps, effect_keeps}
use Rattle.boot_laws.specs.PrintedStarts.{first_start, second_start, driver_start, TellStarts, named, in_order, StartsArePrinted, DriverStartsArePrinted, drivers_behind, BootsPrintStarts}

-- lines that tell no start
abbrev Silent : List Line → Type 0
Silent lines = TellStarts lines [] [] []

none : Silent []
none = record { first_starts = refl; second_starts = refl; driver_starts = refl }

to_end : {A : Type 0} (xs : List A) → xs ++ [] ≡ xs
to_end [] = refl
to_end (x ∷ xs) = ap (λ l. x ∷ l) (to_end xs)

both : (lines more : List Line) (a b c x y z : List (ℕ × Guid)) → TellStarts lines a b c → TellStarts more x y z → TellStarts (lines ++ more) (a ++ x) (b ++ y) (c ++ z)
both lines more a b c x y z h k = record {
  first_starts = flat_map-append first_start lines more ∙ ap (λ l. l ++ flat_map first_start more) h.first_starts ∙ ap (λ l. a ++ l) k.first_starts;
  second_starts = flat_map-append second_start lines more ∙ ap (λ l. l ++ flat_map second_start more) h.second_starts ∙ ap (λ l. b ++ l) k.second_starts;
  driver_starts = flat_map-append driver_start lines more ∙ ap (λ l. l ++ flat_map driver_start more) h.driver_starts ∙ ap (λ l. c ++ l) k.driver_starts;
}

-- the starts by other words
again : (lines : List Line) {a b c x y z : List (ℕ × Guid)} → a ≡ x → b ≡ y → c ≡ z → TellStarts lines a b c → TellStarts lines x y z
again lines e f g h = record { first_starts = h.first_starts ∙ e; second_starts = h.second_starts ∙ f; driver_starts = h.driver_starts ∙ g }

quiet : (lines more : List Line) (a b c : List (ℕ × Guid)) → TellStarts lines a b c → Silent more → TellStarts (lines ++ more) a b c
quiet lines more a b c h k = again (lines ++ more) (to_end a) (to_end b) (to_end c) (both lines more a b c [] [] [] h k)

silent_both : (lines more : List Line) → Silent lines → Silent more → Silent (lines ++ more)
silent_both lines more h k = both lines more [] [] [] [] [] [] h k

-- a line of another kind
abbrev IsSilent : Line → Type 0
IsSilent line = Silent (line ∷ [])

with_line : (line : Line) (lines : List Line) → IsSilent line → Silent lines → Silent (line ∷ lines)
with_line line lines h k = silent_both (line ∷ []) lines h k

silent_map : {X : Type 0} (f : X → Line) (xs : List X) → ((x : X) → IsSilent (f x)) → Silent (map f xs)
silent_map f [] h = none
silent_map f (x ∷ xs) h = with_line (f x) (map f xs) (h x) (silent_map f xs h)

silent_flat : {X : Type 0} (f : X → List Line) (xs : List X) → ((x : X) → Silent (f x)) → Silent (flat_map f xs)
silent_flat f [] h = none
silent_flat f (x ∷ xs) h = silent_both (f x) (flat_map f xs) (h x) (silent_flat f xs h)

line_is : (line : Line) → flat_map first_start (line ∷ []) ≡ [] → flat_map second_start (line ∷ []) ≡ [] → flat_map driver_start (line ∷ []) ≡ [] → IsSilent line
line_is line a b c = record { first_starts = a; second_starts = b; driver_starts = c }

reports_silent : (volumes : List ℕ) → Silent (report_lines volumes)
reports_silent volumes = silent_map (λ volume. L.Report volume) volumes (λ volume. line_is _ refl refl refl)

discoveries_silent : (volumes : List ℕ) → Silent (discovery_lines volumes)
discoveries_silent volumes = silent_map (λ volume. L.DxeVolume volume) volumes (λ volume. line_is _ refl refl refl)

-- PEI: the lines of a machine tell its starts
abbrev Told : Catalog → PeiMachine → Type 0
Told catalog m = TellStarts m.lines (in_order catalog m.started) (in_order catalog m.again) []

abbrev counted : PeiMachine → PeiMachine
counted m = record m { actions = m.actions + 1 }

-- the same lines and starts, and lines more that tell none
stays : (catalog : Catalog) (old new : PeiMachine) → new.lines ≡ old.lines → new.started ≡ old.started → new.again ≡ old.again → Told catalog old → Told catalog new
stays catalog old new l s a h = record {
  first_starts = ap (flat_map first_start) l ∙ h.first_starts ∙ ap (in_order catalog) (sym s);
  second_starts = ap (flat_map second_start) l ∙ h.second_starts ∙ ap (in_order catalog) (sym a);
  driver_starts = ap (flat_map driver_start) l ∙ h.driver_starts;
}

says : (catalog : Catalog) (old new : PeiMachine) (more : List Line) → new.lines ≡ old.lines ++ more → new.started ≡ old.started → new.again ≡ old.again → Silent more → Told catalog old → Told catalog new
says catalog old new more l s a k h = let said = quiet old.lines more (in_order catalog old.started) (in_order catalog old.again) [] h k in record {
  first_starts = ap (flat_map first_start) l ∙ said.first_starts ∙ ap (in_order catalog) (sym s);
  second_starts = ap (flat_map second_start) l ∙ said.second_starts ∙ ap (in_order catalog) (sym a);
  driver_starts = ap (flat_map driver_start) l ∙ said.driver_starts;
}

either_told : (catalog : Catalog) (b : Bool) (one other : PeiMachine) → Told catalog one → Told catalog other → Told catalog (cond b one other)
either_told catalog true one other h k = h
either_told catalog false one other h k = k

effect_told : (catalog : Catalog) (m : PeiMachine) (frame : Frame) (below : List Frame) (e : Effect) → Told catalog m → Told catalog (after_effect catalog m frame below e)
effect_told catalog m frame below (Wrote registers status) h = stays catalog m (after_effect catalog m frame below (Wrote registers status)) refl refl refl h
effect_told catalog m frame below (Called name reply) h =
    let volumes = reports catalog reply.store m.reported reply.installs in
    let line = L.Call name reply.status reply.extra in
    says catalog m (after_effect catalog m frame below (Called name reply)) (line ∷ report_lines volumes) refl refl refl (with_line line (report_lines volumes) (line_is line refl refl refl) (reports_silent volumes)) h
effect_told catalog m frame below (Own Shadowed) h =
    let refused = L.Call C.Shadow AlreadyStarted X.Nothing in
    let done = L.Call C.Shadow Success X.Nothing in
    let one : PeiMachine = record (printed m (refused ∷ [])) { frames = record (past frame 0) { last = AlreadyStarted } ∷ below } in
    let other : PeiMachine = record (printed m (done ∷ [])) { frames = record (past frame 0) { last = Success } ∷ below; shadows = m.shadows ++ frame.module_number ∷ [] } in
    either_told catalog (has_number m.shadows frame.module_number) one other
    (says catalog m one (refused ∷ []) refl refl refl (line_is refused refl refl refl) h) (says catalog m other (done ∷ []) refl refl refl (line_is done refl refl refl) h)
effect_told catalog m frame below (Logged text) h =
    let line = L.Log (record { items = text }) in says catalog m (after_effect catalog m frame below (Logged text)) (line ∷ []) refl refl refl (line_is line refl refl refl) h
effect_told catalog m frame below (Skipped n) h = stays catalog m (after_effect catalog m frame below (Skipped n)) refl refl refl h
effect_told catalog m frame below (Returned status) h =
    says catalog m (after_effect catalog m frame below (Returned status)) (L.End status ∷ []) refl refl refl (line_is (L.End status) refl refl refl) h

core_told : (catalog : Catalog) (m : PeiMachine) (service : Service Sweep) → Told catalog m → Told catalog (core_called m service)
core_told catalog m (Ok pair) h = says catalog m (core_called m (Ok pair)) (L.CoreInstall Success ∷ []) refl refl refl (line_is (L.CoreInstall Success) refl refl refl) h
core_told catalog m (Err fault) h =
    says catalog m (core_called m (Err fault)) (L.CoreInstall (status_of fault) ∷ []) refl refl refl (line_is (L.CoreInstall (status_of fault)) refl refl refl) h

-- a start and its line
lines_tell : (line : Line) (blocks : List (List Action)) {a b c : List (ℕ × Guid)} → TellStarts (line ∷ []) a b c → TellStarts (start_lines line blocks) a b c
lines_tell line [] {a} {b} {c} h = quiet (line ∷ []) (L.End Success ∷ []) a b c h (line_is _ refl refl refl)
lines_tell line (block ∷ blocks) h = h

first_tells : (volume : ℕ) (name : Guid) (rank : Option ℕ) (expr : PartExpr) → TellStarts (L.PeiStart volume name (licence_by rank expr) ∷ []) ((volume, name) ∷ []) [] []
first_tells volume name (Some rank) expr = record { first_starts = refl; second_starts = refl; driver_starts = refl }
first_tells volume name None E.Absent = record { first_starts = refl; second_starts = refl; driver_starts = refl }
first_tells volume name None (E.Malformed at) = record { first_starts = refl; second_starts = refl; driver_starts = refl }
first_tells volume name None (E.Held expression) = record { first_starts = refl; second_starts = refl; driver_starts = refl }

one_more : (catalog : Catalog) (number : ℕ) (started : List ℕ) → in_order catalog started ++ named catalog number ∷ [] ≡ in_order catalog (number ∷ started)
one_more catalog number started = sym (ap (map (named catalog)) (reverse_onto started number []) ∙ map-append (named catalog) (reverse started) (number ∷ []))

start_told : (catalog : Catalog) (m : PeiMachine) (number : ℕ) (part : Part) → (b : Bool) → Told catalog m
    → TellStarts (m.lines ++ start_lines (L.PeiStart (module_volume catalog number) (module_name catalog number) (cond b G.Shadow (licence_by part.rank part.expr))) part.script.blocks)
    (in_order catalog (cond b m.started (number ∷ m.started))) (in_order catalog (cond b (number ∷ m.again) m.again)) []
start_told catalog m number part true h =
    let line = L.PeiStart (module_volume catalog number) (module_name catalog number) G.Shadow in
    let told : TellStarts (line ∷ []) [] (named catalog number ∷ []) [] = record { first_starts = refl; second_starts = refl; driver_starts = refl } in
    again _ (to_end (in_order catalog m.started)) (one_more catalog number m.again) refl
    (both m.lines (start_lines line part.script.blocks) (in_order catalog m.started) (in_order catalog m.again) [] [] (named catalog number ∷ []) [] h (lines_tell line part.script.blocks told))
start_told catalog m number part false h =
    let line = L.PeiStart (module_volume catalog number) (module_name catalog number) (licence_by part.rank part.expr) in
    let told = first_tells (module_volume catalog number) (module_name catalog number) part.rank part.expr in
    again _ (one_more catalog number m.started) (to_end (in_order catalog m.again)) refl
    (both m.lines (start_lines line part.script.blocks) (in_order catalog m.started) (in_order catalog m.again) [] (named catalog number ∷ []) [] [] h (lines_tell line part.script.blocks told))

part_told : (catalog : Catalog) (m : PeiMachine) (number : ℕ) (part : Option Part) → Told catalog m → Told catalog (started_part catalog m number part)
part_told catalog m number None h = h
part_told catalog m number (Some part) h = start_told catalog m number part (has_number m.started number) h

-- the stop
reason_silent : (catalog : Catalog) (number : ℕ) (reason : _) → Silent (option_to_list (option_map (λ why. L.Waiting (module_volume catalog number) (module_name catalog number) why) reason))
reason_silent catalog number None = none
reason_silent catalog number (Some reason) = line_is _ refl refl refl

handoff_silent : (s : StoreState) (end : PeiEnd) → Silent (handoff_lines s end)
handoff_silent s Handoff = line_is _ refl refl refl
handoff_silent s NoMemory = none
handoff_silent s NoIpl = none
handoff_silent s Spent = none
handoff_silent s Deep = none

stop_silent : (catalog : Catalog) (m : PeiMachine) → Silent (L.PeiStop ∷ (waiting_lines catalog m ++ handoff_lines m.store (outcome_of m.store)))
stop_silent catalog m =
    let waits : Silent (waiting_lines catalog m) = silent_flat (λ number. option_to_list (waiting_line catalog m number)) _ (λ number. reason_silent catalog number _) in
    with_line L.PeiStop _ (line_is _ refl refl refl) (silent_both (waiting_lines catalog m) (handoff_lines m.store (outcome_of m.store)) waits (handoff_silent m.store (outcome_of m.store)))

case_told : (catalog : Catalog) (fuel : ℕ) (m : PeiMachine) (case : PeiCase) → Told catalog m → Told catalog (in_case catalog fuel m case)
case_told catalog fuel m (Fires firing sweep) h =
    let deep : PeiMachine = record m { ended = Some Deep } in
    let line = callback_line catalog firing in
    either_told catalog (nat_le 64 (length m.frames)) deep (callback_begun catalog m firing sweep) (stays catalog m deep refl refl refl h)
    (says catalog m (callback_begun catalog m firing sweep) (line ∷ []) refl refl refl (line_is line refl refl refl) h)
case_told catalog fuel m (Acts frame below) h =
    let spent : PeiMachine = record m { ended = Some Spent } in
    let does : Effect = effect m.store frame (action_at catalog frame) in
    either_told catalog (nat_le fuel m.actions) spent (after_effect catalog (counted m) frame below does) (stays catalog m spent refl refl refl h)
    (effect_told catalog (counted m) frame below does (stays catalog m (counted m) refl refl refl h))
case_told catalog fuel m (Moves new) h =
    let migrate = L.Migrate m.store.base new.base in
    let moved : PeiMachine = record (printed m (migrate ∷ [])) { store = new } in
    core_told catalog moved (core_install new) (says catalog m moved (migrate ∷ []) refl refl refl (line_is migrate refl refl refl) h)
case_told catalog fuel m (Pops firing new) h =
    let line = dispatch_line catalog firing in says catalog m (popped_to catalog m firing new) (line ∷ []) refl refl refl (line_is line refl refl refl) h
case_told catalog fuel m (Starts number) h = part_told catalog m number (part_at Pei catalog number) h
case_told catalog fuel m Stops h =
    says catalog m (stopped catalog m) (L.PeiStop ∷ (waiting_lines catalog m ++ handoff_lines m.store (outcome_of m.store))) refl refl refl (stop_silent catalog m) h

run_told : (catalog : Catalog) (fuel n : ℕ) (m : PeiMachine) → Told catalog m → Told catalog (pei_run catalog fuel n m)
run_told catalog fuel zero m h = h
run_told catalog fuel (suc n) m h =
    elim m.ended as (λ o. Told catalog (elim o as (λ _. PeiMachine) [ Some end ↦ m | None ↦ pei_run catalog fuel n (pei_step catalog fuel m) ]))
    [ Some end ↦ h | None ↦ run_told catalog fuel n (pei_step catalog fuel m) (case_told catalog fuel m (case_of catalog m) h) ]

pub starts_are_printed : StartsArePrinted
starts_are_printed catalog board fuel n = let m = pei_opening board catalog in run_told catalog fuel n m (reports_silent m.reported)

-- DXE: the same
abbrev ToldInDxe : Catalog → DxeMachine → Type 0
ToldInDxe catalog m = TellStarts m.lines [] [] (in_order catalog m.started)

-- the starts of a machine whose lines and starts are those of another
same_starts : (catalog : Catalog) (old new : DxeMachine) → new.lines ≡ old.lines → new.started ≡ old.started → ToldInDxe catalog old → ToldInDxe catalog new
same_starts catalog old new l s h = record {
  first_starts = ap (flat_map first_start) l ∙ h.first_starts;
  second_starts = ap (flat_map second_start) l ∙ h.second_starts;
  driver_starts = ap (flat_map driver_start) l ∙ h.driver_starts ∙ ap (in_order catalog) (sym s);
}

speaks : (catalog : Catalog) (old new : DxeMachine) (more : List Line) → new.lines ≡ old.lines ++ more → new.started ≡ old.started → Silent more → ToldInDxe catalog old → ToldInDxe catalog new
speaks catalog old new more l s k h = let said = quiet old.lines more [] [] (in_order catalog old.started) h k in record {
  first_starts = ap (flat_map first_start) l ∙ said.first_starts;
  second_starts = ap (flat_map second_start) l ∙ said.second_starts;
  driver_starts = ap (flat_map driver_start) l ∙ said.driver_starts ∙ ap (in_order catalog) (sym s);
}

either_dxe : (catalog : Catalog) (b : Bool) (one other : DxeMachine) → ToldInDxe catalog one → ToldInDxe catalog other → ToldInDxe catalog (cond b one other)
either_dxe catalog true one other h k = h
either_dxe catalog false one other h k = k

reply_told : (catalog : Catalog) (m : DxeMachine) (frame : DriverFrame) (below : List DriverFrame) (e : DxeEffect) → EffectKeeps m frame e → EffectFollows catalog m e → ToldInDxe catalog m → ToldInDxe catalog (after_dxe_effect m frame below e)
reply_told catalog m frame below (D.Wrote registers status) k f h = same_starts catalog m (after_dxe_effect m frame below (D.Wrote registers status)) refl refl h
reply_told catalog m frame below (D.Called name reply) k f h =
    let line = L.Call name reply.status reply.extra in
    speaks catalog m (after_dxe_effect m frame below (D.Called name reply)) (line ∷ discovery_lines reply.volumes) (ap (λ l. l ++ (line ∷ discovery_lines reply.volumes)) k.lines) (started_of catalog m reply.machine f)
    (with_line line (discovery_lines reply.volumes) (line_is line refl refl refl) (discoveries_silent reply.volumes)) h
  where
    started_of : (catalog : Catalog) (old new : DxeMachine) → Follows catalog old new → new.started ≡ old.started
    started_of catalog old new (inl h) = h.started
    started_of catalog old new (inr h) = ap (λ m. m.started) h.1
reply_told catalog m frame below (D.Logged text) k f h =
    let line = L.Log (record { items = text }) in speaks catalog m (after_dxe_effect m frame below (D.Logged text)) (line ∷ []) refl refl (line_is line refl refl refl) h
reply_told catalog m frame below (D.Skipped n) k f h = same_starts catalog m (after_dxe_effect m frame below (D.Skipped n)) refl refl h
reply_told catalog m frame below (D.Returned status) k f h =
    speaks catalog m (after_dxe_effect m frame below (D.Returned status)) (L.End status ∷ []) refl refl (line_is (L.End status) refl refl refl) h
reply_told catalog m frame below (D.Own own) k f h = absurd own

driver_told : (catalog : Catalog) (m : DxeMachine) (next : Scheduled) (queue : List Scheduled) (part : Option Part) → ToldInDxe catalog m → ToldInDxe catalog (driver_started catalog m next queue part)
driver_told catalog m next queue None h = same_starts catalog m (driver_started catalog m next queue None) refl refl h
driver_told catalog m next queue (Some part) h =
    let number = next.module_number in
    let line = L.DxeStart (module_volume catalog number) (module_name catalog number) next.licence in
    let told : TellStarts (line ∷ []) [] [] (named catalog number ∷ []) = record { first_starts = refl; second_starts = refl; driver_starts = refl } in
    again _ refl refl (one_more catalog number m.started)
    (both m.lines (start_lines line part.script.blocks) [] [] (in_order catalog m.started) [] [] (named catalog number ∷ []) h (lines_tell line part.script.blocks told))

dxe_case_told : (catalog : Catalog) (fuel : ℕ) (m : DxeMachine) (case : DxeCase) → ToldInDxe catalog m → ToldInDxe catalog (in_dxe_case catalog fuel m case)
dxe_case_told catalog fuel m (DxeFires note sweep frame below) h =
    let deep : DxeMachine = record m { ended = Some DxeEnds.Deep } in
    let line = protocol_line catalog sweep note in
    either_dxe catalog (nat_le 64 (length m.frames)) deep (protocol_begun catalog m note sweep frame below) (same_starts catalog m deep refl refl h)
    (speaks catalog m (protocol_begun catalog m note sweep frame below) (line ∷ []) refl refl (line_is line refl refl refl) h)
dxe_case_told catalog fuel m (DxeActs frame below) h =
    let spent : DxeMachine = record m { ended = Some DxeEnds.Spent } in
    let action = dxe_action_at catalog frame in
    let does : DxeEffect = dxe_effect catalog (with_action m) frame action in
    either_dxe catalog (nat_le fuel m.actions) spent (after_dxe_effect (with_action m) frame below does) (same_starts catalog m spent refl refl h)
    (reply_told catalog (with_action m) frame below does (effect_keeps catalog (with_action m) frame action) (effect_follows catalog (with_action m) frame action) (same_starts catalog m (with_action m) refl refl h))
dxe_case_told catalog fuel m (DxeStarts next queue) h = driver_told catalog m next queue (part_at Dxe catalog next.module_number) h
dxe_case_told catalog fuel m DxeStops h =
    let waits = silent_map (driver_waiting_line catalog m) (waiting catalog m) (λ number. line_is (driver_waiting_line catalog m number) refl refl refl) in
    speaks catalog m (dxe_stopped catalog m) (L.DxeStop ∷ map (driver_waiting_line catalog m) (waiting catalog m)) refl refl
    (with_line L.DxeStop (map (driver_waiting_line catalog m) (waiting catalog m)) (line_is L.DxeStop refl refl refl) waits) h

dxe_run_told : (catalog : Catalog) (fuel n : ℕ) (m : DxeMachine) → ToldInDxe catalog m → ToldInDxe catalog (dxe_run catalog fuel n m)
dxe_run_told catalog fuel zero m h = h
dxe_run_told catalog fuel (suc n) m h =
    elim m.ended as (λ o. ToldInDxe catalog (elim o as (λ _. DxeMachine) [ Some end ↦ m | None ↦ dxe_run catalog fuel n (dxe_step catalog fuel m) ]))
    [ Some end ↦ h | None ↦ dxe_run_told catalog fuel n (dxe_step catalog fuel m) (dxe_case_told catalog fuel m (dxe_case_of catalog m) h) ]

pub driver_starts_are_printed : DriverStartsArePrinted
driver_starts_are_printed catalog s actions fuel n = let m = dxe_opening catalog s actions in dxe_run_told catalog fuel n m (discoveries_silent m.discovered)

-- the last lines of a boot
hobs_silent : (s : StoreState) (hobs : List HobEntry) (at : ℕ) → Silent (hob_lines_from s at hobs)
hobs_silent s [] at = none
hobs_silent s (hob ∷ hobs) at = with_line (L.Hob hob.kind _) (hob_lines_from s (at + hob_len hob) hobs) (line_is _ refl refl refl) (hobs_silent s hobs (at + hob_len hob))

store_silent : (s : StoreState) → Silent (store_lines s)
store_silent s =
    let ppis = with_line (L.Ppis (length s.ppis)) (map (ppi_line s) s.ppis) (line_is _ refl refl refl) (silent_map (ppi_line s) s.ppis (λ entry. line_is _ refl refl refl)) in
    let callbacks = with_line (L.Callbacks (length s.callbacks)) (map (Listing.callback_line s) s.callbacks) (line_is _ refl refl refl) (silent_map (Listing.callback_line s) s.callbacks (λ entry. line_is _ refl refl refl)) in
    let dispatches = with_line (L.Dispatches (length s.dispatches)) (map (Listing.dispatch_line s) s.dispatches) (line_is _ refl refl refl) (silent_map (Listing.dispatch_line s) s.dispatches (λ entry. line_is _ refl refl refl)) in
    let pendings = with_line (L.Pendings (length s.pendings)) (map (pending_line s) s.pendings) (line_is _ refl refl refl) (silent_map (pending_line s) s.pendings (λ entry. line_is _ refl refl refl)) in
    let hobs : Silent (hob_lines s) = with_line (L.Hobs _) _ (line_is _ refl refl refl) (with_line (L.Hob _ _) (hob_lines_from s handoff_len s.hobs) (line_is _ refl refl refl) (hobs_silent s s.hobs handoff_len)) in
    silent_both (ppi_lines s ++ callback_lines s ++ dispatch_lines s ++ pending_lines s) (hob_lines s)
    (silent_both (ppi_lines s ++ callback_lines s ++ dispatch_lines s) (pending_lines s)
    (silent_both (ppi_lines s ++ callback_lines s) (dispatch_lines s) (silent_both (ppi_lines s) (callback_lines s) ppis callbacks) dispatches) pendings) hobs

closing_silent : (pei : PeiMachine) (handles : HandleState) (end : RunEnd) → Silent (closing_lines pei handles end)
closing_silent pei handles end =
    let all = with_line (L.Handles (length handles.interfaces)) _ (line_is _ refl refl refl) (silent_map (λ i. L.Handle i.handle i.guid i.value) handles.interfaces (λ i. line_is _ refl refl refl)) in
    silent_both (store_lines pei.store ++ handle_lines handles) (L.Result end ∷ []) (silent_both (store_lines pei.store) (handle_lines handles) (store_silent pei.store) all) (line_is _ refl refl refl)

closed : (catalog : Catalog) (pei : PeiMachine) (end : RunEnd) → Told catalog pei → TellStarts (pei_lines pei end) (in_order catalog pei.started) (in_order catalog pei.again) []
closed catalog pei end h = quiet pei.lines (closing_lines pei no_handles end) (in_order catalog pei.started) (in_order catalog pei.again) [] h (closing_silent pei no_handles end)

phases_told : (catalog : Catalog) (pei : PeiMachine) (dxe : DxeMachine) → Told catalog pei → ToldInDxe catalog dxe
    → TellStarts (pei.lines ++ dxe.lines) (in_order catalog pei.started) (in_order catalog pei.again) (in_order catalog dxe.started)
phases_told catalog pei dxe h k =
    again (pei.lines ++ dxe.lines) (to_end (in_order catalog pei.started)) (to_end (in_order catalog pei.again)) refl
    (both pei.lines dxe.lines (in_order catalog pei.started) (in_order catalog pei.again) [] [] [] (in_order catalog dxe.started) h k)

both_told : (catalog : Catalog) (pei : PeiMachine) (dxe : DxeMachine) (end : Option DxeEnd) → Told catalog pei → ToldInDxe catalog dxe
    → TellStarts (both_lines pei dxe end) (in_order catalog pei.started) (in_order catalog pei.again) (in_order catalog dxe.started)
both_told catalog pei dxe None h k = phases_told catalog pei dxe h k
both_told catalog pei dxe (Some end) h k =
    quiet (pei.lines ++ dxe.lines) (closing_lines pei dxe.handles (dxe_result end)) (in_order catalog pei.started) (in_order catalog pei.again) (in_order catalog dxe.started)
    (phases_told catalog pei dxe h k) (closing_silent pei dxe.handles (dxe_result end))

after_told : (catalog : Catalog) (fuel : ℕ) (pei : PeiMachine) (end : Option PeiEnd) → Told catalog pei
    → TellStarts (lines_after catalog fuel pei end) (in_order catalog pei.started) (in_order catalog pei.again) (in_order catalog (drivers_behind catalog fuel pei end))
after_told catalog fuel pei None h = h
after_told catalog fuel pei (Some Handoff) h =
    let dxe = dxe_end catalog fuel pei.store pei.actions in both_told catalog pei dxe dxe.ended h (driver_starts_are_printed catalog pei.store pei.actions fuel (dxe_bound catalog fuel))
after_told catalog fuel pei (Some NoMemory) h = closed catalog pei R.NoMemory h
after_told catalog fuel pei (Some NoIpl) h = closed catalog pei R.NoIpl h
after_told catalog fuel pei (Some Spent) h = closed catalog pei R.Spent h
after_told catalog fuel pei (Some Deep) h = closed catalog pei R.Deep h

pub boots_print_starts : BootsPrintStarts
boots_print_starts board catalog fuel =
    let pei = pei_end board catalog fuel in after_told catalog fuel pei pei.ended (starts_are_printed catalog board fuel (pei_bound catalog fuel))
