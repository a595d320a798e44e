-- The last lines of a boot tell of no start.
use Rattle.std.proofs.Common.{◌≡◌, ℕ, ◌+◌, List, [], ◌∷◌, ◌++◌, map, length, refl, ap, ◌∙◌}
use Rattle.store_model.specs.{declared.state.HobEntry.HobEntry, HandleState.HandleState}
use Rattle.store_model.specs.StoreState.{StoreState, handoff_len, hob_len}
use Rattle.boot_model.specs.{declared.line.Line.Line, declared.line.RunEnd.RunEnd, BootRun.handle_lines}
use Rattle.boot_model.specs.declared.line.Line.TheVariants as L
use Rattle.boot_model.specs.Listing.{callback_line, callback_lines, dispatch_line, dispatch_lines, hob_lines, hob_lines_from, pending_line, pending_lines, ppi_line, ppi_lines, store_lines}
use Rattle.recorded_boot.specs.Starts.{starts}
use Rattle.recorded_boot.proofs.{Fronts.starts-append, QuietLines.quiet_map, QuietLines.quiet_then}
use Rattle.boot_core.specs.Closing.{closing}

quiet_both : (xs ys : List Line) → starts xs ≡ [] → starts ys ≡ [] → starts (xs ++ ys) ≡ []
quiet_both xs ys a b = starts-append xs ys ∙ ap (λ s. s ++ starts ys) a ∙ b

hobs_quiet : (s : StoreState) (hobs : List HobEntry) (at : ℕ) → starts (hob_lines_from s at hobs) ≡ []
hobs_quiet s [] at = refl
hobs_quiet s (hob ∷ hobs) at = hobs_quiet s hobs (at + hob_len hob)

store_quiet : (s : StoreState) → starts (store_lines s) ≡ []
store_quiet s =
    let ppis : starts (ppi_lines s) ≡ [] = quiet_then (L.Ppis (length s.ppis)) (map (ppi_line s) s.ppis) refl (quiet_map (ppi_line s) s.ppis (λ entry. refl)) in
    let callbacks : starts (callback_lines s) ≡ [] = quiet_then (L.Callbacks (length s.callbacks)) (map (callback_line s) s.callbacks) refl (quiet_map (callback_line s) s.callbacks (λ entry. refl)) in
    let dispatches : starts (dispatch_lines s) ≡ [] = quiet_then (L.Dispatches (length s.dispatches)) (map (dispatch_line s) s.dispatches) refl (quiet_map (dispatch_line s) s.dispatches (λ entry. refl)) in
    let pendings : starts (pending_lines s) ≡ [] = quiet_then (L.Pendings (length s.pendings)) (map (pending_line s) s.pendings) refl (quiet_map (pending_line s) s.pendings (λ entry. refl)) in
    let hobs : starts (hob_lines s) ≡ [] = hobs_quiet s s.hobs handoff_len in
    quiet_both (ppi_lines s ++ callback_lines s ++ dispatch_lines s ++ pending_lines s) (hob_lines s)
    (quiet_both (ppi_lines s ++ callback_lines s ++ dispatch_lines s) (pending_lines s)
    (quiet_both (ppi_lines s ++ callback_lines s) (dispatch_lines s) (quiet_both (ppi_lines s) (callback_lines s) ppis callbacks) dispatches) pendings) hobs

pub closing_quiet : (s : StoreState) (handles : HandleState) (end : RunEnd) → starts (closing s handles end) ≡ []
closing_quiet s handles end =
    let all : starts (handle_lines handles) ≡ [] = quiet_then (L.Handles (length handles.interfaces)) (map (λ i. L.Handle i.handle i.guid i.value) handles.interfaces) refl (quiet_map (λ i. L.Handle i.handle i.guid i.value) handles.interfaces (λ i. refl)) in
    quiet_both (store_lines s ++ handle_lines handles) (L.Result end ∷ []) (quiet_both (store_lines s) (handle_lines handles) (store_quiet s) all) refl
