-- A step of PEI adds lines and takes none away.
use Rattle.std.proofs.Common.{◌≡◌, ℕ, ◌+◌, Bool, true, false, cond, List, [], ◌∷◌, Option, Some, None, refl, sym, subst, append_assoc, Ok, Err, nat_le, length}
use Rattle.pi_base.specs.declared.phase.Phase.TheVariants.{Pei}
use Rattle.mod_catalog.specs.{declared.catalogue.Catalog.Catalog, declared.catalogue.Part.Part, Parts.has_number, Parts.part_at}
use Rattle.store_model.specs.{declared.store_handle.Sweep.Sweep, Service.Service, Service.Install.core_install, StoreState.StoreState}
use Rattle.boot_model.specs.{declared.line.Line.Line, FreeRun.IsFreeIn}
use Rattle.boot_model.specs.declared.line.Line.TheVariants as L
use Rattle.boot_model.specs.PeiAction.{Effect, Wrote, Called, Own, Shadowed, Logged, Skipped, Returned, effect}
use Rattle.boot_model.specs.PeiMachine.{PeiMachine, Frame, printed}
use Rattle.boot_model.specs.PeiStep.{PeiCase, Fires, Acts, Moves, Pops, Starts, Stops, in_case, action_at, after_effect, core_called, started_part}
use Rattle.boot_laws.proofs.DxeGrowing.{Told, silent}

either_told : (lines : List Line) (b : Bool) (one other : PeiMachine) → Told lines one.lines → Told lines other.lines → Told lines (cond b one other).lines
either_told lines true one other h k = h
either_told lines false one other h k = k

effect_told : (catalog : Catalog) (m : PeiMachine) (frame : Frame) (below : List Frame) (e : Effect) → Told m.lines (after_effect catalog m frame below e).lines
effect_told catalog m frame below (Wrote registers status) = silent m.lines
effect_told catalog m frame below (Called name reply) = (_, refl)
effect_told catalog m frame below (Own Shadowed) = either_told m.lines (has_number m.shadows frame.module_number) _ _ (_, refl) (_, refl)
effect_told catalog m frame below (Logged text) = (_, refl)
effect_told catalog m frame below (Skipped n) = silent m.lines
effect_told catalog m frame below (Returned status) = (_, refl)

core_told : (m : PeiMachine) (line : Line) (new : StoreState) (service : Service Sweep) → Told m.lines (core_called (record (printed m (line ∷ [])) { store = new }) service).lines
core_told m line new (Ok pair) = (_, append_assoc m.lines (line ∷ []) _)
core_told m line new (Err fault) = (_, append_assoc m.lines (line ∷ []) _)

start_told : (catalog : Catalog) (m : PeiMachine) (number : ℕ) (part : Option Part) → Told m.lines (started_part catalog m number part).lines
start_told catalog m number None = silent m.lines
start_told catalog m number (Some part) = (_, refl)

case_told : (catalog : Catalog) (fuel : ℕ) (m : PeiMachine) (case : PeiCase) → Told m.lines (in_case catalog fuel m case).lines
case_told catalog fuel m (Fires firing sweep) = either_told m.lines (nat_le 64 (length m.frames)) _ _ (silent m.lines) (_, refl)
case_told catalog fuel m (Acts frame below) =
    either_told m.lines (nat_le fuel m.actions) _ _ (silent m.lines) (effect_told catalog (record m { actions = m.actions + 1 }) frame below (effect m.store frame (action_at catalog frame)))
case_told catalog fuel m (Moves new) = core_told m (L.Migrate m.store.base new.base) new (core_install new)
case_told catalog fuel m (Pops firing new) = (_, refl)
case_told catalog fuel m (Starts number) = start_told catalog m number (part_at Pei catalog number)
case_told catalog fuel m Stops = (_, refl)

own_told : (catalog : Catalog) (fuel : ℕ) (m later : PeiMachine) (case : PeiCase) → later ≡ in_case catalog fuel m case → Told m.lines later.lines
own_told catalog fuel m later case is = subst (λ (x : PeiMachine). Told m.lines x.lines) (sym is) (case_told catalog fuel m case)

-- each free step does so
pub free_told : (catalog : Catalog) (fuel : ℕ) (m later : PeiMachine) (case : PeiCase) → IsFreeIn catalog fuel m case later → Told m.lines later.lines
free_told catalog fuel m later (Fires firing sweep) h = own_told catalog fuel m later (Fires firing sweep) h
free_told catalog fuel m later (Acts frame below) h = own_told catalog fuel m later (Acts frame below) h
free_told catalog fuel m later (Moves new) h = own_told catalog fuel m later (Moves new) h
free_told catalog fuel m later (Pops firing new) h = own_told catalog fuel m later (Pops firing new) h
free_told catalog fuel m later (Starts first) h = own_told catalog fuel m later (Starts h.0) h.2
free_told catalog fuel m later Stops h = own_told catalog fuel m later Stops h
