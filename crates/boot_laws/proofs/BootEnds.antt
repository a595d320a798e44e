-- The lines of a boot end with its result, since PEI ends, and DXE where PEI hands off.
use Rattle.std.proofs.Common.{◌≡◌, ℕ, true, List, [], ◌∷◌, ◌++◌, Option, Some, None, refl, sym, subst, is_some, append_assoc}
use Rattle.mod_catalog.specs.{declared.catalogue.Catalog.Catalog, WellFormed.AreNumbered}
use Rattle.boot_model.specs.{declared.line.Line.Line, declared.line.RunEnd.RunEnd, Listing.store_lines, PeiMachine.PeiMachine}
use Rattle.boot_model.specs.declared.line.Line.TheVariants as L
use Rattle.boot_model.specs.declared.line.RunEnd.TheVariants as E
use Rattle.store_model.specs.HandleState.{HandleState, no_handles}
use Rattle.boot_model.specs.{declared.phase_end.PeiEnd.PeiEnd, PeiRun.pei_end, DxeMachine.DxeMachine, declared.phase_end.DxeEnd.DxeEnd}
use Rattle.boot_model.specs.declared.phase_end.PeiEnd.TheVariants.{Handoff, NoMemory, NoIpl, Spent, Deep}
use Rattle.boot_model.specs.DxeRun.{dxe_end}
use Rattle.boot_model.specs.BootRun.{handle_lines, dxe_result, closing_lines, pei_lines, both_lines, lines_after}
use Rattle.boot_laws.specs.BootEnds.{EndsWithResult, BootsEnd}
use Rattle.boot_laws.proofs.PeiEnds as P
use Rattle.boot_laws.proofs.DxeEnds as D

behind : (first lines : List Line) → EndsWithResult lines → EndsWithResult (first ++ lines)
behind first lines h = (first ++ h.0, h.1, subst (λ xs. first ++ xs ≡ (first ++ h.0) ++ L.Result h.1 ∷ []) (sym h.2) (sym (append_assoc first h.0 (L.Result h.1 ∷ []))))

closing_ends : (pei : PeiMachine) (handles : HandleState) (end : RunEnd) → EndsWithResult (closing_lines pei handles end)
closing_ends pei handles end = (store_lines pei.store ++ handle_lines handles, end, refl)

pei_ends : (pei : PeiMachine) (end : RunEnd) → EndsWithResult (pei_lines pei end)
pei_ends pei end = behind pei.lines (closing_lines pei no_handles end) (closing_ends pei no_handles end)

both_end : (pei : PeiMachine) (dxe : DxeMachine) (end : Option DxeEnd) → is_some end ≡ true → EndsWithResult (both_lines pei dxe end)
both_end pei dxe None h = cc
both_end pei dxe (Some end) h = behind (pei.lines ++ dxe.lines) (closing_lines pei dxe.handles (dxe_result end)) (closing_ends pei dxe.handles (dxe_result end))

after_pei : (catalog : Catalog) (fuel : ℕ) (pei : PeiMachine) (end : Option PeiEnd) → AreNumbered 0 catalog.volumes → is_some end ≡ true → EndsWithResult (lines_after catalog fuel pei end)
after_pei catalog fuel pei None numbered h = cc
after_pei catalog fuel pei (Some Handoff) numbered h =
    both_end pei (dxe_end catalog fuel pei.store pei.actions) (dxe_end catalog fuel pei.store pei.actions).ended (D.runs_end catalog numbered fuel pei.store pei.actions)
after_pei catalog fuel pei (Some NoMemory) numbered h = pei_ends pei E.NoMemory
after_pei catalog fuel pei (Some NoIpl) numbered h = pei_ends pei E.NoIpl
after_pei catalog fuel pei (Some Spent) numbered h = pei_ends pei E.Spent
after_pei catalog fuel pei (Some Deep) numbered h = pei_ends pei E.Deep

pub boots_end : BootsEnd
boots_end board catalog numbered fuel = after_pei catalog fuel (pei_end board catalog fuel) (pei_end board catalog fuel).ended numbered (P.runs_end board catalog fuel)
