-- The lines of a boot by choices, and those of the machine's own, part by part.
use Rattle.std.proofs.Common.{◌≡◌, ℕ, List, [], ◌++◌, Option, Some, None, refl, sym, ap, ◌∙◌, append_assoc, append-nil}
use Rattle.mod_catalog.specs.declared.catalogue.Catalog.{Catalog}
use Rattle.store_model.specs.{HandleState.HandleState, HandleState.no_handles, StoreState.StoreState}
use Rattle.boot_model.specs.{declared.line.Line.Line, declared.line.RunEnd.RunEnd, declared.phase_end.DxeEnd.DxeEnd}
use Rattle.boot_model.specs.declared.line.RunEnd.TheVariants as E
use Rattle.boot_model.specs.{declared.phase_end.PeiEnd.PeiEnd, DxeMachine.DxeMachine, DxeRun.dxe_end, PeiMachine.PeiMachine}
use Rattle.boot_model.specs.declared.phase_end.PeiEnd.TheVariants.{Handoff, NoMemory, NoIpl, Spent, Deep}
use Rattle.boot_model.specs.BootRun.{both_lines, dxe_result, lines_after, pei_lines}
use Rattle.boot_core.specs.{ByChoice.EndsAfter, ByChoice.EndsInPei, Choices.Choices, Closing.closing}

-- the same lines, handles and result
pub same_whole : (s : StoreState) (lines others : List Line) (handles held : HandleState) (end so : RunEnd) → lines ≡ others → handles ≡ held → end ≡ so → lines ++ closing s handles end ≡ others ++ closing s held so
same_whole s lines others handles held end so a b d =
    ap (λ x. x ++ closing s handles end) a ∙ ap (λ x. others ++ closing s x end) b ∙ ap (λ x. others ++ closing s held x) d

-- of a boot that ended in PEI
pub whole_of_pei : (so : RunEnd) (pei : PeiMachine) (lines : List Line) (handles : HandleState) (end : RunEnd) → EndsInPei so pei lines handles end → lines ++ closing pei.store handles end ≡ pei_lines pei so
whole_of_pei so pei lines handles end ends = same_whole pei.store lines pei.lines handles no_handles end so ends.lines_are ends.handles_are ends.end_is

-- all lines but the last ones begin with those of PEI
pub begins_with_pei : (choices : Choices) (catalog : Catalog) (fuel : ℕ) (pei : PeiMachine) (how : PeiEnd) (lines : List Line) (handles : HandleState) (end : RunEnd) → EndsAfter choices catalog fuel pei how lines handles end
    → (more : List Line) × (lines ≡ pei.lines ++ more)
begins_with_pei choices catalog fuel pei Handoff lines handles end ends = (ends.dxe.lines, ends.lines_are)
begins_with_pei choices catalog fuel pei NoMemory lines handles end ends = ([], ends.lines_are ∙ sym (append-nil pei.lines))
begins_with_pei choices catalog fuel pei NoIpl lines handles end ends = ([], ends.lines_are ∙ sym (append-nil pei.lines))
begins_with_pei choices catalog fuel pei Spent lines handles end ends = ([], ends.lines_are ∙ sym (append-nil pei.lines))
begins_with_pei choices catalog fuel pei Deep lines handles end ends = ([], ends.lines_are ∙ sym (append-nil pei.lines))

-- the lines of a boot that handed off begin with those of both phases
pub both_first : (pei : PeiMachine) (dxe : DxeMachine) (o : Option DxeEnd) → (rest : List Line) × (both_lines pei dxe o ≡ (pei.lines ++ dxe.lines) ++ rest)
both_first pei dxe None = ([], sym (append-nil (pei.lines ++ dxe.lines)))
both_first pei dxe (Some end) = (closing pei.store dxe.handles (dxe_result end), refl)

-- and those of each boot with those of PEI
pub pei_first : (catalog : Catalog) (fuel : ℕ) (pei : PeiMachine) (o : Option PeiEnd) → (rest : List Line) × (lines_after catalog fuel pei o ≡ pei.lines ++ rest)
pei_first catalog fuel pei None = ([], sym (append-nil pei.lines))
pei_first catalog fuel pei (Some Handoff) =
    let dxe = dxe_end catalog fuel pei.store pei.actions in
    let both = both_first pei dxe dxe.ended in
    (dxe.lines ++ both.0, both.1 ∙ append_assoc pei.lines dxe.lines both.0)
pei_first catalog fuel pei (Some NoMemory) = (closing pei.store no_handles E.NoMemory, refl)
pei_first catalog fuel pei (Some NoIpl) = (closing pei.store no_handles E.NoIpl, refl)
pei_first catalog fuel pei (Some Spent) = (closing pei.store no_handles E.Spent, refl)
pei_first catalog fuel pei (Some Deep) = (closing pei.store no_handles E.Deep, refl)
