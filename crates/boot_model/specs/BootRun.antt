-- A whole boot: PEI to its end, and then DXE if PEI handed off. Its lines are those of both phases, the lists of the last store, the handles, and the result.
-- Own.
use Rattle.std.specs.Prelude.{ℕ, List, [], ◌∷◌, ◌++◌, length, map, Option, Some, None}
use Rattle.mod_catalog.specs.declared.catalogue.Catalog.{Catalog}
use Rattle.boot_model.specs.{declared.line.Line.Line, declared.line.RunEnd.RunEnd, Listing.store_lines, PeiMachine.PeiMachine}
use Rattle.boot_model.specs.declared.line.Line.TheVariants as L
use Rattle.boot_model.specs.declared.line.RunEnd.TheVariants as E
use Rattle.store_model.specs.{StoreState.Board, HandleState.HandleState, HandleState.no_handles}
use Rattle.boot_model.specs.{declared.phase_end.PeiEnd.PeiEnd, PeiRun.pei_end, DxeMachine.DxeMachine, declared.phase_end.DxeEnd.DxeEnd}
use Rattle.boot_model.specs.declared.phase_end.PeiEnd.TheVariants.{Handoff, NoMemory, NoIpl, Spent, Deep}
use Rattle.boot_model.specs.declared.phase_end.DxeEnd.TheVariants as DxeEnds
use Rattle.boot_model.specs.DxeRun.{dxe_end}

-- the handles, after the number of interfaces
abbrev pub handle_lines : HandleState → List Line
handle_lines h = L.Handles (length h.interfaces) ∷ map (λ i. L.Handle i.handle i.guid i.value) h.interfaces

-- the result of a boot by how DXE ends
abbrev pub dxe_result : DxeEnd → RunEnd
dxe_result DxeEnds.Done = E.Done
dxe_result DxeEnds.Spent = E.Spent
dxe_result DxeEnds.Deep = E.Deep

-- the last lines: the lists, the handles and the result
abbrev pub closing_lines : PeiMachine → HandleState → RunEnd → List Line
closing_lines pei handles end = store_lines pei.store ++ handle_lines handles ++ L.Result end ∷ []

-- a boot that ended in PEI, and one that ended in DXE
abbrev pub pei_lines : PeiMachine → RunEnd → List Line
pei_lines pei end = pei.lines ++ closing_lines pei no_handles end

-- the lines of a boot that handed off: those of both phases, and the last lines if DXE has ended
abbrev pub both_lines : PeiMachine → DxeMachine → Option DxeEnd → List Line
both_lines pei dxe None = pei.lines ++ dxe.lines
both_lines pei dxe (Some end) = pei.lines ++ dxe.lines ++ closing_lines pei dxe.handles (dxe_result end)

-- all lines after a PEI that has ended so
abbrev pub lines_after : Catalog → ℕ → PeiMachine → Option PeiEnd → List Line
lines_after catalog fuel pei None = pei.lines
lines_after catalog fuel pei (Some Handoff) = both_lines pei (dxe_end catalog fuel pei.store pei.actions) (dxe_end catalog fuel pei.store pei.actions).ended
lines_after catalog fuel pei (Some NoMemory) = pei_lines pei E.NoMemory
lines_after catalog fuel pei (Some NoIpl) = pei_lines pei E.NoIpl
lines_after catalog fuel pei (Some Spent) = pei_lines pei E.Spent
lines_after catalog fuel pei (Some Deep) = pei_lines pei E.Deep

-- all lines of a boot
abbrev pub boot_lines : Board → Catalog → ℕ → List Line
boot_lines board catalog fuel = lines_after catalog fuel (pei_end board catalog fuel) (pei_end board catalog fuel).ended
