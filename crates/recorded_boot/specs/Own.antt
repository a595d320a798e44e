-- A boot that continues from a machine as the machine itself does, by its own steps alone.
-- PI 1.8, volumes 1 and 2, leave the order to the dispatchers; that of the machine is own.
use Rattle.std.specs.Prelude.{◌≡◌, ℕ, List, ◌++◌, Option, Some, None}
use Rattle.mod_catalog.specs.declared.catalogue.Catalog.{Catalog}
use Rattle.store_model.specs.StoreState.{Board}
use Rattle.boot_model.specs.{declared.line.Line.Line, declared.phase_end.PeiEnd.PeiEnd, BootRun.both_lines, BootRun.lines_after}
use Rattle.boot_model.specs.declared.phase_end.PeiEnd.TheVariants.{Handoff, NoMemory, NoIpl, Spent, Deep}
use Rattle.boot_model.specs.{DxeMachine.DxeMachine, DxeRun.IsDxeRun, DxeRun.dxe_opening, FreeRun.last_of_dxe, PeiMachine.PeiMachine}
use Rattle.boot_model.specs.PeiRun.{IsPeiRun, last_machine, pei_opening}
use Rattle.recorded_boot.specs.{declared.order.line.Start.Start, Starts.starts, Leading.DxeComesTo, Leading.PeiComesTo}

-- all lines of a boot that continues so from a machine of DXE, after this one of PEI
abbrev pub AreOwnDxeLines : Catalog → ℕ → PeiMachine → DxeMachine → List Line → Type 0
AreOwnDxeLines catalog fuel pei m lines = (run : List DxeMachine) × IsDxeRun catalog fuel m run × (lines ≡ both_lines pei (last_of_dxe m run) (last_of_dxe m run).ended)

-- after a PEI that has ended so
abbrev pub AreOwnLinesAfter : Catalog → ℕ → PeiMachine → Option PeiEnd → List Line → Type 0
AreOwnLinesAfter catalog fuel pei None lines = lines ≡ lines_after catalog fuel pei None
AreOwnLinesAfter catalog fuel pei (Some Handoff) lines = AreOwnDxeLines catalog fuel pei (dxe_opening catalog pei.store pei.actions) lines
AreOwnLinesAfter catalog fuel pei (Some NoMemory) lines = lines ≡ lines_after catalog fuel pei (Some NoMemory)
AreOwnLinesAfter catalog fuel pei (Some NoIpl) lines = lines ≡ lines_after catalog fuel pei (Some NoIpl)
AreOwnLinesAfter catalog fuel pei (Some Spent) lines = lines ≡ lines_after catalog fuel pei (Some Spent)
AreOwnLinesAfter catalog fuel pei (Some Deep) lines = lines ≡ lines_after catalog fuel pei (Some Deep)

-- from a machine of PEI
abbrev pub AreOwnPeiLines : Catalog → ℕ → PeiMachine → List Line → Type 0
AreOwnPeiLines catalog fuel m lines = (run : List PeiMachine) × IsPeiRun catalog fuel m run × AreOwnLinesAfter catalog fuel (last_machine m run) (last_machine m run).ended lines

-- free steps lead to a machine after these starts, in PEI or over the hand-off in DXE, and from there the boot continues so
pub data GoesOnItself (board : Board) (catalog : Catalog) (fuel : ℕ) (made : List Start) (lines : List Line) : Type 0 where
  itself_in_pei : (earlier : List PeiMachine) (m : PeiMachine) → PeiComesTo catalog fuel (pei_opening board catalog) earlier m → starts m.lines ≡ made
      → AreOwnPeiLines catalog fuel m lines → GoesOnItself board catalog fuel made lines
  itself_in_dxe : (earlier : List PeiMachine) (pei : PeiMachine) → PeiComesTo catalog fuel (pei_opening board catalog) earlier pei → pei.ended ≡ Some Handoff
      → (over : List DxeMachine) (m : DxeMachine) → DxeComesTo catalog fuel (dxe_opening catalog pei.store pei.actions) over m → starts (pei.lines ++ m.lines) ≡ made
      → AreOwnDxeLines catalog fuel pei m lines → GoesOnItself board catalog fuel made lines
