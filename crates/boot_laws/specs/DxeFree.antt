-- The lines of the free boots from a machine of DXE, a step at a time.
-- Own; PI 1.8, volume 2, leaves the order to the dispatcher.
use Rattle.std.specs.Prelude.{◌≡◌, ◌≢◌, ◌↔◌, ℕ, true, List, [], ◌++◌, None, is_some, ⊤}
use Rattle.mod_catalog.specs.{declared.catalogue.Catalog.Catalog, WellFormed.AreNumbered}
use Rattle.boot_model.specs.{declared.line.Line.Line, PeiMachine.PeiMachine, declared.driver.Scheduled.Scheduled, DxeMachine.DxeMachine}
use Rattle.boot_model.specs.DxeStep.{DxeCase, DxeFires, DxeActs, DxeStarts, DxeStops, dxe_case_of, dxe_step}
use Rattle.boot_model.specs.{BootRun.both_lines, FreeRun.IsFreeInDxe, FreeRun.AreFreeDxeLines}
use Rattle.boot_laws.specs.{DxeUnderWay.IsUnderWay, PeiFree.AreLinesBehind}

-- any case but a start with nothing scheduled, which alone leaves a choice
abbrev pub IsOwnCase : DxeCase → List Scheduled → Type 0
IsOwnCase (DxeFires note sweep frame below) scheduled = ⊤
IsOwnCase (DxeActs frame below) scheduled = ⊤
IsOwnCase (DxeStarts next queue) scheduled = scheduled ≢ []
IsOwnCase DxeStops scheduled = ⊤

-- if there is no choice the free boots from a machine are those from its next one
abbrev pub DxeGoesOn : Type 0
DxeGoesOn = (catalog : Catalog) (fuel : ℕ) (pei : PeiMachine) (m : DxeMachine) → m.ended ≡ None
    → IsOwnCase (dxe_case_of catalog m) m.scheduled → (lines : List Line)
    → AreFreeDxeLines catalog fuel pei m lines ↔ AreFreeDxeLines catalog fuel pei (dxe_step catalog fuel m) lines

-- after its end they are the lines of both phases, and the last ones
abbrev pub DxeEndsSo : Type 0
DxeEndsSo = (catalog : Catalog) (fuel : ℕ) (pei : PeiMachine) (m : DxeMachine) → is_some m.ended ≡ true → (lines : List Line)
    → AreFreeDxeLines catalog fuel pei m lines ↔ (lines ≡ both_lines pei m m.ended)

-- they begin with the lines that were printed, and their text is whole lines
abbrev pub DxeLinesGrow : Type 0
DxeLinesGrow = (catalog : Catalog) (fuel : ℕ) (pei : PeiMachine) (m : DxeMachine) (lines : List Line)
    → AreFreeDxeLines catalog fuel pei m lines → AreLinesBehind (pei.lines ++ m.lines) lines

-- from each machine that is under way there is a free boot, if each volume's parent comes before it
abbrev pub DxeEndsFreely : Type 0
DxeEndsFreely = (catalog : Catalog) (fuel : ℕ) (pei : PeiMachine) (m : DxeMachine) → AreNumbered 0 catalog.volumes → IsUnderWay catalog m
    → (lines : List Line) × AreFreeDxeLines catalog fuel pei m lines

-- a step of the machine itself is a free one
abbrev pub OwnDxeStepsAreFree : Type 0
OwnDxeStepsAreFree = (catalog : Catalog) (fuel : ℕ) (m : DxeMachine)
    → IsFreeInDxe catalog fuel m (dxe_case_of catalog m) (dxe_step catalog fuel m)
