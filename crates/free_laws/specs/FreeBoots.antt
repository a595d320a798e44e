-- Every free boot obeys the laws: all its lines are those of a free run of PEI and, after a hand-off, of a free run of DXE, of which the laws hold.
-- PI 1.8, volume 1, "PEI Dispatcher", and volume 2, "DXE Dispatcher".
use Rattle.std.specs.Prelude.{◌≡◌, ℕ, List, [], Option, Some, None}
use Rattle.pi_base.specs.Lists.{Each}
use Rattle.mod_catalog.specs.{declared.catalogue.Catalog.Catalog, WellFormed.IsWellFormed}
use Rattle.store_model.specs.{StateFacts.IsBoard, StoreState.Board}
use Rattle.boot_model.specs.{declared.line.Line.Line, declared.phase_end.PeiEnd.PeiEnd, BootRun.both_lines, BootRun.lines_after}
use Rattle.boot_model.specs.declared.phase_end.PeiEnd.TheVariants.{Handoff, NoMemory, NoIpl, Spent, Deep}
use Rattle.boot_model.specs.{PeiMachine.PeiMachine, PeiRun.last_machine, PeiRun.pei_opening, DxeMachine.DxeMachine, DxeRun.dxe_opening}
use Rattle.boot_model.specs.FreeRun.{AreFreeLines, IsFreeDxeRun, IsFreePeiRun, last_of_dxe}
use Rattle.boot_model.specs.DriverLicence.{DxeStopsIdle}
use Rattle.boot_model.specs.Licence.{AllDiffer, MovesUnchanged, StartedOnce, StopsIdle}
use Rattle.free_laws.specs.FreePei as P
use Rattle.free_laws.specs.FreeDxe as D

-- a free run of PEI of which the laws hold
pub record IsLawfulPei (board : Board) (catalog : Catalog) (fuel : ℕ) (run : List PeiMachine) : Type 0 where
  pub free : IsFreePeiRun catalog fuel (pei_opening board catalog) run
  pub once : Each StartedOnce run
  pub licensed : P.EachStep (P.StartsLicensed catalog) (pei_opening board catalog) run
  pub moves : P.EachStep (λ m later. MovesUnchanged catalog m) (pei_opening board catalog) run
  pub stops : P.EachStep (λ m later. StopsIdle catalog m) (pei_opening board catalog) run

-- a free run of DXE from an opening of which the laws hold
pub record IsLawfulDxe (catalog : Catalog) (fuel : ℕ) (opening : DxeMachine) (run : List DxeMachine) : Type 0 where
  pub free : IsFreeDxeRun catalog fuel opening run
  pub once : Each (λ m. AllDiffer m.started) run
  pub licensed : D.EachStepAfter (D.StartsLicensed catalog) [] opening run
  pub beside : D.EachWithRest (D.NeighboursStartBeside catalog) opening run
  pub stops : P.EachStep (λ m later. DxeStopsIdle catalog m) opening run

-- all lines of both phases, after such a run of DXE
abbrev pub AreLawfulDxeLines : Catalog → ℕ → PeiMachine → DxeMachine → List Line → Type 0
AreLawfulDxeLines catalog fuel pei opening lines =
    (run : List DxeMachine) × IsLawfulDxe catalog fuel opening run × (lines ≡ both_lines pei (last_of_dxe opening run) (last_of_dxe opening run).ended)

-- all lines after a PEI that has ended so
abbrev pub AreLawfulLinesAfter : Catalog → ℕ → PeiMachine → Option PeiEnd → List Line → Type 0
AreLawfulLinesAfter catalog fuel pei None lines = lines ≡ lines_after catalog fuel pei None
AreLawfulLinesAfter catalog fuel pei (Some Handoff) lines = AreLawfulDxeLines catalog fuel pei (dxe_opening catalog pei.store pei.actions) lines
AreLawfulLinesAfter catalog fuel pei (Some NoMemory) lines = lines ≡ lines_after catalog fuel pei (Some NoMemory)
AreLawfulLinesAfter catalog fuel pei (Some NoIpl) lines = lines ≡ lines_after catalog fuel pei (Some NoIpl)
AreLawfulLinesAfter catalog fuel pei (Some Spent) lines = lines ≡ lines_after catalog fuel pei (Some Spent)
AreLawfulLinesAfter catalog fuel pei (Some Deep) lines = lines ≡ lines_after catalog fuel pei (Some Deep)

-- all lines of a boot that obeys the laws
pub record AreLawfulLines (board : Board) (catalog : Catalog) (fuel : ℕ) (lines : List Line) : Type 0 where
  pub run : List PeiMachine
  pub pei : IsLawfulPei board catalog fuel run
  pub after : let last = last_machine (pei_opening board catalog) run in AreLawfulLinesAfter catalog fuel last last.ended lines

abbrev pub FreeBootsAreLawful : Type 0
FreeBootsAreLawful = (board : Board) (catalog : Catalog) (fuel : ℕ) (lines : List Line) → IsWellFormed catalog → IsBoard board
    → AreFreeLines board catalog fuel lines → AreLawfulLines board catalog fuel lines
