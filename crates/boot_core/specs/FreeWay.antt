-- A boot by choices is a free one: free steps alone lead from the opening of a phase to each machine to which it comes.
-- Own; PI 1.8, volumes 1 and 2, leave to the dispatchers which of the eligible modules starts, and nothing else.
use Rattle.std.specs.Prelude.{◌≡◌, ℕ, List, [], ◌∷◌, ◌++◌, Some, None}
use Rattle.std.specs.Io.KnownBytes.{Appends}
use Rattle.boot_trace.specs.Printing.{Texts}
use Rattle.mod_catalog.specs.declared.catalogue.Catalog.{Catalog}
use Rattle.store_model.specs.StoreState.{Board}
use Rattle.boot_model.specs.{declared.line.Line.Line, declared.phase_end.PeiEnd.TheVariants.Handoff, DxeMachine.DxeMachine}
use Rattle.boot_model.specs.{DxeRun.dxe_opening, DxeStep.dxe_case_of, PeiMachine.PeiMachine, PeiRun.pei_opening, Text.text_of}
use Rattle.boot_model.specs.FreeRun.{AreFreeLines, IsFreeInDxe, IsFreePeiStep}
use Rattle.pei_dispatch.specs.Choices as P
use Rattle.dxe_dispatch.specs.Choices as D
use Rattle.boot_core.specs.{declared.whole.boot.Booted.Booted, ByChoice.BootBy, ByChoice.all_lines, Choices.Choices}
use Rattle.boot_core.specs.declared.whole.boot.Booted.TheVariants.{Ended, BarredInPei, BarredInDxe}

-- free steps lead from the first machine of PEI to this one, over these, the last of them first
abbrev pub PeiComesTo : Catalog → ℕ → PeiMachine → List PeiMachine → PeiMachine → Type 0
PeiComesTo catalog fuel first [] m = m ≡ first
PeiComesTo catalog fuel first (before ∷ earlier) m =
    (before.ended ≡ None) × IsFreePeiStep catalog fuel before m × PeiComesTo catalog fuel first earlier before

-- the same in DXE
abbrev pub DxeComesTo : Catalog → ℕ → DxeMachine → List DxeMachine → DxeMachine → Type 0
DxeComesTo catalog fuel first [] m = m ≡ first
DxeComesTo catalog fuel first (before ∷ earlier) m =
    (before.ended ≡ None) × IsFreeInDxe catalog fuel before (dxe_case_of catalog before) m × DxeComesTo catalog fuel first earlier before

-- the machines before the last step, where the steps were taken from these
abbrev pub came_over : Catalog → ℕ → DxeMachine → List DxeMachine → List DxeMachine
came_over catalog fuel opening [] = []
came_over catalog fuel opening (target ∷ earlier) = D.came catalog fuel opening earlier ∷ came_over catalog fuel opening earlier

-- whatever the choices are: their runs take free steps alone, and a boot that has come to its end is a free one
pub record AreFree (by : Choices) : Type 0 where
  pub pei : (catalog : Catalog) (fuel : ℕ) (opening m : PeiMachine) (earlier : List PeiMachine)
      → P.IsRunBy by.peims by.lets_peim catalog fuel opening earlier m → PeiComesTo catalog fuel opening earlier m
  pub dxe : (catalog : Catalog) (fuel : ℕ) (pei : PeiMachine) (opening : DxeMachine) (earlier : List DxeMachine)
      → D.IsRunBy (by.drivers pei) (by.lets_driver pei) catalog fuel opening earlier
      → DxeComesTo catalog fuel opening (came_over catalog fuel opening earlier) (D.came catalog fuel opening earlier)
  pub boots : (board : Board) (catalog : Catalog) (fuel : ℕ) (boot : BootBy by board catalog fuel) → AreFreeLines board catalog fuel (all_lines boot)

-- all lines of a free boot were put
abbrev pub PutsFreeBoot : Board → Catalog → ℕ → Texts → Type 0
PutsFreeBoot board catalog fuel t = (lines : List Line) × AreFreeLines board catalog fuel lines × Appends t.old t.new (text_of lines)

-- free steps of PEI lead to a machine, all of whose lines were put
pub record PutsFreely (board : Board) (catalog : Catalog) (fuel : ℕ) (t : Texts) : Type 0 where
  pub m : PeiMachine
  pub earlier : List PeiMachine
  pub way : PeiComesTo catalog fuel (pei_opening board catalog) earlier m
  pub text : Appends t.old t.new (text_of m.lines)

-- free steps of PEI lead to the hand-off, and free steps of DXE behind it to a machine; all lines of both were put
pub record PutsFreelyInDxe (board : Board) (catalog : Catalog) (fuel : ℕ) (t : Texts) : Type 0 where
  pub pei : PeiMachine
  pub earlier : List PeiMachine
  pub way : PeiComesTo catalog fuel (pei_opening board catalog) earlier pei
  pub handed : pei.ended ≡ Some Handoff
  pub dxe : DxeMachine
  pub over : List DxeMachine
  pub way_in_dxe : DxeComesTo catalog fuel (dxe_opening catalog pei.store pei.actions) over dxe
  pub text : Appends t.old t.new (text_of (pei.lines ++ dxe.lines))

-- by what the boot came to
abbrev pub GoesFreely : {M : Type 0} → Board → Catalog → ℕ → Texts → Booted M → Type 0
GoesFreely board catalog fuel t (Ended ran) = PutsFreeBoot board catalog fuel t
GoesFreely board catalog fuel t (BarredInPei barred) = PutsFreely board catalog fuel t
GoesFreely board catalog fuel t (BarredInDxe pei barred) = PutsFreelyInDxe board catalog fuel t
