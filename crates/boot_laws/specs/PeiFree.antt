-- The lines of the free boots from a machine of PEI, a step at a time.
-- Own; PI 1.8, volume 1, leaves the order to the dispatcher.
use Rattle.std.specs.Prelude.{◌≡◌, ◌↔◌, ℕ, true, List, [], ◌∷◌, ◌++◌, None, is_some, ⊤}
use Rattle.mod_catalog.specs.{declared.catalogue.Catalog.Catalog, WellFormed.AreNumbered}
use Rattle.store_model.specs.StoreState.{Board}
use Rattle.boot_model.specs.{declared.line.Line.Line, Text.text_of, PeiMachine.PeiMachine, BootRun.boot_lines}
use Rattle.boot_model.specs.PeiStep.{PeiCase, Fires, Acts, Moves, Pops, Starts, Stops, case_of, pei_step, started}
use Rattle.boot_model.specs.FreeRun.{MayStart, IsFreePeiStep, AreFreePeiLines, AreFreeLinesAfter, AreFreeLines}
use Rattle.boot_laws.specs.PeiUnderWay.{IsUnderWay}

-- any case but a start, which alone leaves a choice
abbrev pub IsOwnCase : PeiCase → Type 0
IsOwnCase (Fires firing sweep) = ⊤
IsOwnCase (Acts frame below) = ⊤
IsOwnCase (Moves new) = ⊤
IsOwnCase (Pops firing new) = ⊤
IsOwnCase (Starts first) = ⊥
IsOwnCase Stops = ⊤

-- if there is no choice the free boots from a machine are those from its next one
abbrev pub PeiGoesOn : Type 0
PeiGoesOn = (catalog : Catalog) (fuel : ℕ) (m : PeiMachine) → m.ended ≡ None → IsOwnCase (case_of catalog m) → (lines : List Line)
    → AreFreePeiLines catalog fuel m lines ↔ AreFreePeiLines catalog fuel (pei_step catalog fuel m) lines

-- some part that may start has started, and these are the lines of a free boot from there
abbrev pub AreLinesOfStart : Catalog → ℕ → PeiMachine → List Line → Type 0
AreLinesOfStart catalog fuel m lines =
    (number : ℕ) × MayStart catalog m number × AreFreePeiLines catalog fuel (started catalog m number) lines

-- if there is a choice they are those from each part that may start
abbrev pub PeiStartsFreely : Type 0
PeiStartsFreely = (catalog : Catalog) (fuel : ℕ) (m : PeiMachine) (first : ℕ) → m.ended ≡ None → case_of catalog m ≡ Starts first
    → (lines : List Line)
    → AreFreePeiLines catalog fuel m lines ↔ AreLinesOfStart catalog fuel m lines

-- after its end they are what comes after PEI
abbrev pub PeiEndsSo : Type 0
PeiEndsSo = (catalog : Catalog) (fuel : ℕ) (m : PeiMachine) → is_some m.ended ≡ true → (lines : List Line)
    → AreFreePeiLines catalog fuel m lines ↔ AreFreeLinesAfter catalog fuel m m.ended lines

-- the text of the lines ends with a line feed
abbrev pub EndsWithLine : List Line → Type 0
EndsWithLine lines = (before : List ℕ) × (text_of lines ≡ before ++ 10 ∷ [])

-- they begin with the lines that were printed, and their text is whole lines
pub record AreLinesBehind (printed lines : List Line) : Type 0 where
  pub rest : List Line
  pub printed_first : lines ≡ printed ++ rest
  pub ends : EndsWithLine lines

abbrev pub PeiLinesGrow : Type 0
PeiLinesGrow = (catalog : Catalog) (fuel : ℕ) (m : PeiMachine) (lines : List Line) → AreFreePeiLines catalog fuel m lines
    → AreLinesBehind m.lines lines

-- from each machine that is under way there is a free boot, if each volume's parent comes before it
abbrev pub PeiEndsFreely : Type 0
PeiEndsFreely = (catalog : Catalog) (fuel : ℕ) (m : PeiMachine) → AreNumbered 0 catalog.volumes → IsUnderWay catalog m
    → (lines : List Line) × AreFreePeiLines catalog fuel m lines

-- a step of the machine itself is a free one
abbrev pub OwnPeiStepsAreFree : Type 0
OwnPeiStepsAreFree = (catalog : Catalog) (fuel : ℕ) (m : PeiMachine) → IsFreePeiStep catalog fuel m (pei_step catalog fuel m)

-- the boot of the machine itself is a free one
abbrev pub BootIsFree : Type 0
BootIsFree = (board : Board) (catalog : Catalog) (fuel : ℕ) → AreNumbered 0 catalog.volumes
    → AreFreeLines board catalog fuel (boot_lines board catalog fuel)
