-- The choice of the next PEIM with the cursor put elsewhere: it is always one that may start, and with the cursor before a part that may start it is that part.
-- Own.
use Rattle.std.specs.Prelude.{◌≡◌, ◌↔◌, ℕ, true, List, ◌∷◌, ◌++◌, Some, None, slice_get, ⊤}
use Rattle.pi_base.specs.declared.phase.Phase.TheVariants.{Pei}
use Rattle.mod_catalog.specs.{declared.catalogue.Catalog.Catalog, declared.catalogue.Part.Part, Parts.part_at}
use Rattle.boot_model.specs.{declared.line.Line.Line, Eligible.is_eligible, Eligible.licence_at, PeiChoice.pei_order, PeiChoice.next_peim}
use Rattle.boot_model.specs.{PeiMachine.PeiMachine, FreeRun.MayStart, FreeRun.AreFreePeiLines}
use Rattle.boot_model.specs.PeiStep.{PeiCase, Fires, Acts, Moves, Pops, Starts, Stops, case_of, start_line, started, stopped}
use Rattle.boot_laws.specs.PeiUnderWay.{IsUnderWay, steps_left}

-- the machine with its cursor there
abbrev pub with_cursor : PeiMachine → ℕ → PeiMachine
with_cursor m cursor = record m { cursor = cursor }

-- the machine is about to choose: it starts a part or stops
abbrev pub IsChoice : PeiCase → Type 0
IsChoice (Fires firing sweep) = ⊥
IsChoice (Acts frame below) = ⊥
IsChoice (Moves new) = ⊥
IsChoice (Pops firing new) = ⊥
IsChoice (Starts first) = ⊤
IsChoice Stops = ⊤

-- what the cursor changes of the choice, and of what follows
pub record IsAimable (catalog : Catalog) (m : PeiMachine) (cursor : ℕ) : Type 0 where
  -- the part after the cursor, if it may start
  pub aimed : (number : ℕ) → slice_get (pei_order catalog m.reported) cursor ≡ Some number → is_eligible catalog m number ≡ true
      → next_peim catalog (with_cursor m cursor) ≡ Some number
  -- always one that may start
  pub chosen : (number : ℕ) → next_peim catalog (with_cursor m cursor) ≡ Some number → MayStart catalog m number
  -- there is none if there was none
  pub none : next_peim catalog (with_cursor m cursor) ≡ None ↔ next_peim catalog m ≡ None
  -- a start moves the cursor after the part
  pub start : (number : ℕ) → MayStart catalog m number → started catalog (with_cursor m cursor) number ≡ started catalog m number
  -- a stop keeps it
  pub stop : stopped catalog (with_cursor m cursor) ≡ with_cursor (stopped catalog m) cursor
  pub choice : IsChoice (case_of catalog m) → IsChoice (case_of catalog (with_cursor m cursor))
  pub way : IsUnderWay catalog m → IsUnderWay catalog (with_cursor m cursor)
  pub left : (fuel : ℕ) → steps_left catalog fuel (with_cursor m cursor) ≡ steps_left catalog fuel m

abbrev pub CursorAims : Type 0
CursorAims = (catalog : Catalog) (m : PeiMachine) (cursor : ℕ) → IsAimable catalog m cursor

-- the part that the machine chooses may start
abbrev pub NextMayStart : Type 0
NextMayStart = (catalog : Catalog) (m : PeiMachine) (number : ℕ) → next_peim catalog m ≡ Some number → MayStart catalog m number

-- when the machine chooses, the free boots are the same for every place of the cursor
abbrev pub CursorIsFree : Type 0
CursorIsFree = (catalog : Catalog) (fuel : ℕ) (m : PeiMachine) (cursor : ℕ) → m.ended ≡ None → IsChoice (case_of catalog m)
    → (lines : List Line)
    → AreFreePeiLines catalog fuel (with_cursor m cursor) lines ↔ AreFreePeiLines catalog fuel m lines

-- a part that starts has its start line printed first
pub record PrintsStart (catalog : Catalog) (m : PeiMachine) (number : ℕ) : Type 0 where
  pub part : Part
  pub part_is : part_at Pei catalog number ≡ Some part
  pub rest : List Line
  pub lines : (started catalog m number).lines ≡ m.lines ++ start_line catalog m number (licence_at m number part) ∷ rest

abbrev pub PeiStartsPrint : Type 0
PeiStartsPrint = (catalog : Catalog) (m : PeiMachine) (number : ℕ) → MayStart catalog m number → PrintsStart catalog m number
