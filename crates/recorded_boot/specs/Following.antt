-- How a boot along an order ends: at its end, at the start at which the order stops, or before the start of a line that no free boot makes after the lines
-- before. Own; PI 1.8, volumes 1 and 2, leave to the dispatchers which eligible module starts, and nothing else.
use Rattle.std.specs.Prelude.{◌≡◌, ◌⊎◌, ℕ, true, List, [], ◌∷◌, ◌++◌, Some, is_some}
use Rattle.std.specs.Io.KnownBytes.{Appends}
use Rattle.mod_catalog.specs.declared.catalogue.Catalog.{Catalog}
use Rattle.store_model.specs.{HandleState.HandleState, HandleState.no_handles, StoreState.Board, StoreState.StoreState}
use Rattle.boot_model.specs.{declared.line.Line.Line, declared.line.RunEnd.RunEnd, declared.phase_end.PeiEnd.TheVariants.Handoff}
use Rattle.boot_model.specs.declared.line.Line.TheVariants as L
use Rattle.boot_model.specs.{DxeMachine.DxeMachine, DxeRun.dxe_opening, FreeRun.AreFreeLines, PeiMachine.PeiMachine, PeiRun.pei_opening}
use Rattle.boot_model.specs.Text.{text_of}
use Rattle.boot_trace.specs.Printing.{Texts}
use Rattle.recorded_boot.specs.{declared.order.line.AskedStart.AskedStart, declared.order.line.Start.Start}
use Rattle.recorded_boot.specs.{declared.order.lines.StartOrder.StartOrder, Leading.DxeComesTo, Leading.PeiComesTo, ByOrder.starts_of}
use Rattle.recorded_boot.specs.Starts.{ComeFirst, start_of, starts}
use Rattle.recorded_boot.specs.{Against.StandsAgainst, Own.GoesOnItself, declared.follow.against.Against.Against}

-- the lines of a free boot up to one of its starts
pub record IsBeforeStart (board : Board) (catalog : Catalog) (fuel : ℕ) (printed : List Line) : Type 0 where
  pub lines : List Line
  pub boots : AreFreeLines board catalog fuel lines
  pub line : Line
  pub start : Start
  pub tells : start_of line ≡ Some start
  pub rest : List Line
  pub are : lines ≡ printed ++ line ∷ rest

-- a boot that came to its end: its starts are those of the order, and more only if the order does not stop; after the last of the order it continues as the
-- machine itself does
pub record HasEnded (board : Board) (catalog : Catalog) (fuel : ℕ) (order : StartOrder) (end : RunEnd) (t : Texts) : Type 0 where
  pub lines : List Line
  pub boots : AreFreeLines board catalog fuel lines
  pub result : (before : List Line) × (lines ≡ before ++ L.Result end ∷ [])
  pub made : ComeFirst (starts_of order.starts) (starts lines)
  pub no_more : is_some order.stop ≡ true → starts lines ≡ starts_of order.starts
  pub itself : GoesOnItself board catalog fuel (starts_of order.starts) lines
  pub text : Appends t.old t.new (text_of lines)

-- a boot that was left before its next start, since the order stops there
pub record HasStopped (board : Board) (catalog : Catalog) (fuel : ℕ) (order : StartOrder) (t : Texts) : Type 0 where
  pub printed : List Line
  pub before : IsBeforeStart board catalog fuel printed
  pub made : starts printed ≡ starts_of order.starts
  pub stops : is_some order.stop ≡ true
  pub text : Appends t.old t.new (text_of printed)

-- how far a boot is: free steps lead to a machine of PEI, or over the hand-off to one of DXE; these lines were printed, and this is installed
pub data StandsAt (board : Board) (catalog : Catalog) (fuel : ℕ) (lines : List Line) (s : StoreState) (h : HandleState) : Type 0 where
  stands_in_pei : (earlier : List PeiMachine) (m : PeiMachine) → PeiComesTo catalog fuel (pei_opening board catalog) earlier m
      → lines ≡ m.lines → s ≡ m.store → h ≡ no_handles → StandsAt board catalog fuel lines s h
  stands_in_dxe : (earlier : List PeiMachine) (pei : PeiMachine) → PeiComesTo catalog fuel (pei_opening board catalog) earlier pei → pei.ended ≡ Some Handoff
      → (over : List DxeMachine) (m : DxeMachine) → DxeComesTo catalog fuel (dxe_opening catalog pei.store pei.actions) over m
      → lines ≡ pei.lines ++ m.lines → s ≡ pei.store → h ≡ m.handles → StandsAt board catalog fuel lines s h

-- why a start after these lines is not possible, in the machine that printed them, or all but the last ones of a whole boot
pub record StandsBehind (board : Board) (catalog : Catalog) (fuel : ℕ) (printed : List Line) (start : Start) (against : Against) : Type 0 where
  pub lines : List Line
  pub last : List Line
  pub are : printed ≡ lines ++ last
  pub quiet : starts last ≡ []
  pub s : StoreState
  pub h : HandleState
  pub stands : StandsAt board catalog fuel lines s h
  pub is_against : StandsAgainst catalog (starts printed) s h start against

-- no free boot starts as the lines of the order do up to this one; it was followed as far as one starts as those before do
pub record IsNo (board : Board) (catalog : Catalog) (fuel : ℕ) (order : StartOrder) (line : ℕ) (against : Against) (t : Texts) : Type 0 where
  pub before : List AskedStart
  pub asked : AskedStart
  pub behind : List AskedStart
  pub order_is : order.starts ≡ before ++ asked ∷ behind
  pub line_is : line ≡ asked.line
  pub none : (lines : List Line) → AreFreeLines board catalog fuel lines → ComeFirst (starts_of before ++ asked.start ∷ []) (starts lines) → ⊥
  pub printed : List Line
  pub far : AreFreeLines board catalog fuel printed ⊎ IsBeforeStart board catalog fuel printed
  pub made : starts printed ≡ starts_of before
  pub text : Appends t.old t.new (text_of printed)
  pub stood : StandsBehind board catalog fuel printed asked.start against
