-- The boot in an order of starts: the machines to which the order's choices lead. It ends, or is left before the start of a module that the order does not
-- allow. Own; PI 1.8, volumes 1 and 2, leave the order of the eligible modules to the dispatchers.
use Rattle.std.specs.Prelude.{◌≡◌, ℕ, false, List, [], ◌++◌, Option, Some, None}
use Rattle.std.specs.Io.KnownBytes.{Appends}
use Rattle.pi_base.specs.declared.phase.Phase.TheVariants.{Pei, Dxe}
use Rattle.mod_catalog.specs.declared.catalogue.Catalog.{Catalog}
use Rattle.store_model.specs.{HandleState.HandleState, HandleState.no_handles, StoreState.Board, StoreState.StoreState}
use Rattle.boot_model.specs.{declared.line.Line.Line, declared.line.RunEnd.RunEnd, declared.phase_end.DxeEnd.DxeEnd}
use Rattle.boot_model.specs.declared.line.RunEnd.TheVariants as E
use Rattle.boot_model.specs.{declared.phase_end.PeiEnd.PeiEnd, BootRun.dxe_result, DxeMachine.DxeMachine, DxeRun.dxe_opening}
use Rattle.boot_model.specs.{PeiMachine.PeiMachine, PeiRun.pei_opening, Text.text_of}
use Rattle.boot_model.specs.declared.phase_end.PeiEnd.TheVariants.{Handoff, NoMemory, NoIpl, Spent, Deep}
use Rattle.boot_trace.specs.Printing.{Texts}
use Rattle.recorded_boot.specs.{declared.order.lines.StartOrder.StartOrder, declared.follow.followed.Followed.Followed}
use Rattle.pei_dispatch.specs.Choices as P
use Rattle.pei_dispatch.specs.Ends.{pei_starts}
use Rattle.dxe_dispatch.specs.Choices as D
use Rattle.boot_core.specs.{ByChoice.ComesInDxe, Closing.closing}
use Rattle.boot_core.specs.Choices as W
use Rattle.recorded_boot.specs.{ByOrder.NamesAsked, ByOrder.lets_by, Leaving.ComesTo}

-- the choices of an order
abbrev pub order_choices : Catalog → ℕ → StartOrder → W.Choices
order_choices catalog fuel order = record {
  peims = λ m named. NamesAsked catalog Pei order (pei_starts m) named;
  lets_peim = λ m number. lets_by catalog order Pei (pei_starts m) number;
  drivers = λ pei earlier m named. NamesAsked catalog Dxe order (W.starts_of pei m) named;
  lets_driver = λ pei earlier m number. lets_by catalog order Dxe (W.starts_of pei m) number;
  told = λ pei earlier. record { starts = W.starts_of pei (D.came catalog fuel (dxe_opening catalog pei.store pei.actions) earlier); turn = None };
}

-- PEI by them comes from its opening to this machine, over these, the last of them first
abbrev pub RunsInPei : Board → Catalog → ℕ → StartOrder → List PeiMachine → PeiMachine → Type 0
RunsInPei board catalog fuel order earlier m =
    P.IsRunBy (order_choices catalog fuel order).peims (order_choices catalog fuel order).lets_peim catalog fuel (pei_opening board catalog) earlier m

-- how far a boot is: its lines without the last ones, its store and handles, how many starts there were, and its result if it has ended
pub record Place : Type 0 where
  pub lines : List Line
  pub store : StoreState
  pub handles : HandleState
  pub starts : ℕ
  pub «end» : Option RunEnd

abbrev pub pei_place : PeiMachine → Option RunEnd → Place
pei_place m end = record { lines = m.lines; store = m.store; handles = no_handles; starts = pei_starts m; «end» = end }

abbrev pub dxe_place : PeiMachine → DxeMachine → Option RunEnd → Place
dxe_place pei m end = record { lines = pei.lines ++ m.lines; store = pei.store; handles = m.handles; starts = W.starts_of pei m; «end» = end }

-- in this machine of PEI, or of DXE, a module is to start that is not allowed
pub record BarsInPei (by : W.Choices) (catalog : Catalog) (m : PeiMachine) : Type 0 where
  pub number : ℕ
  pub due : P.IsDue by.peims catalog m number
  pub barred : by.lets_peim m number ≡ false

pub record BarsInDxe (by : W.Choices) (catalog : Catalog) (pei : PeiMachine) (earlier : List DxeMachine) (m : DxeMachine) : Type 0 where
  pub number : ℕ
  pub due : D.IsDue (by.drivers pei earlier) catalog m number
  pub barred : by.lets_driver pei earlier due.target number ≡ false

-- after this PEI the boot is there in DXE, which has ended so or is left
abbrev pub IsDxePlace : W.Choices → Catalog → PeiMachine → List DxeMachine → DxeMachine → Option DxeEnd → Place → Type 0
IsDxePlace by catalog pei earlier m None place = BarsInDxe by catalog pei earlier m × (place ≡ dxe_place pei m None)
IsDxePlace by catalog pei earlier m (Some how) place = place ≡ dxe_place pei m (Some (dxe_result how))

pub record StandsInDxe (by : W.Choices) (catalog : Catalog) (fuel : ℕ) (pei : PeiMachine) (place : Place) : Type 0 where
  pub m : DxeMachine
  pub comes : ComesInDxe by catalog fuel pei m
  pub stands : IsDxePlace by catalog pei comes.earlier m m.ended place

-- the boot is there with PEI, which has ended so or is left; after a hand-off it is in DXE
abbrev pub IsPeiPlace : W.Choices → Catalog → ℕ → PeiMachine → Option PeiEnd → Place → Type 0
IsPeiPlace by catalog fuel m None place = BarsInPei by catalog m × (place ≡ pei_place m None)
IsPeiPlace by catalog fuel m (Some Handoff) place = StandsInDxe by catalog fuel m place
IsPeiPlace by catalog fuel m (Some NoMemory) place = place ≡ pei_place m (Some E.NoMemory)
IsPeiPlace by catalog fuel m (Some NoIpl) place = place ≡ pei_place m (Some E.NoIpl)
IsPeiPlace by catalog fuel m (Some Spent) place = place ≡ pei_place m (Some E.Spent)
IsPeiPlace by catalog fuel m (Some Deep) place = place ≡ pei_place m (Some E.Deep)

-- the place to which the order leads
pub record LeadsTo (board : Board) (catalog : Catalog) (fuel : ℕ) (order : StartOrder) (place : Place) : Type 0 where
  pub earlier : List PeiMachine
  pub m : PeiMachine
  pub runs : RunsInPei board catalog fuel order earlier m
  pub stands : IsPeiPlace (order_choices catalog fuel order) catalog fuel m m.ended place

-- the last lines of a boot that has ended with a result; a boot that is left before a start has none
abbrev pub last_lines : StoreState → HandleState → Option RunEnd → List Line
last_lines s h None = []
last_lines s h (Some end) = closing s h end

-- the boot in the order was printed whole, and this is what the order makes of the place to which it leads
pub record BootsInOrder (board : Board) (catalog : Catalog) (fuel : ℕ) (order : StartOrder) (t : Texts) (followed : Followed) : Type 0 where
  pub place : Place
  pub leads : LeadsTo board catalog fuel order place
  pub text : Appends t.old t.new (text_of (place.lines ++ last_lines place.store place.handles place.«end»))
  pub comes : ComesTo catalog order place.starts place.store place.handles place.«end» followed
