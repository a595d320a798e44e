-- The boot in the order of EDK2's dispatchers: the module whose turn it is starts, and no other. It ends where it is nobody's turn any more, or where fuel or room is wanting; it is left where the driver whose turn it is may not start.
-- Own; PI 1.8, volumes 1 and 2, leave the order of the modules that may start to the dispatchers.
use Rattle.std.specs.Prelude.{◌≡◌, ◌⊎◌, ℕ, Bool, true, false, List, [], ◌++◌, Option, Some, None, Result, Ok, Err, ⊤, is_some, option_map}
use Rattle.std.specs.Io.KnownBytes.{Appends}
use Rattle.boot_plan.specs.declared.plan.Plan.{Plan}
use Rattle.boot_trace.specs.Printing.{Texts}
use Rattle.pi_base.specs.{declared.guid.Guid.Guid, declared.phase.Phase.TheVariants.Dxe}
use Rattle.mod_catalog.specs.{declared.catalogue.Catalog.Catalog, declared.catalogue.Part.Part, Catalogue.IsCatalogue, Parts.part_at}
use Rattle.mod_catalog.specs.ImageFault.{IsImageFault}
use Rattle.store_model.specs.{HandleState.HandleState, StoreState.Board, StoreState.StoreState}
use Rattle.boot_model.specs.{declared.line.RunEnd.RunEnd, declared.phase_end.PeiEnd.TheVariants.Handoff, DxeChoice.is_that}
use Rattle.boot_model.specs.declared.line.RunEnd.TheVariants as E
use Rattle.boot_model.specs.{DxeMachine.DxeMachine, DxeRun.dxe_opening, FreeRun.AreFreeLines, PeiMachine.PeiMachine, PeiRun.pei_opening}
use Rattle.boot_model.specs.{PlanBoard.board_of, Text.text_of}
use Rattle.boot_laws.specs.Naming.{Rules}
use Rattle.pei_dispatch.specs.{Choices.ComesTo, InTurn.in_turn}
use Rattle.dxe_dispatch.specs.{Choices.IsDue, Choices.came, Passes.queued, Passes.turn_in}
use Rattle.boot_core.specs.{declared.whole.boot.Booted.Booted, Choices.Choices, Choices.starts_of}
use Rattle.boot_core.specs.declared.whole.boot.Booted.TheVariants as B
use Rattle.boot_core.specs.ByChoice.{BootBy, ComesInDxe, all_lines, before_by, ending_of}
use Rattle.recorded_boot.specs.{declared.passes.Passed.Passed, declared.passes.Turn.Turn}
use Rattle.recorded_boot.specs.{Starts.module_start, declared.passes.Passed.TheVariants.Ended, declared.passes.Passed.TheVariants.No}
use Rattle.recorded_boot.specs.declared.follow.images.FollowFault.{FollowFault}
use Rattle.recorded_boot.specs.declared.follow.images.FollowFault.TheVariants.{Image, Twins, Sink, Memory}
use Rattle.recorded_boot.specs.Against.{is_installed, lacking, pushed_in}

-- the rules of the choice: whose turn it is starts, and no other
abbrev pub turn_rules : {S : Type 0} → Rules S
turn_rules = record {
  peims = λ sink before named. named ≡ before.turn;
  lets_in_pei = λ before number. is_that number before.turn;
  drivers = λ sink before named. named ≡ before.turn;
  lets_in_dxe = λ before number. is_that number before.turn;
  wants_turn = true;
}

-- whose turn it is in DXE, from its opening on, behind steps from these machines
abbrev pub turn_from : Catalog → ℕ → DxeMachine → List DxeMachine → Option ℕ
turn_from catalog fuel opening earlier = turn_in catalog (came catalog fuel opening earlier) (queued catalog fuel opening earlier)

abbrev pub turn_behind : Catalog → ℕ → PeiMachine → List DxeMachine → Option ℕ
turn_behind catalog fuel pei earlier = turn_from catalog fuel (dxe_opening catalog pei.store pei.actions) earlier

-- the choices in that order
abbrev pub pass_choices : Catalog → ℕ → Choices
pass_choices catalog fuel = record {
  peims = λ m named. named ≡ in_turn catalog m;
  lets_peim = λ m number. is_that number (in_turn catalog m);
  drivers = λ pei earlier m named. named ≡ turn_behind catalog fuel pei earlier;
  lets_driver = λ pei earlier m number. is_that number (turn_behind catalog fuel pei earlier);
  told = λ pei earlier. record { starts = starts_of pei (came catalog fuel (dxe_opening catalog pei.store pei.actions) earlier); turn = turn_behind catalog fuel pei earlier };
}

-- the GUIDs that the expression of a driver pushes and that are not installed
abbrev pub lacks_of : StoreState → HandleState → Option Part → List Guid
lacks_of s h None = []
lacks_of s h (Some part) = lacking (is_installed Dxe s h) (pushed_in part.expr)

abbrev pub lacks_in : Catalog → StoreState → HandleState → Option ℕ → List Guid
lacks_in catalog s h None = []
lacks_in catalog s h (Some number) = lacks_of s h (part_at Dxe catalog number)

-- it is the turn of this driver, if it is anybody's, which lacks these
pub record IsTurnOf (catalog : Catalog) (s : StoreState) (h : HandleState) (number : Option ℕ) (turn : Turn) : Type 0 where
  pub start_is : turn.start ≡ option_map (module_start Dxe catalog) number
  pub lacks_are : turn.lacks ≡ lacks_in catalog s h number

-- the boot has come to its end with this result, and all its lines were put
pub record HasEnded (board : Board) (catalog : Catalog) (fuel : ℕ) (t : Texts) : Type 0 where
  pub boot : BootBy (pass_choices catalog fuel) board catalog fuel
  pub text : Appends t.old t.new (text_of (all_lines boot))
  pub free : AreFreeLines board catalog fuel (all_lines boot)

-- whose turn it is at the end
abbrev pub turn_at_end : {board : Board} {catalog : Catalog} {fuel : ℕ} → BootBy (pass_choices catalog fuel) board catalog fuel → Option ℕ
turn_at_end boot = (before_by (ending_of boot) boot.how boot.ends).turn

-- a boot that ended so, with this module's turn left, has ended short: no fuel and no room was wanting
abbrev pub is_short : RunEnd → Option ℕ → Bool
is_short E.Done turn = is_some turn
is_short E.NoMemory turn = false
is_short E.NoIpl turn = false
is_short E.Spent turn = false
is_short E.Deep turn = false

-- it has ended where it was still somebody's turn
pub record HasEndedShort (board : Board) (catalog : Catalog) (fuel : ℕ) (t : Texts) (turn : Turn) : Type 0 where
  pub ended : HasEnded board catalog fuel t
  pub short : is_short ended.boot.result (turn_at_end ended.boot) ≡ true
  pub is : IsTurnOf catalog ended.boot.pei.store ended.boot.handles (turn_at_end ended.boot) turn

-- or it was left in DXE, where another driver would start
pub record IsLeft (board : Board) (catalog : Catalog) (fuel : ℕ) (t : Texts) (turn : Turn) : Type 0 where
  pub pei : PeiMachine
  pub comes : ComesTo (pass_choices catalog fuel).peims (pass_choices catalog fuel).lets_peim catalog fuel (pei_opening board catalog) pei
  pub handed : pei.ended ≡ Some Handoff
  pub dxe : DxeMachine
  pub behind : ComesInDxe (pass_choices catalog fuel) catalog fuel pei dxe
  pub running : dxe.ended ≡ None
  pub number : ℕ
  pub due : IsDue ((pass_choices catalog fuel).drivers pei behind.earlier) catalog dxe number
  pub other : is_that number (turn_behind catalog fuel pei behind.earlier) ≡ false
  pub text : Appends t.old t.new (text_of (pei.lines ++ dxe.lines))
  pub is : IsTurnOf catalog pei.store dxe.handles (turn_behind catalog fuel pei behind.earlier) turn

-- what the boot in that order came to
abbrev pub PassesTo : Board → Catalog → ℕ → Texts → Passed → Type 0
PassesTo board catalog fuel t (Ended end) = (ended : HasEnded board catalog fuel t) × (ended.boot.result ≡ end) × (is_short ended.boot.result (turn_at_end ended.boot) ≡ false)
PassesTo board catalog fuel t (No turn) = HasEndedShort board catalog fuel t turn ⊎ IsLeft board catalog fuel t turn

-- by what the boot has come to, over the state of its store
abbrev pub LeavesBoot : {M : Type 0} → Catalog → StoreState → Booted M → Passed → Type 0
LeavesBoot catalog s (B.Ended ran) (Ended end) = (is_short ran.«end» ran.before.turn ≡ false) × (ran.«end» ≡ end)
LeavesBoot catalog s (B.Ended ran) (No turn) = (is_short ran.«end» ran.before.turn ≡ true) × IsTurnOf catalog s ran.handles ran.before.turn turn
LeavesBoot catalog s (B.BarredInPei barred) passed = ⊥
LeavesBoot catalog s (B.BarredInDxe pei barred) (Ended end) = ⊥
LeavesBoot catalog s (B.BarredInDxe pei barred) (No turn) = IsTurnOf catalog s barred.handles barred.before.turn turn

-- it was not left in PEI
abbrev pub IsNotLeftInPei : {M : Type 0} → Booted M → Type 0
IsNotLeftInPei (B.Ended ran) = ⊤
IsNotLeftInPei (B.BarredInPei barred) = ⊥
IsNotLeftInPei (B.BarredInDxe pei barred) = ⊤

-- over a catalogue: a boot in that order, or the sink failed, or memory ran out
abbrev pub PassesOver : Board → Catalog → ℕ → Texts → Result Passed FollowFault → Type 0
PassesOver board catalog fuel t (Ok passed) = PassesTo board catalog fuel t passed
PassesOver board catalog fuel t (Err (Image fault)) = ⊥
PassesOver board catalog fuel t (Err (Twins volume)) = ⊥
PassesOver board catalog fuel t (Err Sink) = ⊤
PassesOver board catalog fuel t (Err Memory) = ⊤

-- the boot of a plan and its images in that order
pub record IsPassed (plan : Plan) (images : List (List ℕ)) (t : Texts) (passed : Passed) : Type 0 where
  pub catalog : Catalog
  pub sound : IsCatalogue plan images catalog
  pub is : PassesTo (board_of plan catalog images) catalog plan.fuel t passed

abbrev pub Passes : Plan → List (List ℕ) → Texts → Result Passed FollowFault → Type 0
Passes plan images t (Ok passed) = IsPassed plan images t passed
Passes plan images t (Err (Image fault)) = IsImageFault plan images fault × Appends t.old t.new []
Passes plan images t (Err (Twins volume)) = ⊥
Passes plan images t (Err Sink) = ⊤
Passes plan images t (Err Memory) = ⊤
