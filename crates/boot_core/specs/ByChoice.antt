-- A boot by choices: a run of PEI by them from its opening; behind a hand-off a run of DXE by them from its opening; and the last lines. It is left before the start of a module that they do not let.
-- Own; PI 1.8, volumes 1 and 2, leave the order of the modules that may start to the dispatchers.
use Rattle.std.specs.Prelude.{◌≡◌, ◌⊎◌, ℕ, Bool, false, List, [], ◌++◌, Option, Some, None, Result, Ok, Err}
use Rattle.std.specs.Io.KnownBytes.{Appends}
use Rattle.boot_io.specs.{declared.halt.Halt.Halt, Sink.AppendsPart}
use Rattle.boot_io.specs.declared.halt.Halt.TheVariants as H
use Rattle.mod_catalog.specs.declared.catalogue.Catalog.{Catalog}
use Rattle.store_model.specs.{HandleState.HandleState, HandleState.no_handles, StoreState.Board, StoreState.StoreState}
use Rattle.boot_model.specs.{declared.line.Line.Line, declared.line.RunEnd.RunEnd, declared.phase_end.DxeEnd.DxeEnd}
use Rattle.boot_model.specs.declared.line.RunEnd.TheVariants as E
use Rattle.boot_model.specs.{declared.phase_end.PeiEnd.PeiEnd, BootRun.dxe_result, DxeMachine.DxeMachine, DxeRun.dxe_opening}
use Rattle.boot_model.specs.declared.phase_end.PeiEnd.TheVariants.{Handoff, NoMemory, NoIpl, Spent, Deep}
use Rattle.boot_model.specs.{PeiMachine.PeiMachine, PeiRun.pei_opening, Text.text_of}
use Rattle.boot_laws.specs.{declared.choice.Before.Before, Naming.HasPut}
use Rattle.pei_dispatch.specs.{declared.boot.Ended.Ended, Ends.IsLeft, Ends.pei_starts}
use Rattle.pei_dispatch.specs.Choices.{ComesTo, IsHeldBack, StopsForMemory, StopsShort}
use Rattle.dxe_dispatch.specs.declared.boot.Barred.{Barred}
use Rattle.dxe_dispatch.specs.Choices as D
use Rattle.boot_core.specs.{declared.whole.boot.Booted.Booted, declared.whole.boot.Ran.Ran, Closing.closing, Choices.Choices}
use Rattle.boot_core.specs.declared.whole.boot.Booted.TheVariants as B

-- behind this machine of PEI, DXE by choices has come to that one
pub record ComesInDxe (by : Choices) (catalog : Catalog) (fuel : ℕ) (pei : PeiMachine) (m : DxeMachine) : Type 0 where
  pub earlier : List DxeMachine
  pub run : D.IsRunBy (by.drivers pei) (by.lets_driver pei) catalog fuel (dxe_opening catalog pei.store pei.actions) earlier
  pub is : m ≡ D.came catalog fuel (dxe_opening catalog pei.store pei.actions) earlier

-- DXE has ended: the lines so far, the handles, and the result
pub record EndsInDxe (by : Choices) (catalog : Catalog) (fuel : ℕ)
    (pei : PeiMachine) (lines : List Line) (handles : HandleState) (end : RunEnd) : Type 0 where
  pub dxe : DxeMachine
  pub comes : ComesInDxe by catalog fuel pei dxe
  pub how : DxeEnd
  pub ended : dxe.ended ≡ Some how
  pub lines_are : lines ≡ pei.lines ++ dxe.lines
  pub handles_are : handles ≡ dxe.handles
  pub end_is : end ≡ dxe_result how

-- the boot ends with PEI, without a handle
pub record EndsInPei (so : RunEnd) (pei : PeiMachine) (lines : List Line) (handles : HandleState) (end : RunEnd) : Type 0 where
  pub lines_are : lines ≡ pei.lines
  pub handles_are : handles ≡ no_handles
  pub end_is : end ≡ so

-- all lines of a boot but the last ones, its handles and its result, behind a PEI that has ended so
abbrev pub EndsAfter : Choices → Catalog → ℕ → PeiMachine → PeiEnd → List Line → HandleState → RunEnd → Type 0
EndsAfter by catalog fuel pei Handoff lines handles end = EndsInDxe by catalog fuel pei lines handles end
EndsAfter by catalog fuel pei NoMemory lines handles end = EndsInPei E.NoMemory pei lines handles end
EndsAfter by catalog fuel pei NoIpl lines handles end = EndsInPei E.NoIpl pei lines handles end
EndsAfter by catalog fuel pei Spent lines handles end = EndsInPei E.Spent pei lines handles end
EndsAfter by catalog fuel pei Deep lines handles end = EndsInPei E.Deep pei lines handles end

-- such an end behind this machine of PEI
pub record Ending : Type 1 where
  pub by : Choices
  pub catalog : Catalog
  pub fuel : ℕ
  pub pei : PeiMachine
  pub lines : List Line
  pub handles : HandleState
  pub result : RunEnd

abbrev pub IsEnding : Ending → PeiEnd → Type 0
IsEnding e how = EndsAfter e.by e.catalog e.fuel e.pei how e.lines e.handles e.result

-- what the choice would be told behind PEI: how many starts there were, and that it is nobody's turn
abbrev pub told_at_end : PeiMachine → Before
told_at_end pei = record { starts = pei_starts pei; turn = None }

-- and what it would be told at the end
abbrev pub before_by : (e : Ending) (how : PeiEnd) → IsEnding e how → Before
before_by e Handoff ends = e.by.told e.pei ends.comes.earlier
before_by e NoMemory ends = told_at_end e.pei
before_by e NoIpl ends = told_at_end e.pei
before_by e Spent ends = told_at_end e.pei
before_by e Deep ends = told_at_end e.pei

-- a boot by choices, up to its last lines
pub record BootBy (by : Choices) (board : Board) (catalog : Catalog) (fuel : ℕ) : Type 0 where
  pub pei : PeiMachine
  pub comes : ComesTo by.peims by.lets_peim catalog fuel (pei_opening board catalog) pei
  pub how : PeiEnd
  pub ended : pei.ended ≡ Some how
  pub lines : List Line
  pub handles : HandleState
  pub result : RunEnd
  pub ends : EndsAfter by catalog fuel pei how lines handles result

-- its end
abbrev pub ending_of : {by : Choices} {board : Board} {catalog : Catalog} {fuel : ℕ} → BootBy by board catalog fuel → Ending
ending_of {by = by} {catalog = catalog} {fuel = fuel} boot =
    record { by = by; catalog = catalog; fuel = fuel; pei = boot.pei; lines = boot.lines; handles = boot.handles; result = boot.result }

-- its last lines, and all of them
abbrev pub last_lines : {by : Choices} {board : Board} {catalog : Catalog} {fuel : ℕ} → BootBy by board catalog fuel → List Line
last_lines boot = closing boot.pei.store boot.handles boot.result

abbrev pub all_lines : {by : Choices} {board : Board} {catalog : Catalog} {fuel : ℕ} → BootBy by board catalog fuel → List Line
all_lines boot = boot.lines ++ last_lines boot

-- these lines were put without a failure, and then a part of those
pub record PutsPartBehind {S : Type 0} (text : S → Option (List ℕ)) (faults : S → ℕ) (first shown : S) (lines next : List Line) : Type 0 where
  pub sink : S
  pub has : HasPut text faults first lines sink
  pub part : AppendsPart (text sink) (text shown) (text_of next)

-- what follows PEI was given up: in DXE behind all lines of PEI, or in the last lines behind all others
pub data StopsBehind {S : Type 0} (by : Choices) (text : S → Option (List ℕ)) (faults : S → ℕ)
    (catalog : Catalog) (fuel : ℕ) (pei : PeiMachine) (how : PeiEnd) (first shown : S) : Type 0 where
  stops_in_dxe : (m : DxeMachine) → how ≡ Handoff → ComesInDxe by catalog fuel pei m
      → PutsPartBehind text faults first shown pei.lines m.lines → StopsBehind by text faults catalog fuel pei how first shown
  stops_at_last : (lines : List Line) (handles : HandleState) (result : RunEnd) → EndsAfter by catalog fuel pei how lines handles result
      → PutsPartBehind text faults first shown lines (closing pei.store handles result) → StopsBehind by text faults catalog fuel pei how first shown

-- the boot was given up behind the end of its PEI
pub record StopsBehindPei {S : Type 0} (by : Choices) (text : S → Option (List ℕ)) (faults : S → ℕ)
    (board : Board) (catalog : Catalog) (fuel : ℕ) (first shown : S) : Type 0 where
  pub pei : PeiMachine
  pub comes : ComesTo by.peims by.lets_peim catalog fuel (pei_opening board catalog) pei
  pub how : PeiEnd
  pub ended : pei.ended ≡ Some how
  pub stops : StopsBehind by text faults catalog fuel pei how first shown

-- memory was wanting in PEI: where the store takes none, before anything was put
pub record WantsInPei (by : Choices) (takes : Bool) (board : Board) (catalog : Catalog) (fuel : ℕ)
    (old new : Option (List ℕ)) : Type 0 where
  pub stops : StopsForMemory by.peims by.lets_peim catalog fuel (pei_opening board catalog) old new
  pub before : takes ≡ false → Appends old new []

-- the boot has come to its end, and all its lines were put
pub record HasRun {M : Type 0} (by : Choices) (stands : M → StoreState → Type 0) (board : Board) (catalog : Catalog) (fuel : ℕ)
    (ran : Ran M) (old new : Option (List ℕ)) : Type 0 where
  pub boot : BootBy by board catalog fuel
  pub how_is : ran.pei.«end» ≡ boot.how
  pub end_is : ran.«end» ≡ boot.result
  pub left : IsLeft stands catalog boot.pei ran.pei
  pub handles_are : ran.handles ≡ boot.handles
  pub before_is : ran.before ≡ before_by (ending_of boot) boot.how boot.ends
  pub text : Appends old new (text_of (all_lines boot))

-- DXE behind this machine of PEI was left before the start of a driver that is not let, and all lines of both phases were put
pub record BarsInDxe (by : Choices) (catalog : Catalog) (fuel : ℕ) (pei : PeiMachine) (barred : Barred) (old new : Option (List ℕ)) : Type 0 where
  pub dxe : DxeMachine
  pub comes : ComesInDxe by catalog fuel pei dxe
  pub running : dxe.ended ≡ None
  pub due : D.IsDue (by.drivers pei comes.earlier) catalog dxe barred.number
  pub bars : by.lets_driver pei comes.earlier due.target barred.number ≡ false
  pub text : Appends old new (text_of (pei.lines ++ dxe.lines))
  pub handles_are : barred.handles ≡ dxe.handles
  pub before_is : barred.before ≡ by.told pei comes.earlier

-- the boot was left there, behind a PEI that handed off
pub record IsBarredInDxe {M : Type 0} (by : Choices) (stands : M → StoreState → Type 0) (board : Board) (catalog : Catalog) (fuel : ℕ)
    (left : Ended M) (barred : Barred) (old new : Option (List ℕ)) : Type 0 where
  pub pei : PeiMachine
  pub comes : ComesTo by.peims by.lets_peim catalog fuel (pei_opening board catalog) pei
  pub ended : pei.ended ≡ Some Handoff
  pub how_is : left.«end» ≡ Handoff
  pub left_is : IsLeft stands catalog pei left
  pub bars : BarsInDxe by catalog fuel pei barred old new

-- what a boot by choices came to
abbrev pub HasCome : {M : Type 0} → Choices → (M → StoreState → Type 0) → Board → Catalog → ℕ
    → Option (List ℕ) → Option (List ℕ) → Booted M → Type 0
HasCome by stands board catalog fuel old new (B.Ended ran) = HasRun by stands board catalog fuel ran old new
HasCome by stands board catalog fuel old new (B.BarredInPei barred) =
    IsHeldBack by.peims by.lets_peim stands catalog fuel (pei_opening board catalog) barred old new
HasCome by stands board catalog fuel old new (B.BarredInDxe left barred) = IsBarredInDxe by stands board catalog fuel left barred old new

-- a boot by choices, by its answer
abbrev pub BootsTo : {M S : Type 0} → Choices → (S → Option (List ℕ)) → (S → ℕ) → (M → StoreState → Type 0) → Bool
    → Board → Catalog → ℕ → S → S → Result (Booted M) Halt → Type 0
BootsTo by text faults stands takes board catalog fuel sink shown (Ok booted) =
    HasCome by stands board catalog fuel (text sink) (text shown) booted
BootsTo by text faults stands takes board catalog fuel sink shown (Err H.Sink) =
    StopsShort by.peims by.lets_peim catalog fuel (pei_opening board catalog) (text sink) (text shown)
    ⊎ StopsBehindPei by text faults board catalog fuel sink shown
BootsTo by text faults stands takes board catalog fuel sink shown (Err H.Memory) =
    WantsInPei by takes board catalog fuel (text sink) (text shown)
    ⊎ StopsBehindPei by text faults board catalog fuel sink shown
