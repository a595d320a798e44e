-- What the parts of a run leave, by their answers. A turn of the run is a step of the machine: what the core does by itself, a start, or the stop. A driver that is about to start is let, or the run is left there.
-- Own.
use Rattle.std.specs.Prelude.{◌≡◌, ◌⊎◌, ◌≤◌, ◌+◌, ℕ, Bool, true, false, length, sum_by, List, [], ◌∷◌, Option, Some, None, Result, Ok, Err, IfOk}
use Rattle.std.specs.Io.KnownBytes.{Appends}
use Rattle.boot_io.specs.{Sink.Puts, declared.halt.Halt.Halt, declared.sink.SinkFault.SinkFault}
use Rattle.pi_base.specs.declared.memory.OutOfMemory.{OutOfMemory}
use Rattle.mod_catalog.specs.declared.catalogue.Catalog.{Catalog}
use Rattle.store_model.specs.StoreState.{StoreState}
use Rattle.boot_model.specs.{declared.driver.Scheduled.Scheduled, declared.line.Line.Line, declared.phase_end.DxeEnd.DxeEnd}
use Rattle.boot_model.specs.declared.line.Line.TheVariants as L
use Rattle.boot_model.specs.{DxeChoice.discovered_order, DxeMachine.DxeMachine, EvaluationBound.dxe_asked, EvaluationBound.dxe_guids}
use Rattle.boot_model.specs.DxeStep.{DxeStarts, dxe_case_of, dxe_step, driver_waiting_lines}
use Rattle.boot_model.specs.{Licence.AllDiffer, Text.text_of}
use Rattle.boot_laws.specs.UnrequestedDrivers.{WaitForRequest}
use Rattle.dxe_dispatch.specs.Queue.{Queue, IsQueueOf, ComesNext}
use Rattle.dxe_core.specs.Standing.{DxeCore, IsCoreOf, IsFor, StandsFor}
use Rattle.dxe_core.specs.{Steps.IsEvent, Steps.IsIdle, Turn.Printed, Turn.PrintedPart}
use Rattle.boot_trace.specs.Printing.{Texts}
use Rattle.boot_laws.specs.declared.choice.Reached.TheVariants as R
use Rattle.dxe_dispatch.specs.{declared.answer.Step.Step, declared.answer.Step.TheVariants.Acted, declared.answer.Step.TheVariants.Started}
use Rattle.dxe_dispatch.specs.{declared.answer.Turn.Turn, declared.answer.Turn.TheVariants.Took, declared.answer.Turn.TheVariants.Reached}
use Rattle.dxe_dispatch.specs.Ends.{IsNow}

-- the core and the queue stand for a machine, whatever its store
pub record AreKeptFor (catalog : Catalog) (kept : DxeCore) (queued : Queue) (m : DxeMachine) : Type 0 where
  pub core : IsCoreOf catalog kept m
  pub queue : IsQueueOf catalog m queued

-- the driver that comes next, by the answer
abbrev pub Chooses : Catalog → DxeCore → Queue → Queue → Result (Option Scheduled) OutOfMemory → Type 0
Chooses catalog core queue later result =
    (m : DxeMachine) → AreKeptFor catalog core queue m → IfOk result (λ next. ComesNext catalog m next later)

-- the next step of the machine starts this driver
pub record IsStarting (catalog : Catalog) (m : DxeMachine) (number : ℕ) : Type 0 where
  pub next : Scheduled
  pub queue : List Scheduled
  pub starts : dxe_case_of catalog m ≡ DxeStarts next queue
  pub is : number ≡ next.module_number

-- a driver that it starts is let
abbrev pub PassesStart : (ℕ → Bool) → Catalog → DxeMachine → Type 0
PassesStart lets catalog m = (number : ℕ) → IsStarting catalog m number → lets number ≡ true

-- it starts none
abbrev pub StartsNone : Catalog → DxeMachine → Type 0
StartsNone catalog m = (number : ℕ) → IsStarting catalog m number → ⊥

-- what the step was: an event of the core, by itself, or the start of a driver
abbrev pub IsStep : Catalog → ℕ → DxeMachine → Step → Type 0
IsStep catalog fuel m (Acted event) = IsEvent catalog fuel m event × StartsNone catalog m
IsStep catalog fuel m (Started next) = (queue : List Scheduled) × (dxe_case_of catalog m ≡ DxeStarts next queue)

-- the machine goes on as the later one, for which all stands now, and its lines were put
pub record HasTurned (lets : ℕ → Bool) (Now : DxeMachine → Type 0) (catalog : Catalog) (m later : DxeMachine) (t : Texts) : Type 0 where
  pub passes : PassesStart lets catalog m
  pub printed : Printed m later t
  pub now : Now later

-- the later machine has ended, all stands for it as it was before it ended, and its lines were put; no driver started, the handles are as they were, and so is all but the lines
pub record HasTurnedToEnd (lets : ℕ → Bool) (Now : DxeMachine → Type 0) (catalog : Catalog) (m end : DxeMachine) (how : DxeEnd) (t : Texts) : Type 0 where
  pub passes : PassesStart lets catalog m
  pub none : StartsNone catalog m
  pub handles : end.handles ≡ m.handles
  pub still : end ≡ record m { lines = end.lines; ended = end.ended }
  pub ended : end.ended ≡ Some how
  pub printed : Printed m end t
  pub now : Now (record end { ended = None })

-- the machine is left before the start of a driver that is not let, and nothing was put
pub record IsHeldBack (lets : ℕ → Bool) (Left : DxeMachine → Type 0) (catalog : Catalog) (m : DxeMachine) (number : ℕ) (t : Texts) : Type 0 where
  pub starting : IsStarting catalog m number
  pub barred : lets number ≡ false
  pub text : Appends t.old t.new []
  pub left : Left m

-- nothing was put, or a part of the lines of a step in which a driver that starts is let
abbrev pub IsGivenUp : (ℕ → Bool) → Catalog → DxeMachine → DxeMachine → Texts → Type 0
IsGivenUp lets catalog m later t = Appends t.old t.new [] ⊎ (PassesStart lets catalog m × PrintedPart m later t)

-- a turn from a machine, by its answer: what stands for the machine behind its step now, and what for the machine itself where the run is left
abbrev pub TurnsDxeTo : (ℕ → Bool) → (DxeMachine → Type 0) → (DxeMachine → Type 0) → Catalog → ℕ → DxeMachine → Texts → Result Turn Halt → Type 0
TurnsDxeTo lets Now Left catalog fuel m t (Ok (Took step)) = HasTurned lets Now catalog m (dxe_step catalog fuel m) t × IsStep catalog fuel m step
TurnsDxeTo lets Now Left catalog fuel m t (Ok (Reached (R.End how))) = HasTurnedToEnd lets Now catalog m (dxe_step catalog fuel m) how t
TurnsDxeTo lets Now Left catalog fuel m t (Ok (Reached (R.Barred number))) = IsHeldBack lets Left catalog m number t
TurnsDxeTo lets Now Left catalog fuel m t (Err halt) = IsGivenUp lets catalog m (dxe_step catalog fuel m) t

-- the core stands for the machine, and one driver more has left the queue: that which did not start
pub record AreLeft (catalog : Catalog) (kept : DxeCore) (queued : Queue) (m : DxeMachine) : Type 0 where
  pub core : IsCoreOf catalog kept m
  pub left : queued.left ≡ length m.started + 1

-- the same of the core beside its store
pub record IsLeft {M : Type 0} (stands : M → StoreState → Type 0) (beside : M) (catalog : Catalog)
    (core : DxeCore) (kept : Queue) (m : DxeMachine) : Type 0 where
  pub machine : StandsFor stands beside catalog core m
  pub left : kept.left ≡ length m.started + 1

-- the machine for which the core and the queue stand now; in it drivers wait for their request, and behind its next step no driver was discovered twice
pub record IsAtTurn {M : Type 0} (stands : M → StoreState → Type 0) (beside : M) (catalog : Catalog) (most : ℕ)
    (core : DxeCore) (kept : Queue) (m : DxeMachine) : Type 0 where
  pub now : IsNow stands beside catalog core kept m
  pub waits : WaitForRequest catalog m
  pub once : AllDiffer (discovered_order catalog (dxe_step catalog most m))

-- a call that takes a turn: the core, the queue and the sink's text before it, and behind it
pub record TurnCall : Type 0 where
  pub core : DxeCore
  pub queue : Queue
  pub later : DxeCore
  pub grown : Queue
  pub old : Option (List ℕ)
  pub new : Option (List ℕ)

-- a turn from each machine for which the core and the queue stand, and in which drivers wait for their request: a step of it, if a driver that starts is let
abbrev pub TurnsDxe : {M : Type 0} → (ℕ → Bool) → (M → StoreState → Type 0) → M → Catalog → TurnCall → Result Turn Halt → Type 0
TurnsDxe lets stands store catalog call result =
    (m : DxeMachine) (fuel : ℕ) → IsFor catalog fuel call.core → IsAtTurn stands store catalog fuel call.core call.queue m
    → TurnsDxeTo lets (IsNow stands store catalog call.later call.grown) (IsLeft stands store catalog call.later call.grown) catalog fuel m
    (record { old = call.old; new = call.new }) result

-- the same from each one that is idle, whatever the store
abbrev pub TurnsIdleDxe : (ℕ → Bool) → Catalog → TurnCall → Result Turn Halt → Type 0
TurnsIdleDxe lets catalog call result =
    (m : DxeMachine) (fuel : ℕ) → AreKeptFor catalog call.core call.queue m → IsIdle m
    → TurnsDxeTo lets (AreKeptFor catalog call.later call.grown) (AreLeft catalog call.later call.grown) catalog fuel m
    (record { old = call.old; new = call.new }) result

-- no more expressions were evaluated, or have to be, than had to be, those of the drivers that the step discovered, and those that the bound lets for its protocols
abbrev pub EvaluatesWithin : Catalog → ℕ → DxeMachine → ℕ → ℕ → Type 0
EvaluatesWithin catalog fuel m before now =
    now + length (discovered_order catalog m) ≤ before + (length (discovered_order catalog (dxe_step catalog fuel m)) + sum_by (dxe_asked catalog m) (dxe_guids catalog fuel m))

-- behind a turn from each machine for which the core and the queue stand
abbrev pub OwesBehind : {M : Type 0} → (M → StoreState → Type 0) → M → Catalog → DxeCore → Queue → ℕ → ℕ → Type 0
OwesBehind stands store catalog core queue before now =
    (m : DxeMachine) (fuel : ℕ) → IsFor catalog fuel core → IsAtTurn stands store catalog fuel core queue m → EvaluatesWithin catalog fuel m before now

-- the lines of the stop
abbrev pub stop_lines : Catalog → DxeMachine → List Line
stop_lines catalog m = L.DxeStop ∷ driver_waiting_lines catalog m

-- as they are put
abbrev pub PutsStop : Catalog → DxeCore → Queue → Option (List ℕ) → Option (List ℕ) → Result (Unit {0}) SinkFault → Type 0
PutsStop catalog core queue old new result =
    (m : DxeMachine) → AreKeptFor catalog core queue m → Puts result old new (text_of (stop_lines catalog m))
