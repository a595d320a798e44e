-- What a step of the core answers and leaves, and what a start does.
-- Own.
use Rattle.std.specs.Prelude.{◌≡◌, ℕ, Bool, true, [], Some, None, Result, Ok, Err, length, ◌+◌, ⊤, option_and_then}
use Rattle.std.specs.Io.KnownBytes.{Appends}
use Rattle.boot_io.specs.{declared.halt.Halt.Halt, declared.sink.SinkFault.SinkFault}
use Rattle.boot_io.specs.declared.halt.Halt.TheVariants as H
use Rattle.pi_base.specs.declared.phase.Phase.TheVariants as Phase
use Rattle.mod_catalog.specs.{declared.catalogue.Catalog.Catalog, declared.catalogue.Part.Part, Parts.part_at}
use Rattle.store_model.specs.{StoreState.StoreState, Migration.migration, Service.Queue.queue_pop, Service.Sweep.next_match}
use Rattle.boot_model.specs.{declared.licence.Licence.Licence, declared.phase_end.PeiEnd.PeiEnd, Eligible.licence_at}
use Rattle.boot_model.specs.declared.phase_end.PeiEnd.TheVariants as E
use Rattle.boot_model.specs.{EventGuids.pei_placed, EventGuids.pei_taken, PeiMachine.PeiMachine}
use Rattle.boot_model.specs.PeiStep.{open_sweep, pei_step, started}
use Rattle.pei_core.specs.{declared.event.Event.Event, declared.event.Stepped.Stepped, SecondStarts.IsAgain}
use Rattle.pei_core.specs.declared.event.Stepped.TheVariants.{Went, Idle, Ended}
use Rattle.pei_core.specs.Standing.{IsFor, StandsFor}
use Rattle.pei_core.specs.CoreCall.{CoreCall, Printed, PrintedPart}
use Rattle.boot_trace.specs.Printing.{Texts}

-- no script runs, no pair of the open sweep fires, no move is due and no pair is queued: only a start or the end is left
pub record IsIdle (m : PeiMachine) : Type 0 where
  pub fires : option_and_then (next_match m.store) (open_sweep m m.frames) ≡ None
  pub frames : m.frames ≡ []
  pub moves : migration m.store ≡ None
  pub pops : queue_pop m.store ≡ None

-- what the event from a machine did: the GUIDs that it added, the one that it removed, the parts that it allows to start again, and how many volumes it
-- reported
pub record IsEvent (catalog : Catalog) (fuel : ℕ) (m : PeiMachine) (event : Event) : Type 0 where
  pub there : event.changes.there.items ≡ pei_placed catalog fuel m
  pub gone : event.changes.gone ≡ pei_taken catalog fuel m
  pub again : IsAgain m (pei_step catalog fuel m) event.again
  pub volumes : length (pei_step catalog fuel m).reported ≡ length m.reported + event.volumes

-- the machine is the later one now, and its lines were written
pub record HasStepped (Stands : PeiMachine → Type 0) (m later : PeiMachine) (t : Texts) : Type 0 where
  pub printed : Printed m later t
  pub machine : Stands later

-- the machine is as it was, and nothing was written
pub record HasStayed (Stands : PeiMachine → Type 0) (m : PeiMachine) (t : Texts) : Type 0 where
  pub text : Appends t.old t.new []
  pub machine : Stands m

-- the ends that come before an action or a notification
abbrev pub IsCut : PeiEnd → Type 0
IsCut E.Handoff = ⊥
IsCut E.NoMemory = ⊥
IsCut E.NoIpl = ⊥
IsCut E.Spent = ⊤
IsCut E.Deep = ⊤

-- the machine ends so from here, and is as it was
pub record HasEnded (Stands : PeiMachine → Type 0) (catalog : Catalog) (fuel : ℕ) (m : PeiMachine) (end : PeiEnd) (t : Texts) : Type 0 where
  pub cut : IsCut end
  pub ended : pei_step catalog fuel m ≡ record m { ended = Some end }
  pub stayed : HasStayed Stands m t

-- a step from a machine, by its answer; memory runs out only when the store takes it
abbrev pub StepsTo : Bool → (PeiMachine → Type 0) → Catalog → ℕ → PeiMachine → Texts → Result Stepped Halt → Type 0
StepsTo memory Stands catalog fuel m t (Ok (Went event)) = (IsIdle m → ⊥) × IsEvent catalog fuel m event × HasStepped Stands m (pei_step catalog fuel m) t
StepsTo memory Stands catalog fuel m t (Ok Idle) = IsIdle m × HasStayed Stands m t
StepsTo memory Stands catalog fuel m t (Ok (Ended end)) = HasEnded Stands catalog fuel m end t
StepsTo memory Stands catalog fuel m t (Err H.Sink) = (IsIdle m → ⊥) × PrintedPart m (pei_step catalog fuel m) t
StepsTo memory Stands catalog fuel m t (Err H.Memory) = (memory ≡ true) × PrintedPart m (pei_step catalog fuel m) t

-- a step from each machine that the core over its store stands for
abbrev pub Steps : {M : Type 0} → Bool → (M → StoreState → Type 0) → Catalog → CoreCall M → Result Stepped Halt → Type 0
Steps memory stands catalog call result =
    (m : PeiMachine) (fuel : ℕ) → IsFor catalog fuel call.pei → StandsFor stands call.pei m
    → StepsTo memory (StandsFor stands call.later) catalog fuel m call.texts result

-- the start of a module, by its answer
abbrev pub StartedTo : (PeiMachine → Type 0) → PeiMachine → PeiMachine → Texts → Result (Unit {0}) SinkFault → Type 0
StartedTo Stands m later t (Ok _) = HasStepped Stands m later t
StartedTo Stands m later t (Err _) = PrintedPart m later t

-- the licence is that of the module's start from here
abbrev pub IsLicenceAt : Catalog → PeiMachine → ℕ → Licence → Type 0
IsLicenceAt catalog m number licence = (part : Part) → part_at Phase.Pei catalog number ≡ Some part → licence ≡ licence_at m number part

-- a start from each machine that the core over its store stands for and in which the licence is the module's
abbrev pub StartsModule : {M : Type 0} → (M → StoreState → Type 0) → Catalog → ℕ → Licence → CoreCall M → Result (Unit {0}) SinkFault → Type 0
StartsModule stands catalog number licence call result =
    (m : PeiMachine) → StandsFor stands call.pei m → IsLicenceAt catalog m number licence
    → StartedTo (StandsFor stands call.later) m (started catalog m number) call.texts result
