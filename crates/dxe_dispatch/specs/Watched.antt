-- What is known of a run of DXE by who watches it.
-- Own.
use Rattle.std.specs.Prelude.{◌≡◌, ℕ, Bool, List, ◌∷◌, Option, Some, None, Result, Ok, Err, ⊤}
use Rattle.boot_io.specs.declared.halt.Halt.{Halt}
use Rattle.mod_catalog.specs.declared.catalogue.Catalog.{Catalog}
use Rattle.store_model.specs.StoreState.{StoreState}
use Rattle.boot_model.specs.{declared.phase_end.DxeEnd.DxeEnd, DxeMachine.DxeMachine, DxeRun.dxe_opening, DxeStep.dxe_step}
use Rattle.boot_laws.specs.{declared.choice.Before.Before, declared.choice.Reached.Reached}
use Rattle.boot_laws.specs.declared.choice.Reached.TheVariants as R
use Rattle.dxe_core.specs.Standing.{DxeCore, IsFor, StandsFor}
use Rattle.dxe_dispatch.specs.{Queue.Queue, declared.answer.Step.Step, declared.boot.Left.Left, declared.boot.Run.Run, Ends.StandsAtEnd}
use Rattle.dxe_dispatch.specs.declared.boot.Left.TheVariants as V
use Rattle.dxe_dispatch.specs.Turns.{IsLeft, IsStarting, IsStep, StartsNone}
use Rattle.dxe_dispatch.specs.Choices.{BootsBy, DriverChoice, DxeBoot, LetsDrivers, NamesDrivers, RunsBy, StopsShort, aimed_at, came, told_last}
use Rattle.dxe_dispatch.specs.{declared.passes.Agenda.Agenda, PassList.turn_kept, Passes.told_in_dxe}

-- a turn was taken in a machine that runs: from the target, which is this machine with the group scheduled of a driver that was named, or as it was
pub record WasAimed (catalog : Catalog) (m target : DxeMachine) : Type 0 where
  pub running : m.ended ≡ None
  pub named : Option ℕ
  pub is : target ≡ aimed_at catalog m named

-- what a step was, whoever chose
pub record WasStep (catalog : Catalog) (fuel : ℕ) (m target : DxeMachine) (step : Step) : Type 0 where
  pub aimed : WasAimed catalog m target
  pub step_is : IsStep catalog fuel target step

-- the step that ended a run so, which started no driver
pub record WasOver (catalog : Catalog) (fuel : ℕ) (m target : DxeMachine) (how : DxeEnd) : Type 0 where
  pub aimed : WasAimed catalog m target
  pub none : StartsNone catalog target
  pub handles : (dxe_step catalog fuel target).handles ≡ target.handles
  pub ended : (dxe_step catalog fuel target).ended ≡ Some how

-- the start of a driver that was due, and was not let
pub record WasBarred (catalog : Catalog) (m : DxeMachine) (number : ℕ) : Type 0 where
  pub target : DxeMachine
  pub aimed : WasAimed catalog m target
  pub starting : IsStarting catalog target number

-- how a run has reached what it did, behind steps from the earlier machines: all its steps were taken from these
abbrev pub WasLast : Catalog → ℕ → DxeMachine → List DxeMachine → List DxeMachine → Reached DxeEnd → Type 0
WasLast catalog fuel opening earlier all (R.End how) =
    (target : DxeMachine) × (all ≡ target ∷ earlier) × WasOver catalog fuel (came catalog fuel opening earlier) target how
WasLast catalog fuel opening earlier all (R.Barred number) = (all ≡ earlier) × WasBarred catalog (came catalog fuel opening earlier) number

-- the core beside its store, and the queue, as a run leaves them
abbrev pub StandsLeft : {M : Type 0} → (M → StoreState → Type 0) → M → Catalog → DxeCore → Queue → DxeMachine → Reached DxeEnd → Type 0
StandsLeft stands store catalog core queue m (R.End how) = StandsAtEnd stands store catalog core queue m
StandsLeft stands store catalog core queue m (R.Barred number) = IsLeft stands store catalog core queue m

-- a run by choices from an opening, with what they are told behind steps from earlier machines, and how it leaves the core beside its store, and the text
pub record DxeCourse (M : Type 0) : Type 1 where
  pub names : List DxeMachine → DxeMachine → Option ℕ → Type 0
  pub lets : List DxeMachine → DxeMachine → ℕ → Bool
  pub told : List DxeMachine → Before
  pub in_pei : ℕ
  pub stands : M → StoreState → Type 0
  pub store : M
  pub catalog : Catalog
  pub fuel : ℕ
  pub opening : DxeMachine
  pub later : DxeCore
  pub old : Option (List ℕ)
  pub new : Option (List ℕ)

abbrev pub RunsAlong : {M : Type 0} → DxeCourse M → Queue → Result (Reached DxeEnd) Halt → Type 0
RunsAlong c queue result = RunsBy c.names c.lets c.stands c.store c.catalog c.fuel c.opening c.later queue c.old c.new result

-- what is known of it by its answer: nothing where it was given up
abbrev pub KnowsOf : {M : Type 0} (c : DxeCourse M) (queue : Queue) (Known : List DxeMachine → Reached DxeEnd → Type 0) (result : Result (Reached DxeEnd) Halt)
    → RunsAlong c queue result → Type 0
KnowsOf c queue Known (Ok (R.End how)) by = Known by.earlier (R.End how)
KnowsOf c queue Known (Ok (R.Barred number)) by = Known by.earlier (R.Barred number)
KnowsOf c queue Known (Err halt) by = ⊤

-- what the dispatcher keeps says what the choice was told last, or would be at the end
abbrev pub SaysTold : {M : Type 0} (c : DxeCourse M) (kept : Agenda) (result : Result (Reached DxeEnd) Halt) → RunsAlong c kept.queue result → Type 0
SaysTold c kept (Ok (R.End how)) by = told_last c.in_pei kept.queue.left (turn_kept kept.passes) (R.End how) ≡ c.told by.earlier
SaysTold c kept (Ok (R.Barred number)) by = told_last c.in_pei kept.queue.left (turn_kept kept.passes) (R.Barred number) ≡ c.told by.earlier
SaysTold c kept (Err halt) by = ⊤

-- a run of which this is known
pub record RunsKnown {M : Type 0} (c : DxeCourse M) (kept : Agenda) (Known : List DxeMachine → Reached DxeEnd → Type 0) (result : Result (Reached DxeEnd) Halt) : Type 0 where
  pub by : RunsAlong c kept.queue result
  pub told : SaysTold c kept result by
  pub known : KnowsOf c kept.queue Known result by

-- a call that takes a run by a choice: the core and the sink before it, and behind it
pub record Passage (S : Type 0) : Type 0 where
  pub core : DxeCore
  pub sink : S
  pub later : DxeCore
  pub shown : S

-- its run from an opening
abbrev pub course_of : {M S : Type 0} → DriverChoice S → (M → StoreState → Type 0) → M → Catalog → Passage S → ℕ → DxeMachine → DxeCourse M
course_of choice stands store catalog call fuel opening = record {
  names = NamesDrivers choice.by (told_in_dxe choice catalog fuel opening) call.sink;
  lets = LetsDrivers choice.by.rules (told_in_dxe choice catalog fuel opening);
  told = told_in_dxe choice catalog fuel opening;
  in_pei = choice.in_pei;
  stands = stands;
  store = store;
  catalog = catalog;
  fuel = fuel;
  opening = opening;
  later = call.later;
  old = choice.by.text call.sink;
  new = choice.by.text call.shown;
}

-- a watched run from the opening over each state, with the actions and the fuel for which the core was made: a run by choices, of which this is known
abbrev pub RunsWatched : {M S : Type 0} → (Catalog → ℕ → DxeMachine → List DxeMachine → Reached DxeEnd → Type 0) → DriverChoice S
    → (M → StoreState → Type 0) → M → Catalog → Passage S → Agenda → Result (Reached DxeEnd) Halt → Type 0
RunsWatched Knows choice stands store catalog call kept result =
    (s : StoreState) (actions fuel : ℕ) → IsFor catalog fuel call.core → StandsFor stands store catalog call.core (dxe_opening catalog s actions)
    → RunsKnown (course_of choice stands store catalog call fuel (dxe_opening catalog s actions)) kept (Knows catalog fuel (dxe_opening catalog s actions)) result

-- the same where what the dispatcher keeps is gone, but for what it says of what the choice was told last
abbrev pub LeavesKnown : {M : Type 0} → DxeCourse M → (List DxeMachine → Reached DxeEnd → Type 0) → Result Run Halt → Type 0
LeavesKnown c Known (Ok run) =
    (kept : Agenda) × (run.before ≡ told_last c.in_pei kept.queue.left (turn_kept kept.passes) run.reached) × RunsKnown c kept Known (Ok run.reached)
LeavesKnown c Known (Err halt) = StopsShort c.names c.lets c.catalog c.fuel c.opening c.old c.new

abbrev pub LeavesWatched : {M S : Type 0} → (Catalog → ℕ → DxeMachine → List DxeMachine → Reached DxeEnd → Type 0) → DriverChoice S
    → (M → StoreState → Type 0) → M → Catalog → Passage S → Result Run Halt → Type 0
LeavesWatched Knows choice stands store catalog call result =
    (s : StoreState) (actions fuel : ℕ) → IsFor catalog fuel call.core → StandsFor stands store catalog call.core (dxe_opening catalog s actions)
    → LeavesKnown (course_of choice stands store catalog call fuel (dxe_opening catalog s actions)) (Knows catalog fuel (dxe_opening catalog s actions)) result

-- what is known of a whole run by its answer
abbrev pub KnowsOfBoot : (b : DxeBoot) (Known : List DxeMachine → Reached DxeEnd → Type 0) (result : Result Left Halt) → BootsBy b result → Type 0
KnowsOfBoot b Known (Ok (V.Ended left)) by = Known by.earlier (R.End left.«end»)
KnowsOfBoot b Known (Ok (V.Barred left)) by = Known by.earlier (R.Barred left.number)
KnowsOfBoot b Known (Err halt) by = ⊤

-- a whole run of which this is known
pub record BootsKnown (b : DxeBoot) (Known : List DxeMachine → Reached DxeEnd → Type 0) (result : Result Left Halt) : Type 0 where
  pub by : BootsBy b result
  pub known : KnowsOfBoot b Known result by

-- the sink before a call and behind it
pub record Shown (S : Type 0) : Type 0 where
  pub sink : S
  pub shown : S

-- the whole run of a call by a choice, from an opening
abbrev pub boot_of : {S : Type 0} → DriverChoice S → Catalog → ℕ → DxeMachine → Shown S → DxeBoot
boot_of choice catalog fuel opening call = record {
  names = NamesDrivers choice.by (told_in_dxe choice catalog fuel opening) call.sink;
  lets = LetsDrivers choice.by.rules (told_in_dxe choice catalog fuel opening);
  told = told_in_dxe choice catalog fuel opening;
  catalog = catalog;
  fuel = fuel;
  opening = opening;
  old = choice.by.text call.sink;
  new = choice.by.text call.shown;
}

-- from the hand-off of a store, with the actions that PEI took and its starts
abbrev pub BootsWatched : {S : Type 0} → (Catalog → ℕ → DxeMachine → List DxeMachine → Reached DxeEnd → Type 0) → DriverChoice S → Catalog
    → ℕ → ℕ → Shown S → Result Left Halt → StoreState → Type 0
BootsWatched Knows choice catalog fuel taken call result s =
    BootsKnown (boot_of choice catalog fuel (dxe_opening catalog s taken) call) (Knows catalog fuel (dxe_opening catalog s taken)) result
