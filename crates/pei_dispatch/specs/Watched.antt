-- What is known of a run of PEI by who watches it.
-- Own.
use Rattle.std.specs.Prelude.{◌≡◌, ℕ, Bool, List, ◌∷◌, Option, Some, None, Result, Ok, Err, ⊤}
use Rattle.boot_io.specs.declared.halt.Halt.{Halt}
use Rattle.mod_catalog.specs.declared.catalogue.Catalog.{Catalog}
use Rattle.store_model.specs.declared.store_handle.Sweep.{Sweep}
use Rattle.store_model.specs.StoreState.{Board, StoreState, empty_store}
use Rattle.boot_model.specs.{declared.phase_end.PeiEnd.PeiEnd, PeiChoice.next_peim, PeiChoice.pei_order, PeiMachine.PeiMachine}
use Rattle.boot_model.specs.{PeiRun.pei_opening, PeiStep.started}
use Rattle.boot_laws.specs.{declared.choice.Reached.Reached, Naming.Chooser, PeiAim.with_cursor}
use Rattle.boot_laws.specs.declared.choice.Reached.TheVariants as R
use Rattle.pei_core.specs.{declared.pei.Pei.Pei, Standing.IsFor, Standing.StandsFor, Steps.IsEvent, Steps.IsIdle, CoreCall.CoreCall}
use Rattle.pei_dispatch.specs.{declared.answer.Step.Step, declared.answer.Step.TheVariants.Acted, declared.answer.Step.TheVariants.Started}
use Rattle.pei_dispatch.specs.{declared.queue.PeiQueue.PeiQueue, declared.boot.Left.Left, Queue.parts_in}
use Rattle.pei_dispatch.specs.declared.boot.Left.TheVariants as V
use Rattle.pei_dispatch.specs.Choices.{BootsBy, IsOwnStep, LetsPeims, NamesPeims, RunsBy}

-- what a step was, whoever chose
abbrev pub WasStep : Catalog → ℕ → PeiMachine → PeiMachine → Step → Type 0
WasStep catalog fuel m later (Acted event) = IsOwnStep catalog fuel m later × (IsIdle m → ⊥) × IsEvent catalog fuel m event
WasStep catalog fuel m later (Started number) = IsIdle m × (later ≡ started catalog m number)

-- a PEIM was due, whoever chose: the first that may start from some place in the order on
pub record WasDue (catalog : Catalog) (m : PeiMachine) (number : ℕ) : Type 0 where
  pub idle : IsIdle m
  pub cursor : ℕ
  pub next : next_peim catalog (with_cursor m cursor) ≡ Some number

-- how a run has reached what it did from a machine, behind these earlier ones: its last machine, and all before that
abbrev pub WasLast : Catalog → ℕ → List PeiMachine → PeiMachine → List PeiMachine → PeiMachine → Reached PeiEnd → Type 0
WasLast catalog fuel earlier m all last (R.End how) = (all ≡ m ∷ earlier) × IsOwnStep catalog fuel m last × (last.ended ≡ Some how)
WasLast catalog fuel earlier m all last (R.Barred number) = (all ≡ earlier) × (last ≡ m) × WasDue catalog m number

-- the core over its store stands for a machine that has ended as it was before it ended, and the parts of the queue are those of its order
pub record StandsEnded {M : Type 0} (stands : M → StoreState → Type 0) (catalog : Catalog) (pei : Pei M) (queue : PeiQueue) (m : PeiMachine) : Type 0 where
  pub sweep : Option Sweep
  pub machine : StandsFor stands pei (record m { ended = None; core_sweep = sweep })
  pub parts : parts_in queue ≡ pei_order catalog m.reported

-- or for a machine that was left
pub record StandsBarred {M : Type 0} (stands : M → StoreState → Type 0) (catalog : Catalog) (pei : Pei M) (queue : PeiQueue) (m : PeiMachine) : Type 0 where
  pub machine : StandsFor stands pei m
  pub parts : parts_in queue ≡ pei_order catalog m.reported

abbrev pub StandsLeft : {M : Type 0} → (M → StoreState → Type 0) → Catalog → Pei M → PeiQueue → PeiMachine → Reached PeiEnd → Type 0
StandsLeft stands catalog pei queue m (R.End how) = StandsEnded stands catalog pei queue m
StandsLeft stands catalog pei queue m (R.Barred number) = StandsBarred stands catalog pei queue m

-- a run by choices from an opening, with the core and the texts before it and behind it
pub record PeiCourse (M : Type 0) : Type 1 where
  pub names : PeiMachine → Option ℕ → Type 0
  pub lets : PeiMachine → ℕ → Bool
  pub stands : M → StoreState → Type 0
  pub catalog : Catalog
  pub fuel : ℕ
  pub opening : PeiMachine
  pub call : CoreCall M

abbrev pub RunsAlong : {M : Type 0} → PeiCourse M → Result (Reached PeiEnd) Halt → Type 0
RunsAlong c result = RunsBy c.names c.lets c.stands c.catalog c.fuel c.opening c.call result

-- what is known of it by its answer: nothing where it was given up
abbrev pub KnowsOf : {M : Type 0} (c : PeiCourse M) (Known : List PeiMachine → PeiMachine → Reached PeiEnd → Type 0) (result : Result (Reached PeiEnd) Halt)
    → RunsAlong c result → Type 0
KnowsOf c Known (Ok (R.End how)) by = Known by.comes.earlier by.«end» (R.End how)
KnowsOf c Known (Ok (R.Barred number)) by = Known by.comes.earlier by.m (R.Barred number)
KnowsOf c Known (Err halt) by = ⊤

-- a run of which this is known
pub record RunsKnown {M : Type 0} (c : PeiCourse M) (Known : List PeiMachine → PeiMachine → Reached PeiEnd → Type 0) (result : Result (Reached PeiEnd) Halt) : Type 0 where
  pub by : RunsAlong c result
  pub known : KnowsOf c Known result by

-- a watched run from the opening, over each board and fuel for which the core was made: a run by choices, of which this is known
abbrev pub RunsWatched : {M S : Type 0} → (Catalog → ℕ → List PeiMachine → PeiMachine → Reached PeiEnd → Type 0) → Chooser S
    → (M → StoreState → Type 0) → Catalog → S → CoreCall M → Result (Reached PeiEnd) Halt → Type 0
RunsWatched Knows by stands catalog sink call result =
    (board : Board) (fuel : ℕ) → IsFor catalog fuel call.pei → StandsFor stands call.pei (pei_opening board catalog)
    → RunsKnown (record {
      names = NamesPeims by catalog sink;
      lets = LetsPeims by.rules catalog;
      stands = stands;
      catalog = catalog;
      fuel = fuel;
      opening = pei_opening board catalog;
      call = call;
    }) (Knows catalog fuel) result

-- a whole run by choices over a store, with the text before it and behind it
pub record PeiBoot (M : Type 0) : Type 1 where
  pub names : PeiMachine → Option ℕ → Type 0
  pub lets : PeiMachine → ℕ → Bool
  pub stands : M → StoreState → Type 0
  pub catalog : Catalog
  pub fuel : ℕ
  pub opening : PeiMachine
  pub old : Option (List ℕ)
  pub new : Option (List ℕ)

abbrev pub BootsAlong : {M : Type 0} → PeiBoot M → Result (Left M) Halt → Type 0
BootsAlong b result = BootsBy b.names b.lets b.stands b.catalog b.fuel b.opening b.old b.new result

-- what is known of it by its answer
abbrev pub KnowsOfBoot : {M : Type 0} (b : PeiBoot M) (Known : List PeiMachine → PeiMachine → Reached PeiEnd → Type 0) (result : Result (Left M) Halt)
    → BootsAlong b result → Type 0
KnowsOfBoot b Known (Ok (V.Ended left)) by = Known by.comes.earlier by.«end» (R.End left.«end»)
KnowsOfBoot b Known (Ok (V.Barred left)) by = Known by.comes.earlier by.m (R.Barred left.number)
KnowsOfBoot b Known (Err halt) by = ⊤

-- a whole run of which this is known
pub record BootsKnown {M : Type 0} (b : PeiBoot M) (Known : List PeiMachine → PeiMachine → Reached PeiEnd → Type 0) (result : Result (Left M) Halt) : Type 0 where
  pub by : BootsAlong b result
  pub known : KnowsOfBoot b Known result by

-- a call that takes a whole run: the store as it was made, and the sink before it and behind it
pub record BootCall (M S : Type 0) : Type 0 where
  pub store : M
  pub sink : S
  pub shown : S

-- over each board for which the store stands as it was made
abbrev pub BootsWatched : {M S : Type 0} → (Catalog → ℕ → List PeiMachine → PeiMachine → Reached PeiEnd → Type 0) → Chooser S
    → (M → StoreState → Type 0) → Catalog → ℕ → BootCall M S → Result (Left M) Halt → Type 0
BootsWatched Knows by stands catalog fuel call result =
    (board : Board) → stands call.store (empty_store board)
    → BootsKnown (record {
      names = NamesPeims by catalog call.sink;
      lets = LetsPeims by.rules catalog;
      stands = stands;
      catalog = catalog;
      fuel = fuel;
      opening = pei_opening board catalog;
      old = by.text call.sink;
      new = by.text call.shown;
    }) (Knows catalog fuel) result
