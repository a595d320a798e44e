-- A run of DXE by choices: where a driver is to be chosen, the choices may name one. The group is scheduled of the driver to which BEFORE and AFTER lead from it, where that one waits and may start; then, as everywhere, the machine takes its own step. Before a driver starts, also one of a group that is scheduled already, they let it, or the run is left there.
-- Own; PI 1.8, volume 2, "DXE Dispatcher", leaves the order to the dispatcher.
use Rattle.std.specs.Prelude.{◌≡◌, ◌⊎◌, ◌≤◌, ◌+◌, ◌-◌, ℕ, Bool, false, length, sum_by, List, [], ◌∷◌, Option, Some, None, Result, Ok, Err, OnOk, ⊤}
use Rattle.std.specs.Io.KnownBytes.{Appends}
use Rattle.boot_io.specs.{declared.halt.Halt.Halt, Sink.AppendsPart}
use Rattle.mod_catalog.specs.declared.catalogue.Catalog.{Catalog}
use Rattle.store_model.specs.{HandleState.HandleState, StoreState.StoreState}
use Rattle.boot_model.specs.{declared.phase_end.DxeEnd.DxeEnd, DxeChoice.discovered_order, DxeMachine.DxeMachine, DxeRun.dxe_opening}
use Rattle.boot_model.specs.{DxeStep.dxe_step, EvaluationBound.dxe_asked, EvaluationBound.dxe_guids, Text.text_of}
use Rattle.boot_laws.specs.{UnrequestedDrivers.WaitForRequest, DxeAim.IsChoosing, DxeAim.follows, DxeUnderWay.IsUnderWay}
use Rattle.boot_trace.specs.Printing.{Texts}
use Rattle.boot_laws.specs.{declared.choice.Before.Before, declared.choice.Reached.Reached}
use Rattle.boot_laws.specs.Naming.{Chooser, HasPut, MayName, Rules}
use Rattle.boot_laws.specs.declared.choice.Reached.TheVariants as R
use Rattle.dxe_dispatch.specs.{Aim.aimed, Queue.IsQueueOf, Queue.Queue, declared.answer.Turn.Turn, declared.boot.Barred.Barred}
use Rattle.dxe_dispatch.specs.declared.answer.Turn.TheVariants as T
use Rattle.dxe_dispatch.specs.{declared.passes.Agenda.Agenda, PassList.IsPassListOf, PassList.PassList, declared.boot.Ended.Ended}
use Rattle.dxe_dispatch.specs.Passes.{queued_behind, refilled, told_in, told_in_dxe}
pub use Rattle.dxe_dispatch.specs.Passes.{DriverChoice, came}
use Rattle.dxe_core.specs.Standing.{DxeCore, IsFor, StandsFor}
use Rattle.dxe_dispatch.specs.declared.boot.Left.{Left}
use Rattle.dxe_dispatch.specs.declared.boot.Left.TheVariants as V
use Rattle.dxe_dispatch.specs.Ends.{HasEnded, IsNow, StandsAtEnd}
use Rattle.dxe_dispatch.specs.Turns.{AreKeptFor, IsLeft, IsStarting, EvaluatesWithin, PassesStart, TurnsDxeTo}

-- the driver to which BEFORE and AFTER lead from this one
abbrev pub root_of : Catalog → DxeMachine → ℕ → ℕ
root_of catalog m number = follows catalog m (length catalog.modules) number

-- the machine with the group scheduled of the driver that is named, or as it was
abbrev pub aimed_at : Catalog → DxeMachine → Option ℕ → DxeMachine
aimed_at catalog m None = m
aimed_at catalog m (Some number) = aimed catalog m (root_of catalog m number)

-- the machine from which the next step is taken; a driver is named only where one is to be chosen
pub record IsAimedBy (Names : DxeMachine → Option ℕ → Type 0) (catalog : Catalog) (m target : DxeMachine) : Type 0 where
  pub named : Option ℕ
  pub allowed : IsChoosing m → Names m named
  pub busy : (IsChoosing m → ⊥) → named ≡ None
  pub is : target ≡ aimed_at catalog m named

-- the steps of a run are taken from these machines, the last of them first; each driver that starts is let. What may be named in a machine, and what is let, may depend on the machines before it
abbrev pub IsRunBy : (List DxeMachine → DxeMachine → Option ℕ → Type 0) → (List DxeMachine → DxeMachine → ℕ → Bool) → Catalog → ℕ → DxeMachine → List DxeMachine
    → Type 0
IsRunBy Names Lets catalog fuel opening [] = ⊤
IsRunBy Names Lets catalog fuel opening (target ∷ earlier) =
    IsAimedBy (Names earlier) catalog (came catalog fuel opening earlier) target × PassesStart (Lets earlier target) catalog target
    × ((came catalog fuel opening earlier).ended ≡ None) × IsRunBy Names Lets catalog fuel opening earlier

-- the drivers that a choice may name in a machine: it looks into the sink, and this is what it is told
abbrev pub NamesDriver : {S : Type 0} → Chooser S → Before → S → DxeMachine → Option ℕ → Type 0
NamesDriver by before first m named = MayName (λ sink other. by.rules.drivers sink before other) by.text by.faults first m.lines named

-- the same along a run, by what it is told behind steps from earlier machines
abbrev pub NamesDrivers : {S : Type 0} → Chooser S → (List DxeMachine → Before) → S → List DxeMachine → DxeMachine → Option ℕ → Type 0
NamesDrivers by told first earlier m named = NamesDriver by (told earlier) first m named

-- whether it lets a driver start, by what it is told there
abbrev pub LetsDrivers : {S : Type 0} → Rules S → (List DxeMachine → Before) → List DxeMachine → DxeMachine → ℕ → Bool
LetsDrivers rules told earlier m number = rules.lets_in_dxe (told earlier) number

-- a machine that is under way, for which the core beside its store and the queue stand, and in which drivers wait for their request
pub record IsOnWay {M : Type 0} (stands : M → StoreState → Type 0) (beside : M) (catalog : Catalog)
    (core : DxeCore) (kept : Queue) (m : DxeMachine) : Type 0 where
  pub now : IsNow stands beside catalog core kept m
  pub way : IsUnderWay catalog m
  pub waits : WaitForRequest catalog m

-- what is aimed at a driver that is named, from each machine for which the core and the queue stand
abbrev pub Aims : Catalog → DxeCore → Queue → Option ℕ → Queue → Type 0
Aims catalog core queue named later = (m : DxeMachine) → AreKeptFor catalog core queue m → IsQueueOf catalog (aimed_at catalog m named) later

-- one is named where the machine chooses, and none elsewhere
pub record IsAskedFor (names : Option ℕ → Type 0) (catalog : Catalog) (m : DxeMachine) (named : Option ℕ) : Type 0 where
  pub allowed : IsChoosing m → names named
  pub busy : (IsChoosing m → ⊥) → named ≡ None

-- so in each machine for which the core and the queue stand
abbrev pub Asks : (Option ℕ → Type 0) → Catalog → DxeCore → Queue → Option ℕ → Type 0
Asks names catalog core queue named = (m : DxeMachine) → AreKeptFor catalog core queue m → IsAskedFor names catalog m named

-- a turn by choices, by its answer: a step from a machine at which the choice is aimed, if a driver that starts is let; with the expressions that were evaluated or have to be, before and now
pub record TurnsBy (Names : DxeMachine → Option ℕ → Type 0) (Lets : DxeMachine → ℕ → Bool) (Now Left : DxeMachine → Type 0) (catalog : Catalog) (fuel : ℕ)
    (m : DxeMachine) (t : Texts) (before now : ℕ) (result : Result Turn Halt) : Type 0 where
  pub target : DxeMachine
  pub aimed : IsAimedBy Names catalog m target
  pub turned : TurnsDxeTo (Lets target) Now Left catalog fuel target t result
  pub few : OnOk result (EvaluatesWithin catalog fuel target before now)

-- a call that takes a turn by a choice: the core, what the dispatcher keeps, the sink and the expressions that were evaluated or have to be, before it and behind it
pub record ChoiceTurn (S : Type 0) : Type 0 where
  pub core : DxeCore
  pub agenda : Agenda
  pub sink : S
  pub before : ℕ
  pub later : DxeCore
  pub grown : Agenda
  pub shown : S
  pub now : ℕ

-- what its sink holds, before it and behind it
abbrev pub texts_of : {S : Type 0} → (S → Option (List ℕ)) → ChoiceTurn S → Texts
texts_of text call = record { old = text call.sink; new = text call.shown }

-- from each machine on its way whose lines were put, of a choice that is told this
abbrev pub TurnsTold : {M S : Type 0} → Chooser S → Before → (M → StoreState → Type 0) → M → Catalog → ChoiceTurn S → Result Turn Halt → Type 0
TurnsTold {S = S} by before stands store catalog call result =
    (m : DxeMachine) (fuel : ℕ) (first : S) → IsFor catalog fuel call.core → IsOnWay stands store catalog call.core call.agenda.queue m
    → HasPut by.text by.faults first m.lines call.sink
    → TurnsBy (NamesDriver by before first) (λ m number. by.rules.lets_in_dxe before number) (IsNow stands store catalog call.later call.grown.queue)
    (IsLeft stands store catalog call.later call.grown.queue) catalog fuel m (texts_of by.text call) call.before call.now result

-- what is kept of EDK2's queue behind a turn, if it is wanted: behind a step what has become of it, else the queue from which the turn was taken
abbrev pub KeepsPasses : Bool → Catalog → ℕ → DxeMachine → List ℕ → PassList → DxeMachine → Result Turn Halt → Type 0
KeepsPasses wants catalog fuel m queue kept target (Ok (T.Took step)) =
    IsPassListOf catalog wants (dxe_step catalog fuel target) (queued_behind catalog target (dxe_step catalog fuel target) (refilled catalog m queue)) kept
KeepsPasses wants catalog fuel m queue kept target (Ok (T.Reached reached)) = IsPassListOf catalog wants m (refilled catalog m queue) kept
KeepsPasses wants catalog fuel m queue kept target (Err halt) = ⊤

-- a turn was given up before anything was named or put, or it is so
abbrev pub OrNonePut : Texts → (Result Turn Halt → Type 0) → Result Turn Halt → Type 0
OrNonePut t IsSo (Ok turn) = IsSo (Ok turn)
OrNonePut t IsSo (Err halt) = Appends t.old t.new [] ⊎ IsSo (Err halt)

-- from each machine on its way whose lines were put, and each queue that is kept: the choice is told whose turn it is by that queue
abbrev pub TurnsByChoice : {M S : Type 0} → DriverChoice S → (M → StoreState → Type 0) → M → Catalog → ChoiceTurn S → Result Turn Halt → Type 0
TurnsByChoice {S = S} choice stands store catalog call result =
    (m : DxeMachine) (fuel : ℕ) (first : S) (queue : List ℕ) → IsFor catalog fuel call.core → IsOnWay stands store catalog call.core call.agenda.queue m
    → HasPut choice.by.text choice.by.faults first m.lines call.sink → IsPassListOf catalog choice.by.rules.wants_turn m queue call.agenda.passes
    → OrNonePut (texts_of choice.by.text call) (λ result. (by : TurnsBy (NamesDriver choice.by (told_in choice catalog m queue) first)
    (λ target number. choice.by.rules.lets_in_dxe (told_in choice catalog m queue) number) (IsNow stands store catalog call.later call.grown.queue)
    (IsLeft stands store catalog call.later call.grown.queue) catalog fuel m (texts_of choice.by.text call) call.before call.now result)
    × KeepsPasses choice.by.rules.wants_turn catalog fuel m queue call.grown.passes by.target result) result

-- a run by choices from an opening that has come to its end
pub record EndsBy {M : Type 0} (Names : List DxeMachine → DxeMachine → Option ℕ → Type 0) (Lets : List DxeMachine → DxeMachine → ℕ → Bool) (stands : M → StoreState → Type 0) (store : M)
    (catalog : Catalog) (fuel : ℕ) (opening : DxeMachine) (later : DxeCore) (queue : Queue) (how : DxeEnd) (old new : Option (List ℕ)) : Type 0 where
  pub earlier : List DxeMachine
  pub run : IsRunBy Names Lets catalog fuel opening earlier
  pub ended : HasEnded how (came catalog fuel opening earlier) old new
  pub now : StandsAtEnd stands store catalog later queue (came catalog fuel opening earlier)

-- a driver is due by choices: the machine at which they are aimed starts it next
pub record IsDue (Names : DxeMachine → Option ℕ → Type 0) (catalog : Catalog) (m : DxeMachine) (number : ℕ) : Type 0 where
  pub target : DxeMachine
  pub aimed : IsAimedBy Names catalog m target
  pub starting : IsStarting catalog target number

-- in this machine, which runs, a driver is due that they do not let, and all of its lines were put
pub record IsBarred (Names : DxeMachine → Option ℕ → Type 0) (Lets : DxeMachine → ℕ → Bool) (catalog : Catalog)
    (m : DxeMachine) (number : ℕ) (old new : Option (List ℕ)) : Type 0 where
  pub running : m.ended ≡ None
  pub due : IsDue Names catalog m number
  pub barred : Lets due.target number ≡ false
  pub text : Appends old new (text_of m.lines)

-- or to such a machine, and is left there
pub record BarsBy {M : Type 0} (Names : List DxeMachine → DxeMachine → Option ℕ → Type 0) (Lets : List DxeMachine → DxeMachine → ℕ → Bool) (stands : M → StoreState → Type 0) (store : M)
    (catalog : Catalog) (fuel : ℕ) (opening : DxeMachine) (later : DxeCore) (queue : Queue) (number : ℕ) (old new : Option (List ℕ)) : Type 0 where
  pub earlier : List DxeMachine
  pub run : IsRunBy Names Lets catalog fuel opening earlier
  pub bars : IsBarred (Names earlier) (Lets earlier) catalog (came catalog fuel opening earlier) number old new
  pub left : IsLeft stands store catalog later queue (came catalog fuel opening earlier)

-- or to a machine of whose lines a part was put
pub record StopsShort (Names : List DxeMachine → DxeMachine → Option ℕ → Type 0) (Lets : List DxeMachine → DxeMachine → ℕ → Bool) (catalog : Catalog) (fuel : ℕ)
    (opening : DxeMachine) (old new : Option (List ℕ)) : Type 0 where
  pub earlier : List DxeMachine
  pub run : IsRunBy Names Lets catalog fuel opening earlier
  pub part : AppendsPart old new (text_of (came catalog fuel opening earlier).lines)

-- by its answer
abbrev pub RunsBy : {M : Type 0} → (List DxeMachine → DxeMachine → Option ℕ → Type 0) → (List DxeMachine → DxeMachine → ℕ → Bool) → (M → StoreState → Type 0) → M → Catalog → ℕ
    → DxeMachine → DxeCore → Queue → Option (List ℕ) → Option (List ℕ) → Result (Reached DxeEnd) Halt → Type 0
RunsBy Names Lets stands store catalog fuel opening later queue old new (Ok (R.End how)) =
    EndsBy Names Lets stands store catalog fuel opening later queue how old new
RunsBy Names Lets stands store catalog fuel opening later queue old new (Ok (R.Barred number)) =
    BarsBy Names Lets stands store catalog fuel opening later queue number old new
RunsBy Names Lets stands store catalog fuel opening later queue old new (Err halt) = StopsShort Names Lets catalog fuel opening old new

-- what the choice was told last, or would be at the end, by how many drivers have left the queue and whose turn it is; one that was not let has left it too
abbrev pub told_last : ℕ → ℕ → Option ℕ → Reached DxeEnd → Before
told_last in_pei left turn (R.End how) = record { starts = in_pei + left; turn = turn }
told_last in_pei left turn (R.Barred number) = record { starts = in_pei + (left - 1); turn = turn }

-- what is left behind a run, by what it came to
abbrev pub leaves : HandleState → Before → Reached DxeEnd → Left
leaves handles before (R.End how) = V.Ended (record { «end» = how; handles = handles; before = before })
leaves handles before (R.Barred number) = V.Barred (record { number = number; handles = handles; before = before })

-- a whole run by choices, with what they are told behind steps from earlier machines, and the text before it and behind it
pub record DxeBoot : Type 1 where
  pub names : List DxeMachine → DxeMachine → Option ℕ → Type 0
  pub lets : List DxeMachine → DxeMachine → ℕ → Bool
  pub told : List DxeMachine → Before
  pub catalog : Catalog
  pub fuel : ℕ
  pub opening : DxeMachine
  pub old : Option (List ℕ)
  pub new : Option (List ℕ)

-- it has come to its end, and hands its handles on, with what the choice would be told there
pub record HasBooted (b : DxeBoot) (left : Ended) : Type 0 where
  pub earlier : List DxeMachine
  pub run : IsRunBy b.names b.lets b.catalog b.fuel b.opening earlier
  pub ended : HasEnded left.«end» (came b.catalog b.fuel b.opening earlier) b.old b.new
  pub has : (came b.catalog b.fuel b.opening earlier).handles ≡ left.handles
  pub before_is : left.before ≡ b.told earlier

-- it was left before a start that is not let, with what the choice was told there
pub record HasStayed (b : DxeBoot) (left : Barred) : Type 0 where
  pub earlier : List DxeMachine
  pub run : IsRunBy b.names b.lets b.catalog b.fuel b.opening earlier
  pub bars : IsBarred (b.names earlier) (b.lets earlier) b.catalog (came b.catalog b.fuel b.opening earlier) left.number b.old b.new
  pub has : (came b.catalog b.fuel b.opening earlier).handles ≡ left.handles
  pub before_is : left.before ≡ b.told earlier

-- by its answer
abbrev pub BootsBy : DxeBoot → Result Left Halt → Type 0
BootsBy b (Ok (V.Ended left)) = HasBooted b left
BootsBy b (Ok (V.Barred left)) = HasStayed b left
BootsBy b (Err halt) = StopsShort b.names b.lets b.catalog b.fuel b.opening b.old b.new

-- the handles that a whole run leaves
abbrev pub handles_of : Left → HandleState
handles_of (V.Ended left) = left.handles
handles_of (V.Barred left) = left.handles

-- the evaluations that the steps from these machines allow
abbrev pub changes_of : Catalog → ℕ → List DxeMachine → ℕ
changes_of catalog fuel [] = 0
changes_of catalog fuel (target ∷ earlier) = sum_by (dxe_asked catalog target) (dxe_guids catalog fuel target) + changes_of catalog fuel earlier

-- no more expressions were evaluated than one for each driver that was discovered, and those that the steps allow, up to a machine of the run
pub record EvaluatesFewBy (Names : List DxeMachine → DxeMachine → Option ℕ → Type 0) (Lets : List DxeMachine → DxeMachine → ℕ → Bool) (catalog : Catalog) (fuel : ℕ)
    (opening : DxeMachine) (before now : ℕ) : Type 0 where
  pub earlier : List DxeMachine
  pub run : IsRunBy Names Lets catalog fuel opening earlier
  pub few : now ≤ before + (length (discovered_order catalog (came catalog fuel opening earlier)) + changes_of catalog fuel earlier)

-- from the opening over each state, before and behind the run
abbrev pub EvaluatesFewByChoice : {M S : Type 0} → DriverChoice S → (M → StoreState → Type 0) → M → Catalog → DxeCore → S → ℕ → ℕ → Type 0
EvaluatesFewByChoice choice stands store catalog core sink before now =
    (s : StoreState) (actions fuel : ℕ) → IsFor catalog fuel core → StandsFor stands store catalog core (dxe_opening catalog s actions)
    → EvaluatesFewBy (NamesDrivers choice.by (told_in_dxe choice catalog fuel (dxe_opening catalog s actions)) sink)
    (LetsDrivers choice.by.rules (told_in_dxe choice catalog fuel (dxe_opening catalog s actions))) catalog fuel (dxe_opening catalog s actions) before now
