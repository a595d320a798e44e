-- What is told along a run of PEI by choices, and for which machine of it the core and the queue stand. A run is given by its last machine and the machines before that one, the last of them first.
-- Own.
use Rattle.std.specs.Prelude.{◌≡◌, ℕ, Bool, false, List, ◌∷◌, ◌++◌, Option, Some, None}
use Rattle.pi_base.specs.declared.guid.Guid.{Guid}
use Rattle.mod_catalog.specs.declared.catalogue.Catalog.{Catalog}
use Rattle.store_model.specs.{Service.Install.has_ppi, StoreState.Board, StoreState.StoreState, declared.store_handle.Sweep.Sweep}
use Rattle.boot_model.specs.{declared.phase_end.PeiEnd.PeiEnd, PeiChoice.pei_order, PeiMachine.PeiMachine, PeiRun.pei_opening}
use Rattle.boot_model.specs.PeiStep.{started}
use Rattle.boot_laws.specs.{declared.choice.Reached.Reached, Naming.Rules, PeiUnderWay.IsUnderWay}
use Rattle.boot_laws.specs.declared.choice.Reached.TheVariants as R
use Rattle.pei_dispatch.specs.{declared.queue.PeiQueue.PeiQueue, Queue.parts_in, View.event_guids, Turns.IsNow}
use Rattle.pei_core.specs.{declared.event.Event.Event, declared.pei.Pei.Pei, Standing.IsFor, Standing.StandsFor, Steps.IsIdle}
use Rattle.pei_dispatch.specs.Choices.{IsDue, IsRunBy, LetsPeims}
use Rattle.explain_text.specs.declared.reasons.Giver.{Giver}
use Rattle.boot_reasons.specs.{declared.nowhere.Nowhere.Nowhere, declared.told.PeiTold.PeiTold, Noting.AreNoted, Noting.giver_in}
use Rattle.boot_reasons.specs.PeiReasons.{pei_begun, pei_begun_at, pei_giver, pei_moved}
use Rattle.boot_reasons.specs.Unseen.{NamesUnseen}

-- what is told of a run
pub record IsTold (catalog : Catalog) (earlier : List PeiMachine) (m : PeiMachine) (told : PeiTold) : Type 0 where
  pub begun : told.begun ≡ pei_begun catalog earlier m
  pub givers : (guid : Guid) → giver_in told.givers.map guid ≡ pei_giver earlier m guid
  pub moved : told.moved ≡ pei_moved earlier m

-- a run by choices leads to the machine for which the core and the queue stand, and all of it is told
pub record IsAt {M : Type 0} (Names : PeiMachine → Option ℕ → Type 0) (Lets : PeiMachine → ℕ → Bool) (stands : M → StoreState → Type 0) (board : Board) (catalog : Catalog) (fuel : ℕ)
    (earlier : List PeiMachine) (m : PeiMachine) (pei : Pei M) (queue : PeiQueue) (told : PeiTold) : Type 0 where
  pub run : IsRunBy Names Lets catalog fuel (pei_opening board catalog) earlier m
  pub way : IsUnderWay catalog m
  pub now : IsNow stands catalog pei queue m
  pub is_told : IsTold catalog earlier m told

-- the core stands for a last machine as it was before it ended, and the queue has its order
pub record IsLeftAt {M : Type 0} (stands : M → StoreState → Type 0) (catalog : Catalog) (pei : Pei M) (queue : PeiQueue) («end» : PeiMachine) : Type 0 where
  pub sweep : Option Sweep
  pub machine : StandsFor stands pei (record «end» { ended = None; core_sweep = sweep })
  pub parts : parts_in queue ≡ pei_order catalog «end».reported

-- it leads to a machine that has ended so
pub record IsAtEnd {M : Type 0} (Names : PeiMachine → Option ℕ → Type 0) (Lets : PeiMachine → ℕ → Bool) (stands : M → StoreState → Type 0) (board : Board) (catalog : Catalog) (fuel : ℕ)
    (earlier : List PeiMachine) («end» : PeiMachine) (pei : Pei M) (queue : PeiQueue) (told : PeiTold) (how : PeiEnd) : Type 0 where
  pub run : IsRunBy Names Lets catalog fuel (pei_opening board catalog) earlier «end»
  pub ended : «end».ended ≡ Some how
  pub left : IsLeftAt stands catalog pei queue «end»
  pub is_told : IsTold catalog earlier «end» told

-- it leads to a machine from which a PEIM is due that the choices do not let
pub record IsBarred (Names : PeiMachine → Option ℕ → Type 0) (Lets : PeiMachine → ℕ → Bool) (board : Board) (catalog : Catalog) (fuel : ℕ)
    (earlier : List PeiMachine) (m : PeiMachine) (number : ℕ) : Type 0 where
  pub run : IsRunBy Names Lets catalog fuel (pei_opening board catalog) earlier m
  pub running : m.ended ≡ None
  pub due : IsDue Names catalog m number
  pub barred : Lets m number ≡ false

-- the same run with a step more, by how it goes on
abbrev pub TurnsTo : {M : Type 0} → (PeiMachine → Option ℕ → Type 0) → (PeiMachine → ℕ → Bool) → (M → StoreState → Type 0) → Board → Catalog → ℕ
    → List PeiMachine → PeiMachine → Pei M → PeiQueue → PeiTold → Option (Reached PeiEnd) → Type 0
TurnsTo Names Lets stands board catalog fuel earlier m pei queue told None =
    (later : PeiMachine) × IsAt Names Lets stands board catalog fuel (m ∷ earlier) later pei queue told
TurnsTo Names Lets stands board catalog fuel earlier m pei queue told (Some (R.End how)) =
    («end» : PeiMachine) × IsAtEnd Names Lets stands board catalog fuel (m ∷ earlier) «end» pei queue told how
TurnsTo Names Lets stands board catalog fuel earlier m pei queue told (Some (R.Barred number)) =
    IsBarred Names Lets board catalog fuel earlier m number

-- so from each run by a choice that leads to the machine of the core and the queue and was told
abbrev pub Turns : {M : Type 0} → Rules Nowhere → (M → StoreState → Type 0) → Catalog
    → Pei M → PeiQueue → PeiTold → Pei M → PeiQueue → PeiTold → Option (Reached PeiEnd) → Type 0
Turns rules stands catalog pei queue told later grown after turned =
    (board : Board) (fuel : ℕ) (earlier : List PeiMachine) (m : PeiMachine) → IsFor catalog fuel pei
    → IsAt (NamesUnseen rules catalog) (LetsPeims rules catalog) stands board catalog fuel earlier m pei queue told
    → TurnsTo (NamesUnseen rules catalog) (LetsPeims rules catalog) stands board catalog fuel earlier m later grown after turned

-- the same where that machine is idle
abbrev pub TurnsIdle : {M : Type 0} → Rules Nowhere → (M → StoreState → Type 0) → Catalog
    → Pei M → PeiQueue → PeiTold → Pei M → PeiQueue → PeiTold → Option (Reached PeiEnd) → Type 0
TurnsIdle rules stands catalog pei queue told later grown after turned =
    (board : Board) (fuel : ℕ) (earlier : List PeiMachine) (m : PeiMachine) → IsFor catalog fuel pei
    → IsAt (NamesUnseen rules catalog) (LetsPeims rules catalog) stands board catalog fuel earlier m pei queue told → IsIdle m
    → TurnsTo (NamesUnseen rules catalog) (LetsPeims rules catalog) stands board catalog fuel earlier m later grown after turned

-- a PEIM has started, and this is told of it
pub record IsStartTold {M : Type 0} (stands : M → StoreState → Type 0) (catalog : Catalog) (m : PeiMachine) (number : ℕ)
    (later : Pei M) (grown : PeiQueue) (told after : PeiTold) : Type 0 where
  pub now : IsNow stands catalog later grown (started catalog m number)
  pub begun : after.begun ≡ told.begun ++ pei_begun_at catalog m (giver_in told.givers.map) number
  pub givers : after.givers ≡ told.givers
  pub moved : after.moved ≡ told.moved

-- which PPIs came and went in an event is noted, by its actor, behind it
abbrev pub IsEventNoted : StoreState → Event → Giver → List (Guid × Giver) → List (Guid × Giver) → Type 0
IsEventNoted s event actor old new = AreNoted (has_ppi s) actor (event_guids event.changes.gone event.changes.there.items) old new
