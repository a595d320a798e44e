-- What PEI by choices comes to, explained: at the end of a run of which all is told, or before the start of a PEIM that is not let.
-- Own.
use Rattle.std.specs.Prelude.{◌≡◌, ℕ, Bool, List, [], Option, Some, None}
use Rattle.mod_catalog.specs.declared.catalogue.Catalog.{Catalog}
use Rattle.store_model.specs.{declared.store_handle.Sweep.Sweep, StoreState.Board, StoreState.StoreState}
use Rattle.boot_model.specs.{declared.phase_end.PeiEnd.PeiEnd, PeiMachine.PeiMachine, PeiRun.pei_opening}
use Rattle.boot_laws.specs.{declared.choice.Reached.Reached, Naming.Rules}
use Rattle.boot_laws.specs.declared.choice.Reached.TheVariants as R
use Rattle.pei_dispatch.specs.{declared.queue.PeiQueue.PeiQueue, Choices.IsRunBy, Choices.LetsPeims, Turns.IsNow}
use Rattle.pei_core.specs.{declared.pei.Pei.Pei, Standing.IsFor, Standing.StandsFor}
use Rattle.boot_reasons.specs.{declared.nowhere.Nowhere.Nowhere, declared.pei.PeiExplained.PeiExplained, declared.told.PeiTold.PeiTold}
use Rattle.boot_reasons.specs.{Moving.heap_used, Unseen.NamesUnseen}
use Rattle.boot_reasons.specs.PeiReasons.{pei_begun, pei_giver, pei_held, pei_moved}
use Rattle.boot_reasons.specs.PeiTelling.{IsAt, IsAtEnd, IsBarred, IsLeftAt, IsTold}

-- a run has come to its end, or to a PEIM that is not let
abbrev pub EndsTo : {M : Type 0} → (PeiMachine → Option ℕ → Type 0) → (PeiMachine → ℕ → Bool) → (M → StoreState → Type 0) → Board → Catalog → ℕ
    → Pei M → PeiQueue → PeiTold → Reached PeiEnd → Type 0
EndsTo Names Lets stands board catalog fuel pei queue told (R.End how) =
    (earlier : List PeiMachine) × («end» : PeiMachine) × IsAtEnd Names Lets stands board catalog fuel earlier «end» pei queue told how
EndsTo Names Lets stands board catalog fuel pei queue told (R.Barred number) =
    (earlier : List PeiMachine) × (m : PeiMachine) × IsBarred Names Lets board catalog fuel earlier m number

-- the core stands for the opening of a board
abbrev pub StandsAtOpening : {M : Type 0} → (M → StoreState → Type 0) → Catalog → Pei M → Type 0
StandsAtOpening stands catalog pei = (board : Board) × (fuel : ℕ) × IsFor catalog fuel pei × StandsFor stands pei (pei_opening board catalog)

-- the queue stands for the opening
abbrev pub IsOpened : {M : Type 0} → (M → StoreState → Type 0) → Catalog → Pei M → PeiQueue → Type 0
IsOpened stands catalog pei queue =
    (board : Board) (fuel : ℕ) → IsFor catalog fuel pei → StandsFor stands pei (pei_opening board catalog) → IsNow stands catalog pei queue (pei_opening board catalog)

-- a run at its opening, of which nothing is told yet
abbrev pub IsAtOpening : {M : Type 0} → Rules Nowhere → (M → StoreState → Type 0) → Board → Catalog → ℕ → Pei M → PeiQueue → PeiTold → Type 0
IsAtOpening rules stands board catalog fuel pei queue told =
    IsFor catalog fuel pei × IsAt (NamesUnseen rules catalog) (LetsPeims rules catalog) stands board catalog fuel [] (pei_opening board catalog) pei queue told

-- one of some board
abbrev pub BeginsTold : {M : Type 0} → Rules Nowhere → (M → StoreState → Type 0) → Catalog → Pei M → PeiQueue → PeiTold → Type 0
BeginsTold rules stands catalog pei queue told = (board : Board) × (fuel : ℕ) × IsAtOpening rules stands board catalog fuel pei queue told

-- from there
abbrev pub Ends : {M : Type 0} → Rules Nowhere → (M → StoreState → Type 0) → Catalog
    → Pei M → PeiQueue → PeiTold → Pei M → PeiQueue → PeiTold → Reached PeiEnd → Type 0
Ends rules stands catalog pei queue told later grown after reached =
    (board : Board) (fuel : ℕ) → IsAtOpening rules stands board catalog fuel pei queue told
    → EndsTo (NamesUnseen rules catalog) (LetsPeims rules catalog) stands board catalog fuel later grown after reached

-- what is handed on are the lists of a run at its last machine
pub record IsPeiExplained (catalog : Catalog) (earlier : List PeiMachine) («end» : PeiMachine) (e : PeiExplained) : Type 0 where
  pub ended : «end».ended ≡ Some e.«end»
  pub begun : e.begun ≡ pei_begun catalog earlier «end»
  pub held : e.held ≡ pei_held catalog «end» (pei_giver earlier «end»)
  pub reported : e.reported ≡ «end».reported
  pub moved : e.moved ≡ pei_moved earlier «end»
  pub heap : e.heap ≡ heap_used «end».store

-- from each last machine of which all is told
abbrev pub ExplainsEnd : {M : Type 0} → (M → StoreState → Type 0) → Catalog → Pei M → PeiQueue → PeiTold → PeiEnd → PeiExplained → Type 0
ExplainsEnd stands catalog pei queue told how e =
    (earlier : List PeiMachine) («end» : PeiMachine) → «end».ended ≡ Some how → IsLeftAt stands catalog pei queue «end»
    → IsTold catalog earlier «end» told → IsPeiExplained catalog earlier «end» e

-- a run by choices has come to its end and is explained, and the core stands for its last machine as it was before it ended
pub record ExplainsRun {M : Type 0} (Names : PeiMachine → Option ℕ → Type 0) (Lets : PeiMachine → ℕ → Bool) (stands : M → StoreState → Type 0) (board : Board) (catalog : Catalog) (fuel : ℕ)
    (pei : Pei M) (e : PeiExplained) : Type 0 where
  pub earlier : List PeiMachine
  pub «end» : PeiMachine
  pub run : IsRunBy Names Lets catalog fuel (pei_opening board catalog) earlier «end»
  pub explained : IsPeiExplained catalog earlier «end» e
  pub sweep : Option Sweep
  pub machine : StandsFor stands pei (record «end» { ended = None; core_sweep = sweep })

-- PEI by choices, explained, or left before a start
abbrev pub ExplainsTo : {M : Type 0} → (PeiMachine → Option ℕ → Type 0) → (PeiMachine → ℕ → Bool) → (M → StoreState → Type 0) → Board → Catalog → ℕ
    → Pei M → Reached PeiExplained → Type 0
ExplainsTo Names Lets stands board catalog fuel pei (R.End e) = ExplainsRun Names Lets stands board catalog fuel pei e
ExplainsTo Names Lets stands board catalog fuel pei (R.Barred number) =
    (earlier : List PeiMachine) × (m : PeiMachine) × IsBarred Names Lets board catalog fuel earlier m number

-- so over each board and fuel for which the core was made
abbrev pub Explains : {M : Type 0} → Rules Nowhere → (M → StoreState → Type 0) → Catalog
    → Pei M → Pei M → Reached PeiExplained → Type 0
Explains rules stands catalog pei later reached =
    (board : Board) (fuel : ℕ) → IsFor catalog fuel pei → StandsFor stands pei (pei_opening board catalog)
    → ExplainsTo (NamesUnseen rules catalog) (LetsPeims rules catalog) stands board catalog fuel later reached
