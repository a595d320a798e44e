-- What is told along a run of DXE by choices, and what DXE then comes to, explained: at the end of a run of which all is told, or before the start of a driver that is not let.
-- Own.
use Rattle.std.specs.Prelude.{◌≡◌, ℕ, Bool, false, if◌then◌else◌, List, [], ◌++◌, Option, None, Some, option_to_list}
use Rattle.pi_base.specs.declared.guid.Guid.{Guid}
use Rattle.mod_catalog.specs.declared.catalogue.Catalog.{Catalog}
use Rattle.store_model.specs.{HandleState.has_protocol, StoreState.StoreState}
use Rattle.boot_model.specs.{declared.phase_end.DxeEnd.DxeEnd, DriverLicence.numbers_of, DxeMachine.DxeMachine, DxeRun.dxe_opening}
use Rattle.boot_laws.specs.{declared.choice.Reached.Reached, Naming.Rules}
use Rattle.boot_laws.specs.declared.choice.Reached.TheVariants as R
use Rattle.dxe_dispatch.specs.{Queue.Queue, declared.answer.Step.Step, declared.passes.Agenda.Agenda, PassList.IsPassListOf}
use Rattle.dxe_core.specs.Standing.{DxeCore, IsCoreOf, IsFor, StandsFor}
use Rattle.dxe_dispatch.specs.{declared.answer.Step.TheVariants.Acted, declared.answer.Step.TheVariants.Started, Ends.StandsAtEnd}
use Rattle.dxe_dispatch.specs.Choices.{IsDue, IsOnWay, IsRunBy, came}
use Rattle.boot_reasons.specs.{declared.dxe.DxeExplained.DxeExplained, declared.nowhere.Nowhere.Nowhere, declared.told.DxeTold.DxeTold}
use Rattle.explain_text.specs.{declared.reasons.Giver.Giver, declared.reasons.Held.Held}
use Rattle.boot_reasons.specs.DxeReasons.{dxe_begun, dxe_begun_at, dxe_giver, dxe_held}
use Rattle.boot_reasons.specs.{Noting.AreNoted, Noting.giver_in, Unseen.LetsUnseenAfter, Unseen.NamesUnseenAfter}

-- what is told of a run
pub record IsTold (catalog : Catalog) (earlier : List DxeMachine) (m : DxeMachine) (told : DxeTold) : Type 0 where
  pub begun : told.begun ≡ dxe_begun catalog earlier
  pub givers : (guid : Guid) → giver_in told.givers.map guid ≡ dxe_giver earlier m guid

-- what is told of a step that this actor made, behind which the core is so: which protocol came or went, or which driver started
abbrev pub Tells : Catalog → DxeCore → Giver → Step → DxeTold → DxeTold → Type 0
Tells catalog core actor (Acted event) told after =
    (after.begun ≡ told.begun)
    × AreNoted (has_protocol core.services.handles) actor (option_to_list event.changed) told.givers.map after.givers.map
Tells catalog core actor (Started next) told after =
    (after.givers ≡ told.givers)
    × ((m : DxeMachine) → IsCoreOf catalog core m → after.begun ≡ told.begun ++ dxe_begun_at catalog m (giver_in told.givers.map) next)

-- a run at its opening, of which nothing is told yet; EDK2's queue is kept, if it is wanted
pub record IsAtOpening {M : Type 0} (stands : M → StoreState → Type 0) (store : M) (catalog : Catalog) (fuel : ℕ) (s : StoreState) (actions : ℕ)
    (wants : Bool) (core : DxeCore) (agenda : Agenda) (told : DxeTold) : Type 0 where
  pub made : IsFor catalog fuel core
  pub on : IsOnWay stands store catalog core agenda.queue (dxe_opening catalog s actions)
  pub passes : IsPassListOf catalog wants (dxe_opening catalog s actions) (numbers_of (dxe_opening catalog s actions).scheduled) agenda.passes
  pub is_told : IsTold catalog [] (dxe_opening catalog s actions) told

-- a run by choices from an opening has come to its end, and all of it is told
pub record IsAtEnd {M : Type 0} (Names : List DxeMachine → DxeMachine → Option ℕ → Type 0) (Lets : List DxeMachine → DxeMachine → ℕ → Bool) (stands : M → StoreState → Type 0) (store : M)
    (catalog : Catalog) (fuel : ℕ) (opening : DxeMachine) (earlier : List DxeMachine) (core : DxeCore) (queue : Queue) (told : DxeTold) (how : DxeEnd) : Type 0 where
  pub run : IsRunBy Names Lets catalog fuel opening earlier
  pub ended : (came catalog fuel opening earlier).ended ≡ Some how
  pub stands_at_end : StandsAtEnd stands store catalog core queue (came catalog fuel opening earlier)
  pub is_told : IsTold catalog earlier (came catalog fuel opening earlier) told

-- or to a machine from which a driver is due that the choices do not let
pub record IsBarred (Names : List DxeMachine → DxeMachine → Option ℕ → Type 0) (Lets : List DxeMachine → DxeMachine → ℕ → Bool) (catalog : Catalog) (fuel : ℕ)
    (opening : DxeMachine) (earlier : List DxeMachine) (number : ℕ) : Type 0 where
  pub run : IsRunBy Names Lets catalog fuel opening earlier
  pub running : (came catalog fuel opening earlier).ended ≡ None
  pub due : IsDue (Names earlier) catalog (came catalog fuel opening earlier) number
  pub barred : Lets earlier due.target number ≡ false

-- either of the two
abbrev pub EndsTo : {M : Type 0} → (List DxeMachine → DxeMachine → Option ℕ → Type 0) → (List DxeMachine → DxeMachine → ℕ → Bool) → (M → StoreState → Type 0) → M → Catalog → ℕ
    → DxeMachine → DxeCore → Queue → DxeTold → Reached DxeEnd → Type 0
EndsTo Names Lets stands store catalog fuel opening core queue told (R.End how) =
    (earlier : List DxeMachine) × IsAtEnd Names Lets stands store catalog fuel opening earlier core queue told how
EndsTo Names Lets stands store catalog fuel opening core queue told (R.Barred number) =
    (earlier : List DxeMachine) × IsBarred Names Lets catalog fuel opening earlier number

-- from the opening over each state, with the actions and the fuel for which the core was made
abbrev pub Ends : {M : Type 0} → Rules Nowhere → ℕ → (M → StoreState → Type 0) → M → Catalog
    → DxeCore → Agenda → DxeTold → DxeCore → Queue → DxeTold → Reached DxeEnd → Type 0
Ends rules in_pei stands store catalog core agenda told later grown after reached =
    (s : StoreState) (actions fuel : ℕ) → IsAtOpening stands store catalog fuel s actions rules.wants_turn core agenda told
    → let opening = dxe_opening catalog s actions in
    EndsTo (NamesUnseenAfter rules in_pei catalog fuel opening) (LetsUnseenAfter rules in_pei catalog fuel opening) stands store catalog fuel opening later grown after reached

-- what is told of a driver, where it waits
abbrev pub held_where : Bool → List Held → List Held
held_where waits held = if waits then held else []

-- what is handed on are the lists of a run at its last machine
pub record IsDxeExplained (catalog : Catalog) (earlier : List DxeMachine) («end» : DxeMachine) (e : DxeExplained) : Type 0 where
  pub ended : «end».ended ≡ Some e.«end»
  pub begun : e.begun ≡ dxe_begun catalog earlier
  pub held : e.held ≡ dxe_held catalog «end» (dxe_giver earlier «end»)
  pub discovered : e.discovered ≡ «end».discovered
  pub actions_are : e.actions ≡ «end».actions

-- from each last machine of which all is told
abbrev pub ExplainsEnd : {M : Type 0} → (M → StoreState → Type 0) → M → Catalog → DxeCore → Queue → DxeTold → DxeEnd → DxeExplained → Type 0
ExplainsEnd stands store catalog core queue told how e =
    (earlier : List DxeMachine) («end» : DxeMachine) → «end».ended ≡ Some how → StandsAtEnd stands store catalog core queue «end»
    → IsTold catalog earlier «end» told → IsDxeExplained catalog earlier «end» e

-- a run by choices has come to its end and is explained
pub record ExplainsRun (Names : List DxeMachine → DxeMachine → Option ℕ → Type 0) (Lets : List DxeMachine → DxeMachine → ℕ → Bool) (catalog : Catalog) (fuel : ℕ)
    (opening : DxeMachine) (e : DxeExplained) : Type 0 where
  pub earlier : List DxeMachine
  pub run : IsRunBy Names Lets catalog fuel opening earlier
  pub explained : IsDxeExplained catalog earlier (came catalog fuel opening earlier) e

-- DXE by choices, explained, or left before a start
abbrev pub ExplainsTo : (List DxeMachine → DxeMachine → Option ℕ → Type 0) → (List DxeMachine → DxeMachine → ℕ → Bool) → Catalog → ℕ → DxeMachine → Reached DxeExplained → Type 0
ExplainsTo Names Lets catalog fuel opening (R.End e) = ExplainsRun Names Lets catalog fuel opening e
ExplainsTo Names Lets catalog fuel opening (R.Barred number) =
    (earlier : List DxeMachine) × IsBarred Names Lets catalog fuel opening earlier number

-- so over each state and fuel for which the core was made
abbrev pub Explains : {M : Type 0} → Rules Nowhere → ℕ → (M → StoreState → Type 0) → M → Catalog
    → DxeCore → Reached DxeExplained → Type 0
Explains rules in_pei stands store catalog core reached =
    (s : StoreState) (actions fuel : ℕ) → IsFor catalog fuel core → StandsFor stands store catalog core (dxe_opening catalog s actions)
    → let opening = dxe_opening catalog s actions in
    ExplainsTo (NamesUnseenAfter rules in_pei catalog fuel opening) (LetsUnseenAfter rules in_pei catalog fuel opening) catalog fuel opening reached

-- so behind the hand-off of a store, with the actions that PEI took
abbrev pub ExplainsBehind : Rules Nowhere → ℕ → Catalog → ℕ → ℕ → Reached DxeExplained → StoreState → Type 0
ExplainsBehind rules in_pei catalog fuel taken reached s =
    let opening = dxe_opening catalog s taken in
    ExplainsTo (NamesUnseenAfter rules in_pei catalog fuel opening) (LetsUnseenAfter rules in_pei catalog fuel opening) catalog fuel opening reached
