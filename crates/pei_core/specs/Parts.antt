-- What a part of a step leaves: the goal of its event, with the lines that were printed and the GUIDs that were changed, or why there is none. Own.
use Rattle.std.specs.Prelude.{◌≡◌, ℕ, ◌+◌, ◌<◌, Bool, true, List, [], ◌∷◌, length, Option, None, Result, Ok, Err, ⊤, option_and_then}
use Rattle.boot_io.specs.declared.halt.Halt.{Halt}
use Rattle.boot_io.specs.declared.halt.Halt.TheVariants as H
use Rattle.pi_base.specs.{Lists.Each, declared.guid.Guid.Guid, declared.phase.Phase.TheVariants.Pei}
use Rattle.mod_catalog.specs.declared.catalogue.Catalog.{Catalog}
use Rattle.store_model.specs.{declared.store_handle.Firing.Firing, declared.store_handle.Sweep.Sweep, StoreCall.IsDue}
use Rattle.store_model.specs.{StoreState.StoreState, Service.Service, Service.Install.core_install, StateFacts.IsDesc}
use Rattle.store_model.specs.Service.Sweep.{next_match}
use Rattle.act_code.specs.{declared.action.Action.Action, declared.block.TheConstants.MOST_ACTIONS}
use Rattle.boot_model.specs.{EvaluationBound.core_guids, EventGuids.placed_guids, EventGuids.taken_guid, PeiAction.effect}
use Rattle.boot_model.specs.PeiMachine.{PeiMachine, Frame}
use Rattle.boot_model.specs.PeiStep.{after_call, after_effect, core_called, open_sweep, shadowed}
use Rattle.boot_model.specs.declared.line.Line.TheVariants as L
use Rattle.phase_parts.specs.{Deed.deed, Needs.IsScriptAction}
use Rattle.pei_core.specs.{Taken.reply_in, declared.taken.Reply.Reply, declared.event.Event.Event, declared.event.Stepped.Stepped}
use Rattle.pei_core.specs.{declared.pei.Pei.Pei as OfPei, SecondStarts.IsAgain, Started.HasStarted, CoreCall.CoreCall, CoreCall.PrintedPart}
use Rattle.pei_core.specs.Standing.{Has, IsCoreOf, IsFor, StandsFor}
use Rattle.pei_core.specs.Steps.{HasStepped, StepsTo}
use Rattle.boot_trace.specs.Printing.{Texts}

-- this pair of the open sweep fires, or no pair does
abbrev pub FiresNext : Option (Firing × Sweep) → PeiMachine → Type 0
FiresNext next m = option_and_then (next_match m.store) (open_sweep m m.frames) ≡ next

-- no pair fires, and a script runs
pub record RunsScript (m : PeiMachine) : Type 0 where
  pub quiet : FiresNext None m
  pub top : Frame
  pub below : List Frame
  pub frames : m.frames ≡ top ∷ below

pub record RunsNone (m : PeiMachine) : Type 0 where
  pub quiet : FiresNext None m
  pub frames : m.frames ≡ []

abbrev pub MovesMemory : PeiMachine → Type 0
MovesMemory m = RunsNone m × IsDue m.store

abbrev pub PopsPair : PeiMachine → Type 0
PopsPair m = RunsNone m × (IsDue m.store → ⊥)

-- any machine
abbrev pub Anywhere : PeiMachine → Type 0
Anywhere m = ⊤

-- a step from each machine of a case that the core over its store stands for
abbrev pub StepsIn : {M : Type 0} → (PeiMachine → Type 0) → Bool → (M → StoreState → Type 0) → Catalog → CoreCall M → Result Stepped Halt → Type 0
StepsIn Case memory stands catalog call result =
    (m : PeiMachine) (fuel : ℕ) → IsFor catalog fuel call.pei → StandsFor stands call.pei m → Case m
    → StepsTo memory (Has stands call.later) catalog fuel m call.texts result

-- the goal of an event: a machine, with the GUIDs that are added and the one that is removed
pub record Goal : Type 0 where
  pub to : PeiMachine
  pub there : List Guid
  pub gone : Option Guid

-- the goal of the core's own call
abbrev pub called_goal : PeiMachine → Service Sweep → Goal
called_goal m service = record { to = core_called m service; there = core_guids service; gone = None }

-- the goal of an action of the top frame
abbrev pub action_goal : Catalog → PeiMachine → Frame → List Frame → Action → Goal
action_goal catalog m frame below action = record {
  to = after_effect catalog m frame below (effect m.store frame action);
  there = placed_guids m.store frame action;
  gone = taken_guid m.store frame action;
}

-- the goal of a reply, in the state after the call
abbrev pub reply_goal : Catalog → PeiMachine → Frame → List Frame → Reply → StoreState → Goal
reply_goal catalog m frame below reply new = record {
  to = after_call catalog m frame below (L.Call reply.name reply.status reply.extra) (reply_in reply frame.registers new);
  there = reply.changes.there.items;
  gone = reply.changes.gone;
}

-- the goal of a registration for shadow
abbrev pub shadow_goal : PeiMachine → Frame → List Frame → Goal
shadow_goal m frame below = record { to = shadowed m frame below; there = []; gone = None }

-- the event led there: the machine is there, its lines were written, and the event says what it changed
pub record LedTo (Stands : PeiMachine → Type 0) (m : PeiMachine) (goal : Goal) (t : Texts) (event : Event) : Type 0 where
  pub there : event.changes.there.items ≡ goal.there
  pub gone : event.changes.gone ≡ goal.gone
  pub again : IsAgain m goal.to event.again
  pub volumes : length goal.to.reported ≡ length m.reported + event.volumes
  pub stepped : HasStepped Stands m goal.to t

-- an event, by its answer; memory runs out only when the store takes it
abbrev pub LeadsThere : Bool → (PeiMachine → Type 0) → PeiMachine → Goal → Texts → Result Event Halt → Type 0
LeadsThere memory Stands m goal t (Ok event) = LedTo Stands m goal t event
LeadsThere memory Stands m goal t (Err H.Sink) = PrintedPart m goal.to t
LeadsThere memory Stands m goal t (Err H.Memory) = (memory ≡ true) × PrintedPart m goal.to t

-- the core's own call, from each machine that the core has
abbrev pub InstallsMemory : {M : Type 0} → Bool → (M → StoreState → Type 0) → CoreCall M → Result Event Halt → Type 0
InstallsMemory memory stands call result =
    (m : PeiMachine) → Has stands call.pei m → LeadsThere memory (Has stands call.later) m (called_goal m (core_install m.store)) call.texts result

-- an action of PEI's own is next in the script of a module, and no pair fires
pub record TakesOwn (catalog : Catalog) (action : Action) (m : PeiMachine) : Type 0 where
  pub top : Frame
  pub below : List Frame
  pub frames : m.frames ≡ top ∷ below
  pub own : deed top action ≡ None
  pub fits : IsScriptAction Pei action
  pub within : top.position < MOST_ACTIONS
  pub here : top.module_number < length catalog.modules

-- the action is taken, from each machine that the core stands for and whose top frame is at it
abbrev pub TakesAction : {M : Type 0} → Bool → (M → StoreState → Type 0) → Catalog → Action → CoreCall M → Result Event Halt → Type 0
TakesAction memory stands catalog action call result =
    (m : PeiMachine) → StandsFor stands call.pei m → (own : TakesOwn catalog action m)
    → LeadsThere memory (Has stands call.later) m (action_goal catalog m own.top own.below action) call.texts result

-- the module of the top frame has started, and registers for shadow
pub record IsRegistering {M : Type 0} (stands : M → StoreState → Type 0) (number : ℕ) (pei : OfPei M) (m : PeiMachine) (frame : Frame) (below : List Frame) : Type 0 where
  pub has : Has stands pei m
  pub frames : m.frames ≡ frame ∷ below
  pub started : HasStarted m.started number
  pub number_is : frame.module_number ≡ number

abbrev pub RegistersForShadow : {M : Type 0} → Bool → (M → StoreState → Type 0) → ℕ → CoreCall M → Result Event Halt → Type 0
RegistersForShadow memory stands number call result =
    (m : PeiMachine) (frame : Frame) (below : List Frame) → IsRegistering stands number call.pei m frame below
    → LeadsThere memory (Has stands call.later) m (shadow_goal m frame below) call.texts result

-- a service has replied to the top frame: the core is the machine's, and the store stands for the state after the call
pub record IsReplied {M : Type 0} (stands : M → StoreState → Type 0) (reply : Reply) (pei : OfPei M) (m : PeiMachine) (frame : Frame) (below : List Frame) (state : StoreState) : Type 0 where
  pub fields : IsCoreOf pei.core m
  pub frames : m.frames ≡ frame ∷ below
  pub store : stands pei.store state
  pub installed : Each (IsDesc state) reply.installs.items
  pub stays : state.moved ≡ m.store.moved

abbrev pub AnswersCall : {M : Type 0} → Bool → (M → StoreState → Type 0) → Catalog → Reply → CoreCall M → Result Event Halt → Type 0
AnswersCall memory stands catalog reply call result =
    (m : PeiMachine) (frame : Frame) (below : List Frame) (state : StoreState) → IsReplied stands reply call.pei m frame below state
    → LeadsThere memory (Has stands call.later) m (reply_goal catalog m frame below reply state) call.texts result
