-- What a part of a step leaves: the later machine with the lines that were printed and the protocol that was changed, or why there is none. Own.
use Rattle.std.specs.Prelude.{◌≡◌, ◌<◌, ℕ, List, ◌∷◌, Option, Some, None, Result, Ok, Err, option_and_then, option_to_list}
use Rattle.boot_io.specs.declared.halt.Halt.{Halt}
use Rattle.pi_base.specs.declared.phase.Phase.TheVariants.{Dxe}
use Rattle.act_code.specs.{declared.action.Action.Action, declared.block.TheConstants.MOST_ACTIONS}
use Rattle.mod_catalog.specs.declared.catalogue.Catalog.{Catalog}
use Rattle.store_model.specs.StoreState.{StoreState}
use Rattle.boot_model.specs.{DxeAction.dxe_effect, declared.driver.ProtocolNote.ProtocolNote, declared.driver.ProtocolSweep.ProtocolSweep}
use Rattle.boot_model.specs.{DxeMachine.DxeMachine, DxeMachine.DriverFrame, DxeStep.after_dxe_effect, DxeStep.next_note}
use Rattle.boot_model.specs.EvaluationBound.{dxe_action_guids}
use Rattle.boot_laws.specs.UnrequestedDrivers.{WaitForRequest}
use Rattle.phase_parts.specs.{Deed.deed, Frames.top_sweep, Needs.IsScriptAction}
use Rattle.dxe_core.specs.{Event.EventLeaves, Services.AreCounted, Services.AreServicesFor, declared.event.Event.Event}
use Rattle.dxe_core.specs.{declared.stepped.Stepped.Stepped, Turn.PrintedPart}
use Rattle.dxe_core.specs.Standing.{DxeCore, IsCoreOf, IsFor, StandsFor}
use Rattle.dxe_core.specs.Steps.{CoreCall, HasOver, HasStepped, StepsTo, texts_of}
use Rattle.boot_trace.specs.Printing.{Texts}

-- this notification of a frame's sweep begins next, with that sweep after it, or no notification does
abbrev pub FiresNext : Option (ProtocolNote × ProtocolSweep) → DxeMachine → DriverFrame → Type 0
FiresNext next m top = option_and_then (next_note m) top.sweep ≡ next

-- the next notification of the top one of the running frames
abbrev pub next_of_top : DxeMachine → List DriverFrame → Option (ProtocolNote × ProtocolSweep)
next_of_top m frames = option_and_then (next_note m) (top_sweep frames)

-- a script runs, and so it continues
pub record GoesOnWith (next : Option (ProtocolNote × ProtocolSweep)) (m : DxeMachine) : Type 0 where
  pub top : DriverFrame
  pub below : List DriverFrame
  pub frames : m.frames ≡ top ∷ below
  pub fires : FiresNext next m top

-- a script runs, and no notification begins next
abbrev pub RunsScript : DxeMachine → Type 0
RunsScript m = GoesOnWith None m

-- a step if no notification begins, from each machine that the core with its store stands for, and in which drivers wait for their request
abbrev pub StepsScript : {M : Type 0} → (M → StoreState → Type 0) → M → Catalog → CoreCall → Result Stepped Halt → Type 0
StepsScript stands store catalog call result =
    (m : DxeMachine) (fuel : ℕ) → IsFor catalog fuel call.before → StandsFor stands store catalog call.before m → WaitForRequest catalog m → RunsScript m
    → StepsTo (StandsFor stands store catalog call.later) catalog fuel m (texts_of call) result

-- a step in which this notification begins, from each machine that the core has; the store is unchanged
abbrev pub StepsFired : ProtocolNote × ProtocolSweep → Catalog → CoreCall → Result Stepped Halt → Type 0
StepsFired next catalog call result =
    (m : DxeMachine) (fuel : ℕ) → IsCoreOf catalog call.before m → GoesOnWith (Some next) m
    → StepsTo (HasOver catalog call.later m) catalog fuel m (texts_of call) result

-- an action of DXE's own is next in the top frame's script
pub record TakesOwn (action : Action) (m : DxeMachine) : Type 0 where
  pub top : DriverFrame
  pub below : List DriverFrame
  pub frames : m.frames ≡ top ∷ below
  pub own : deed top action ≡ None
  pub fits : IsScriptAction Dxe action
  pub within : top.position < MOST_ACTIONS

-- the machine after an action of its top frame
abbrev pub acted_to : Catalog → DxeMachine → DriverFrame → List DriverFrame → Action → DxeMachine
acted_to catalog m top below action = after_dxe_effect m top below (dxe_effect catalog m top action)

-- an action of DXE's own was taken, and this event is what it did
pub record HasTaken (Stands : DxeMachine → Type 0) (catalog : Catalog) (m : DxeMachine) (action : Action) (own : TakesOwn action m) (t : Texts) (event : Event) : Type 0 where
  pub changed : option_to_list event.changed ≡ dxe_action_guids catalog m own.top action
  pub left : EventLeaves catalog event m (acted_to catalog m own.top own.below action)
  pub stepped : HasStepped Stands m (acted_to catalog m own.top own.below action) t

-- by the answer
abbrev pub TakesTo : (DxeMachine → Type 0) → Catalog → (m : DxeMachine) (action : Action) → TakesOwn action m → Texts → Result Event Halt → Type 0
TakesTo Stands catalog m action own t (Ok event) = HasTaken Stands catalog m action own t event
TakesTo Stands catalog m action own t (Err halt) = PrintedPart m (acted_to catalog m own.top own.below action) t

-- an action of DXE's own, from each machine that the core with its store stands for and whose top frame is at it
abbrev pub ActsOwn : {M : Type 0} → (M → StoreState → Type 0) → M → Catalog → Action → CoreCall → Result Event Halt → Type 0
ActsOwn stands store catalog action call result =
    (m : DxeMachine) → StandsFor stands store catalog call.before m → WaitForRequest catalog m → (own : TakesOwn action m)
    → TakesTo (StandsFor stands store catalog call.later) catalog m action own (texts_of call) result

-- what an action leaves of what the core keeps, if n actions were counted before it
pub record KeepsFor (catalog : Catalog) (core later : DxeCore) : Type 0 where
  pub made : AreServicesFor catalog later.services
  pub counted : AreCounted later.fuel.taken later.services
  pub limit : later.fuel.limit ≡ core.fuel.limit
