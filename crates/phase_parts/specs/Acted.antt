-- The outcome of the top frame's next action, with the fuel and the frames after it.
-- Own.
use Rattle.std.specs.Prelude.{◌≡◌, ◌<◌, List, [], ◌∷◌, None, length}
use Rattle.pi_base.specs.declared.phase.Phase.{Phase}
use Rattle.act_code.specs.{declared.action.Action.Action, declared.block.TheConstants.MOST_ACTIONS}
use Rattle.mod_catalog.specs.declared.catalogue.Catalog.{Catalog}
use Rattle.phase_parts.specs.{Deed.deed, Found.action_at, Needs.IsScriptAction, Spent.HasSpent, Spent.IsSpent, Took.HasDone}
use Rattle.boot_model.specs.declared.frame.Frame.{Frame}
use Rattle.phase_parts.specs.{declared.fuel.Fuel.Fuel, declared.next.Acted.Acted}
use Rattle.phase_parts.specs.declared.next.Acted.TheVariants as A

-- an action of its phase alone is there, in the script of a module, and nothing was done
pub record HasLeft {W : Type 0} (phase : Phase) (catalog : Catalog) (frame : Frame W) (below : List (Frame W)) (action : Action) (new : List (Frame W)) : Type 0 where
  pub is : action ≡ action_at phase catalog frame
  pub own : deed frame action ≡ None
  pub fits : IsScriptAction phase action
  pub within : frame.position < MOST_ACTIONS
  pub here : frame.module_number < length catalog.modules
  pub frames : new ≡ frame ∷ below

-- by the answer
abbrev pub HasActed : {W : Type 0} → Phase → Catalog → Frame W → List (Frame W) → Fuel → Acted → Fuel → List (Frame W) → Type 0
HasActed phase catalog frame below fuel A.Spent later new = IsSpent fuel later × (new ≡ frame ∷ below)
HasActed phase catalog frame below fuel A.Silent later new = HasSpent fuel later × HasDone frame below (action_at phase catalog frame) [] new
HasActed phase catalog frame below fuel (A.Prints line) later new = HasSpent fuel later × HasDone frame below (action_at phase catalog frame) (line ∷ []) new
HasActed phase catalog frame below fuel (A.Own action) later new = HasSpent fuel later × HasLeft phase catalog frame below action.now new
