use Rattle.std.proofs.Common.{◌≡◌, refl}
use Rattle.boot_model.specs.declared.peim_state.PeimState.{PeimState}
use Rattle.boot_model.specs.declared.peim_state.PeimState.TheVariants.{NotDispatched, Dispatched, RegisteredForShadow, Done}
use Rattle.pei_core.specs.Cores.{state_behind}
use Rattle.pei_core.proofs.states.state_behind.Goals as goal

begun : (state : PeimState) → (state ≡ NotDispatched → ⊥) → Done ≡ state_behind state
begun NotDispatched other = absurd (other refl)
begun Dispatched other = refl
begun RegisteredForShadow other = refl
begun Done other = refl

pub returns-in_default : goal.returns-in_default
returns-in_default c = begun c.args.state c.in_default.not-NotDispatched
