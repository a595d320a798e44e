use Rattle.std.proofs.Common.{◌≡◌, true, true≢false, not, refl, sym, if◌then◌else◌}
use Rattle.boot_model.specs.{PeimState.has_started, declared.licence.Licence.Licence, declared.licence.Licence.TheVariants.Shadow}
use Rattle.boot_model.specs.{declared.peim_state.PeimState.PeimState, contracts.peim_state.PeimState.the_type}
use Rattle.boot_model.specs.declared.peim_state.PeimState.TheVariants.{NotDispatched, Dispatched, RegisteredForShadow, Done}
use Rattle.pei_dispatch.proofs.licence.licence_of.Goals as goal
use denote.Enum.Bare.{sameb}

-- a module that has started starts by its registration
shadow : (state : PeimState) (other : Licence) → not (sameb the_type state NotDispatched) ≡ true → Shadow ≡ (if has_started state then Shadow else other)
shadow NotDispatched other begun = absurd (true≢false (sym begun))
shadow Dispatched other begun = refl
shadow RegisteredForShadow other begun = refl
shadow Done other begun = refl

pub returns-then-ne : goal.returns-then-ne
returns-then-ne c = shadow c.args.state _ (sym c.if-ne.ensures)
