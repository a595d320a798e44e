-- The effects of the actions that both phases have are the same in each, and every other action is the phase's own.
-- Own.
use Rattle.std.specs.Prelude.{◌≡◌, Some, None}
use Rattle.act_code.specs.declared.action.Action.{Action}
use Rattle.boot_model.specs.{declared.frame.Frame.Frame, Effect.Effect, Effect.effect_by}
use Rattle.boot_model.specs.Effect as E
use Rattle.phase_parts.specs.Deed.{Deed, Wrote, Logged, Skipped, Returned, deed}

abbrev pub as_effect : {R O : Type 0} → Deed → Effect R O
as_effect (Wrote registers status) = E.Wrote registers status
as_effect (Logged text) = E.Logged text
as_effect (Skipped n) = E.Skipped n
as_effect (Returned status) = E.Returned status

pub record AreAlike (W R O : Type 0) : Type 0 where
  pub both : (own : Action → Effect R O) (frame : Frame W) (action : Action) (does : Deed) → deed frame action ≡ Some does → effect_by own frame action ≡ as_effect does
  pub one : (own : Action → Effect R O) (frame : Frame W) (action : Action) → deed frame action ≡ None → effect_by own frame action ≡ own action
