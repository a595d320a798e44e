-- The core after what it does: a callback or a dispatch notification begins, a module registers for shadow, or starts. Own.
use Rattle.std.specs.Prelude.{ℕ, ◌+◌, ◌-◌, ◌^◌, min, List, [], ◌∷◌, slice_set, Some, None}
use Rattle.pi_base.specs.{declared.word.Word.Word, declared.word.Word.TheVariants.Success, declared.word.Word.TheVariants.AlreadyStarted}
use Rattle.store_model.specs.{declared.store_handle.Firing.Firing, declared.store_handle.Sweep.Sweep}
use Rattle.act_code.specs.declared.action.Action.{Action}
use Rattle.boot_model.specs.declared.peim_state.PeimState.{PeimState}
use Rattle.boot_model.specs.declared.peim_state.PeimState.TheVariants.{NotDispatched, Dispatched, RegisteredForShadow, Done}
use Rattle.boot_model.specs.PeiStep.{core_swept, notification_frame, start_frames, swept}
use Rattle.pei_core.specs.declared.core_state.Core.{Core}

abbrev pub with_callback : Core → Firing → Sweep → Core
with_callback core firing sweep = record core {
  frames = notification_frame firing ∷ swept core.frames sweep;
  sweep = core_swept core.frames sweep core.sweep;
}

abbrev pub with_notification : Core → Firing → Core
with_notification core firing = record core { frames = notification_frame firing ∷ []; sweep = None }

-- a module in a state registers for shadow: the first time that it does, it then awaits its second start
abbrev pub register_status : PeimState → Word
register_status NotDispatched = AlreadyStarted
register_status Dispatched = Success
register_status RegisteredForShadow = AlreadyStarted
register_status Done = AlreadyStarted

abbrev pub with_registered : PeimState → ℕ → Core → Core
with_registered NotDispatched number core = core
with_registered Dispatched number core = record core { states = slice_set core.states number RegisteredForShadow }
with_registered RegisteredForShadow number core = core
with_registered Done number core = core

-- the state after a module in this state starts: after its second start it awaits none
abbrev pub state_behind : PeimState → PeimState
state_behind NotDispatched = Dispatched
state_behind Dispatched = Done
state_behind RegisteredForShadow = Done
state_behind Done = Done

abbrev pub with_dispatched : PeimState → ℕ → Core → Core
with_dispatched state number core = record core { states = slice_set core.states number (state_behind state) }

-- and its script begins
abbrev pub with_started : PeimState → ℕ → List (List Action) → Core → Core
with_started state number blocks core = record (with_dispatched state number core) {
  frames = start_frames number blocks;
  sweep = None;
  starts = min (core.starts + 1) (2 ^ 32 - 1);
  last_start = Some number;
}
