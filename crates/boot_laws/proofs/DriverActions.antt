-- What an action of DXE may do to the queue: nothing, or it discovers volumes, which schedule their a priori drivers.
use Rattle.std.proofs.Common.{◌≡◌, ℕ, Some, refl, ◌⊎◌, inl, inr}
use Rattle.std.specs.Bool.{⊤}
use Rattle.act_code.specs.declared.action.Action.{Action}
use Rattle.mod_catalog.specs.declared.catalogue.Catalog.{Catalog}
use Rattle.boot_model.specs.{DxeMachine.DriverFrame, DxeMachine.DxeMachine, Reporting.newcomers}
use Rattle.boot_model.specs.DxeAction.{DxeEffect, dxe_effect, with_volumes}
use Rattle.boot_laws.specs.{EffectForms.EffectHas, DriverEffectForms.DriverRepliesHave}
use Rattle.boot_laws.proofs.DriverEffectForms.{driver_effect_has}

-- the queue and what it is made from stay
pub record HasQueueOf (old new : DxeMachine) : Type 0 where
  pub discovered : new.discovered ≡ old.discovered
  pub scheduled : new.scheduled ≡ old.scheduled
  pub started : new.started ≡ old.started
  pub actions : new.actions ≡ old.actions

-- volumes were discovered
abbrev pub Discovers : Catalog → DxeMachine → DxeMachine → Type 0
Discovers catalog old new = (volume : ℕ) × (new ≡ with_volumes catalog old (newcomers catalog old.discovered (Some volume)))

abbrev pub Follows : Catalog → DxeMachine → DxeMachine → Type 0
Follows catalog old new = HasQueueOf old new ⊎ Discovers catalog old new

abbrev pub EffectFollows : Catalog → DxeMachine → DxeEffect → Type 0
EffectFollows catalog m does = EffectHas (λ reply. Follows catalog m reply.machine) (λ registers. ⊤) does

replies_follow : (catalog : Catalog) (m : DxeMachine) (frame : DriverFrame) → DriverRepliesHave catalog m frame (λ action reply. Follows catalog m reply.machine)
replies_follow catalog m frame = record {
  refused = λ action status. inl (record { discovered = refl; scheduled = refl; started = refl; actions = refl });
  peek = λ v n bytes. inl (record { discovered = refl; scheduled = refl; started = refl; actions = refl });
  install = λ form h guid v target value handle new registers extra e. inl (record { discovered = refl; scheduled = refl; started = refl; actions = refl });
  reinstall = λ h guid old new handle before after done handles e. inl (record { discovered = refl; scheduled = refl; started = refl; actions = refl });
  uninstall = λ h guid v handle value done handles e. inl (record { discovered = refl; scheduled = refl; started = refl; actions = refl });
  locate = λ h v guid found e. inl (record { discovered = refl; scheduled = refl; started = refl; actions = refl });
  notify = λ guid block. inl (record { discovered = refl; scheduled = refl; started = refl; actions = refl });
  schedule = λ name number e. inl (record { discovered = refl; scheduled = refl; started = refl; actions = refl });
  process = λ v volume new. inr (volume, refl);
}

pub effect_follows : (catalog : Catalog) (m : DxeMachine) (frame : DriverFrame) (action : Action) → EffectFollows catalog m (dxe_effect catalog m frame action)
effect_follows catalog m frame action = driver_effect_has catalog m frame (λ _ reply. Follows catalog m reply.machine) (replies_follow catalog m frame) action
